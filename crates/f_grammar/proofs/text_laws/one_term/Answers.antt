use Rattle.f_grammar.proofs.Exact as exact
use Rattle.f_grammar.proofs.text_laws.one_term.Goals as goal

pub returns : goal.returns
returns c = exact.one_term
