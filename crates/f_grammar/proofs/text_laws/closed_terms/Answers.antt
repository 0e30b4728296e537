use Rattle.f_grammar.proofs.Exact as exact
use Rattle.f_grammar.proofs.text_laws.closed_terms.Goals as goal

pub returns : goal.returns
returns c = exact.closed_terms
