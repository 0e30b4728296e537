use Rattle.f_grammar.proofs.Exact as exact
use Rattle.f_grammar.proofs.text_laws.no_term_where_faulty.Goals as goal

pub returns : goal.returns
returns c = exact.no_term_where_faulty
