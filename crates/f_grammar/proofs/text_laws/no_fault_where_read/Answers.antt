use Rattle.f_grammar.proofs.Exact as exact
use Rattle.f_grammar.proofs.text_laws.no_fault_where_read.Goals as goal

pub returns : goal.returns
returns c = exact.no_fault_where_read
