use Rattle.f_lexer.proofs.Exact as exact
use Rattle.f_lexer.proofs.laws.no_fault_where_cut.Goals as goal

pub returns : goal.returns
returns c = exact.no_fault_where_cut
