use Rattle.t_text.proofs.Exact as exact
use Rattle.t_text.proofs.laws.no_token_fault_where_cut.Goals as goal

pub returns : goal.returns
returns c = exact.no_token_fault_where_cut
