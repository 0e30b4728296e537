use Rattle.t_text.proofs.Exact as exact
use Rattle.t_text.proofs.laws.at_most_one_cut.Goals as goal

pub returns : goal.returns
returns c = exact.at_most_one_cut
