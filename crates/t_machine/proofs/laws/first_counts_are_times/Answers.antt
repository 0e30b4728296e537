use Rattle.t_machine.proofs.Counting.{first_counts}
use Rattle.t_machine.proofs.laws.first_counts_are_times.Goals as goal

pub returns : goal.returns
returns c = first_counts
