use Rattle.t_machine.proofs.Seldom.{seldom_covered}
use Rattle.t_machine.proofs.laws.seldom_runs_are_covered.Goals as goal

pub returns : goal.returns
returns c = seldom_covered c.runs_weigh_within_times.ensures
