use Rattle.t_rules.proofs.Tallies.{runs_weigh_within_times}
use Rattle.t_rules.proofs.times.runs_weigh_within_times.Goals as goal

pub returns : goal.returns
returns c = runs_weigh_within_times
