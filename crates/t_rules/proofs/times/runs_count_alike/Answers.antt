use Rattle.t_rules.proofs.ErasedRun.{runs_count_alike}
use Rattle.t_rules.proofs.times.runs_count_alike.Goals as goal

pub returns : goal.returns
returns c = runs_count_alike
