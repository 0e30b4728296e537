use Rattle.t_rules.proofs.ErasedRun.{runs_erase, runs_come_of}
use Rattle.t_rules.proofs.erasure.erased_runs_are_runs.Goals as goal

pub returns : goal.returns
returns c = record { erase = runs_erase; come_of = runs_come_of }
