use Rattle.t_rules.proofs.ErasedRun.{runs_join, steps_first, erased_halting_is_last}
use Rattle.t_rules.proofs.erasure.erased_runs_join.Goals as goal

pub returns : goal.returns
returns c = record { join = runs_join; first = steps_first; last = erased_halting_is_last }
