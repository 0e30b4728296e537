use Rattle.t_rules.proofs.ErasedRun.{halts_erased}
use Rattle.t_rules.proofs.erasure.erased_runs_halt_alike.Goals as goal

pub returns : goal.returns
returns c = halts_erased
