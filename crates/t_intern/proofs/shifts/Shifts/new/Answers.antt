use Rattle.std.proofs.Common.{ap}
use Rattle.std.specs.Map.{lookup}
use Rattle.t_intern.specs.Found.{same_shift}
use Rattle.t_intern.proofs.MadeShifts.{no_shifts}
use Rattle.t_intern.proofs.shifts.Shifts.new.Goals as goal

pub returns : goal.returns
returns c = λ ts. no_shifts _ ts (λ k. ap (lookup (same_shift k)) c.with_hasher.ensures.empty)
