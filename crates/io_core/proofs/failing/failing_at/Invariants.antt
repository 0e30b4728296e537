use Rattle.std.proofs.Common.{◌≡◌, drop}
use Rattle.io_core.specs.Failing.{failing_at}
use Rattle.io_core.proofs.failing.failing_at.Given as goal

abbrev pub invariant-loop-pair : goal.invariant-loop-pair
invariant-loop-pair l = failing_at l.failing l.call ≡ failing_at (drop l.pair-index l.failing) l.call
