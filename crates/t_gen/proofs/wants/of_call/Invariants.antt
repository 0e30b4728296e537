use Rattle.std.proofs.Common.{◌≤◌, length}
use Rattle.t_gen.proofs.Wanting.{Wished}
use Rattle.t_gen.proofs.wants.of_call.Given as goal

abbrev pub invariant-loop-left : goal.invariant-loop-left
invariant-loop-left l =
    record { one : 1 ≤ l.left; few : l.left ≤ length l.values; wished : Wished l.registers l.left l.values }

abbrev pub decreases-loop-left : goal.decreases-loop-left
decreases-loop-left l = l.left
