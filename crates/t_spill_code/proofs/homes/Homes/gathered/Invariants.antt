use Rattle.std.proofs.Common.{◌≤◌, length}
use Rattle.t_spill_code.proofs.Gathered.{Placed}
use Rattle.t_spill_code.proofs.homes.Homes.gathered.Given as goal

abbrev pub invariant-loop-left : goal.invariant-loop-left
invariant-loop-left l = record {
  within : l.left ≤ length l.high;
  places : Placed l.places l.left l.high;
}

abbrev pub decreases-loop-left : goal.decreases-loop-left
decreases-loop-left l = l.left
