use Rattle.std.proofs.Common.{ℕ, drop, ◌≤◌, length}
use Rattle.t_types.specs.Read.{file}
use Rattle.t_spill.specs.Known.{Knows}
use Rattle.t_spill.proofs.known.Known.of.Given as goal

abbrev pub invariant-loop-left : goal.invariant-loop-left
invariant-loop-left l = record {
  within : l.left ≤ length l.regs;
  knows : (n : ℕ) → Knows n l.known (file (drop l.left l.regs));
}

abbrev pub decreases-loop-left : goal.decreases-loop-left
decreases-loop-left l = l.left
