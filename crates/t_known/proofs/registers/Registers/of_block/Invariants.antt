use Rattle.std.proofs.Common.{◌≤◌, length, drop}
use Rattle.t_known.proofs.Noting.{IsHeader}
use Rattle.t_known.proofs.registers.Registers.of_block.Given as goal

abbrev pub invariant-loop-left : goal.invariant-loop-left
invariant-loop-left l = record {
  within : l.left ≤ length l.regs;
  header : IsHeader l.owes (drop l.left l.regs) l.made;
}

abbrev pub decreases-loop-left : goal.decreases-loop-left
decreases-loop-left l = l.left
