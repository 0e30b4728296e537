use Rattle.std.proofs.Common.{◌≡◌, length, drop}
use Rattle.t_types.specs.Fits.{lookup}
use Rattle.t_types.specs.Read.{file}
use Rattle.t_terms.specs.Spanned.{seq_of}
use Rattle.t_terms.specs.Read.{body, end_of}
use Rattle.t_terms.specs.ReadProgram.{program}
use Rattle.t_terms.specs.Whole.{WellFormedSeq}
use Rattle.t_intern.specs.Grown.{Grown}
use Rattle.t_known.specs.Known.{known, IsSound}
use Rattle.t_check.proofs.Bodies.{IsLeft}
use Rattle.t_check.proofs.program.check_block.Given as goal

abbrev pub invariant-loop-step : goal.invariant-loop-step
invariant-loop-step l = record {
  grown : Grown l.fn.types l.types;
  sound : IsSound l.types l.checker.registers;
  same : l.checker.program.now ≡ l.of.program.now;
  labels : l.checker.labels.now ≡ l.of.labels.now;
  formed : WellFormedSeq (length l.of.program.now.blocks.items) (length l.of.program.now.heap.items)
      l.checker.registers.names
      (seq_of (body (drop l.step-index l.step-items)) (end_of l.block.end));
  left : IsLeft (program l.of.program.now) (end_of l.block.end) l.block.end_span l.block.owes l.checker.registers.names
      (lookup (file l.block.regs.regs.items)) (known l.types l.checker.registers) l.step-items
      (drop l.step-index l.step-items);
}
