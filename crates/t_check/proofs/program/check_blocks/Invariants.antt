use Rattle.std.proofs.Common.{drop}
use Rattle.t_terms.specs.ReadProgram.{program}
use Rattle.t_intern.specs.Grown.{Grown}
use Rattle.t_check.proofs.Bodies.{AreLeft}
use Rattle.t_check.proofs.program.check_blocks.Given as goal

abbrev pub invariant-loop-i : goal.invariant-loop-i
invariant-loop-i l = record {
  grown : Grown l.fn.types l.types;
  left : AreLeft (program l.of.program.now) l.blocks (drop l.i l.blocks);
}
