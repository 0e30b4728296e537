use Rattle.std.proofs.Common.{drop}
use Rattle.t_terms.specs.ReadProgram.{program}
use Rattle.t_intern.specs.Grown.{Grown}
use Rattle.t_check.proofs.Bodies.{DataLeft}
use Rattle.t_check.proofs.program.check_heap.Given as goal

abbrev pub invariant-loop-tuple : goal.invariant-loop-tuple
invariant-loop-tuple l = record {
  grown : Grown l.fn.types l.types;
  left : DataLeft (program l.of.program.now) l.heap (drop l.tuple-index l.heap);
}
