use Rattle.std.proofs.Common.{take}
use Rattle.t_intern.specs.Grown.{Grown, AreNumbers}
use Rattle.t_known.specs.Labels.{tuple_types}
use Rattle.t_known.proofs.labels.number_heap.Given as goal

abbrev pub invariant-loop-tuple : goal.invariant-loop-tuple
invariant-loop-tuple l = record {
  grown : Grown l.fn.types l.types;
  made : AreNumbers l.types (tuple_types (take l.tuple-index l.heap)) l.made.items;
}
