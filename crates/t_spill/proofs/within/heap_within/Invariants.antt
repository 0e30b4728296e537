use Rattle.std.proofs.Common.{◌↔◌, drop}
use Rattle.t_terms.specs.Read.{data_of}
use Rattle.t_spill_laws.specs.Bound.{InHeap}
use Rattle.t_spill.proofs.within.heap_within.Given as goal

abbrev pub invariant-loop-tuple : goal.invariant-loop-tuple
invariant-loop-tuple l = InHeap l.k (data_of l.heap) ↔ InHeap l.k (data_of (drop l.tuple-index l.heap))
