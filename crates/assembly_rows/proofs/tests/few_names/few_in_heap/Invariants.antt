use Rattle.std.proofs.Common.{◌↔◌, drop}
use Rattle.t_terms.specs.Read.{data_of}
use Rattle.assembly_rows.specs.FewNames.{FewInHeap}
use Rattle.assembly_rows.proofs.tests.few_names.few_in_heap.Given as goal

abbrev pub invariant-loop-tuple : goal.invariant-loop-tuple
invariant-loop-tuple l = FewInHeap l.k (data_of l.heap) ↔ FewInHeap l.k (data_of (drop l.tuple-index l.heap))
