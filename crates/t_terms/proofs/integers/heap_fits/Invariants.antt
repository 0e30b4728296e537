use Rattle.std.proofs.Common.{drop}
use Rattle.t_terms.specs.Read.{data_of}
use Rattle.t_terms.specs.Values.{HeapValues}
use Rattle.t_terms.specs.Whole.{ValueFits}
use Rattle.t_terms.proofs.integers.heap_fits.Given as goal

abbrev pub invariant-loop-tuple : goal.invariant-loop-tuple
invariant-loop-tuple l =
    HeapValues ValueFits (data_of (drop l.tuple-index l.heap)) → HeapValues ValueFits (data_of l.heap)
