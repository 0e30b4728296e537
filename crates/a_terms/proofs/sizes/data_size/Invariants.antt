use Rattle.std.proofs.Common.{◌≡◌, take}
use Rattle.a_terms.proofs.Weighed.{sum_of, tuple_sum}
use Rattle.a_terms.proofs.sizes.data_size.Given as goal

abbrev pub invariant-loop-tuple : goal.invariant-loop-tuple
invariant-loop-tuple l = l.total ≡ sum_of tuple_sum (take l.tuple-index l.tuples)
