use Rattle.std.proofs.Common.{◌≡◌, take}
use Rattle.a_terms.proofs.Weighed.{sum_of, type_bulk}
use Rattle.a_terms.proofs.sizes.bulk_sum.Given as goal

abbrev pub invariant-loop-t : goal.invariant-loop-t
invariant-loop-t l = l.total ≡ sum_of type_bulk (take l.t-index l.ts)
