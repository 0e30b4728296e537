use Rattle.std.proofs.Common.{◌≡◌, drop}
use Rattle.t_terms.specs.Read.{spanned_heap}
use Rattle.listing.specs.Before.{in_heap}
use Rattle.listing.proofs.cut_place.in_heap.Given as goal

abbrev pub invariant-loop-tuple : goal.invariant-loop-tuple
invariant-loop-tuple l =
    in_heap l.place (spanned_heap l.heap) ≡ in_heap l.place (spanned_heap (drop l.tuple-index l.heap))
