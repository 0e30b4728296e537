use Rattle.std.proofs.Common.{◌≡◌, take}
use Rattle.a_terms.specs.Weights.{wrap_weight}
use Rattle.a_terms.proofs.Weighed.{sum_of}
use Rattle.a_terms.proofs.sizes.wraps_weight.Given as goal

abbrev pub invariant-loop-w : goal.invariant-loop-w
invariant-loop-w l = l.total ≡ sum_of wrap_weight (take l.w-index l.ws)
