use Rattle.std.proofs.Common.{◌≡◌, take}
use Rattle.a_terms.proofs.Weighed.{sum_of, weighed}
use Rattle.a_terms.proofs.sizes.values_weight.Given as goal

abbrev pub invariant-loop-v : goal.invariant-loop-v
invariant-loop-v l = l.total ≡ sum_of weighed (take l.v-index l.vs)
