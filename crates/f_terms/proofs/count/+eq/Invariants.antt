use Rattle.std.proofs.Common.{◌≡◌, ◌<◌, ℕ, get_or}
use Rattle.f_terms.specs.Read.{tree}
use Rattle.f_terms.specs.declared.types.FType.{FType}
use Rattle.f_terms.proofs.count.+eq.Given as goal

abbrev pub decreases-eq : goal.decreases-eq
decreases-eq l = goal.size-eq l

abbrev pub invariant-loop-i : goal.invariant-loop-i
invariant-loop-i l = (k : ℕ) → k < l.i → (d : FType) → tree (get_or l.s-items k d) ≡ tree (get_or l.ts.items k d)
