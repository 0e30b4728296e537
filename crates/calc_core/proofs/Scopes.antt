-- Types in scope, one for each name.
use Rattle.std.proofs.Common.{◌≡◌, ◌∷◌, ◌<◌, ℕ, zero, suc, List, [], length, refl, ap, arith}
use Rattle.calc_core.specs.Types.{Ty}
use Rattle.calc_core.specs.Substitution.{scope_renamed}
use Rattle.calc_core.specs.Scope.{IsTypeOf}

pub scope_length : (r : ℕ → ℕ) (g : List Ty) → length (scope_renamed r g) ≡ length g
scope_length r [] = refl
scope_length r (t ∷ g) = ap suc (scope_length r g)

pub named_below : (g : List Ty) (i : ℕ) (t : Ty) → IsTypeOf g i t → i < length g
named_below [] i t h = absurd h
named_below (u ∷ g) zero t h = omega arith
named_below (u ∷ g) (suc i) t h = omega (arith, named_below g i t h)
