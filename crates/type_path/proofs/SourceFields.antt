-- The fields of a tuple of the source, as the code holds them.
use Rattle.std.proofs.Common.{◌≡◌, ℕ, zero, suc, ◌<◌, ◌≤◌, min, List, [], ◌∷◌, length, get_or, drop, map}
use Rattle.std.proofs.Common.{Some, None, refl, arith}
use Rattle.f_terms.specs.Ty.{tys}
use Rattle.f_terms.specs.Typing.{ty_at}
use Rattle.f_terms.specs.Read.{tree}
use Rattle.f_terms.specs.declared.types.FType.{FType}
use Rattle.type_path.specs.Source.{differences}
use Rattle.type_path.specs.declared.step.Step.TheVariants.{Field}

pub field_there : (ts : List FType) (i : ℕ) (d : FType) → i < length ts →
    Some (tree (get_or ts i d)) ≡ ty_at (tys (map tree ts)) i
field_there [] i d lt = let no : ⊥ = omega (arith, lt) in absurd no
field_there (t ∷ ts) zero d lt = refl
field_there (t ∷ ts) (suc i) d lt = field_there ts i d (omega (arith, lt))

pub field_gone : (ts : List FType) (i : ℕ) → length ts ≤ i → None ≡ ty_at (tys (map tree ts)) i
field_gone [] i le = refl
field_gone (t ∷ ts) zero le = let no : ⊥ = omega (arith, le) in absurd no
field_gone (t ∷ ts) (suc i) le = field_gone ts i (omega (arith, le))

-- where one tuple ends and the other one goes on, they differ
pub ended : (ts us : List FType) (i k : ℕ) → i ≡ min (length ts) (length us) → (length ts ≡ length us → ⊥) →
    differences k (tys (map tree (drop i ts))) (tys (map tree (drop i us))) ≡ Some (Field k ∷ [])
ended [] [] i k e ne = absurd (ne refl)
ended [] (u ∷ us) zero k e ne = refl
ended [] (u ∷ us) (suc i) k e ne = let no : ⊥ = omega (arith, e) in absurd no
ended (t ∷ ts) [] zero k e ne = refl
ended (t ∷ ts) [] (suc i) k e ne = let no : ⊥ = omega (arith, e) in absurd no
ended (t ∷ ts) (u ∷ us) zero k e ne = let no : ⊥ = omega (arith, e) in absurd no
ended (t ∷ ts) (u ∷ us) (suc i) k e ne = ended ts us i k (omega (arith, e)) (λ h. ne (omega (arith, h)))
