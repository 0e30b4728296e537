-- The fields of a tuple and the registers of a file of the assembly language, as the code holds them.
use Rattle.std.proofs.Common.{◌≡◌, ℕ, zero, suc, ◌<◌, ◌≤◌, min, Bool, true, false, List, [], ◌∷◌}
use Rattle.std.proofs.Common.{length}
use Rattle.std.proofs.Common.{get_or, drop, Some, None, refl, ap, arith}
use Rattle.t_types.specs.Tree.{TFields, NoFields, MoreFields}
use Rattle.t_types.specs.Fields.{field}
use Rattle.t_types.specs.Read.{file, fields}
use Rattle.t_types.specs.declared.types.TType.{TType}
use Rattle.type_path.specs.Assembly.{in_fields, taken}
use Rattle.type_path.specs.ReadPart.{field_of}
use Rattle.type_path.specs.declared.step.Step.TheVariants.{Field}

pub field_there : (xs : List (TType × Bool)) (i : ℕ) (d : TType × Bool) → i < length xs →
    Some (field_of (get_or xs i d)) ≡ field (fields xs) i
field_there [] i d lt = let no : ⊥ = omega (arith, lt) in absurd no
field_there (x ∷ xs) zero d lt = refl
field_there (x ∷ xs) (suc i) d lt = field_there xs i d (omega (arith, lt))

pub field_gone : (xs : List (TType × Bool)) (i : ℕ) → length xs ≤ i → None ≡ field (fields xs) i
field_gone [] i le = refl
field_gone (x ∷ xs) zero le = let no : ⊥ = omega (arith, le) in absurd no
field_gone (x ∷ xs) (suc i) le = field_gone xs i (omega (arith, le))

-- flags that are strict are as they are
pub strict : (fs gs : TFields) → taken false fs gs ≡ fs
strict NoFields gs = refl
strict (MoreFields t x fs) NoFields = refl
strict (MoreFields t true fs) (MoreFields u y gs) = ap (MoreFields t true) (strict fs gs)
strict (MoreFields t false fs) (MoreFields u y gs) = ap (MoreFields t false) (strict fs gs)

-- where one tuple ends and the other one goes on, they differ
pub fields_ended : (loose : Bool) (xs ys : List (TType × Bool)) (i k : ℕ) → i ≡ min (length xs) (length ys) →
    (length xs ≡ length ys → ⊥) →
    in_fields k (taken loose (fields (drop i xs)) (fields (drop i ys))) (fields (drop i ys)) ≡ Some (Field k ∷ [])
fields_ended loose [] [] i k e ne = absurd (ne refl)
fields_ended loose [] (y ∷ ys) zero k e ne = refl
fields_ended loose [] (y ∷ ys) (suc i) k e ne = let no : ⊥ = omega (arith, e) in absurd no
fields_ended loose (x ∷ xs) [] zero k e ne = refl
fields_ended loose (x ∷ xs) [] (suc i) k e ne = let no : ⊥ = omega (arith, e) in absurd no
fields_ended loose (x ∷ xs) (y ∷ ys) zero k e ne = let no : ⊥ = omega (arith, e) in absurd no
fields_ended loose (x ∷ xs) (y ∷ ys) (suc i) k e ne =
    fields_ended loose xs ys i k (omega (arith, e)) (λ h. ne (omega (arith, h)))
