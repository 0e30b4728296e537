-- Fields made one by one.
use Rattle.std.proofs.Common.{◌≡◌, ℕ, zero, suc, ◌+◌, ◌<◌, ◌≤◌, ◌==◌, Bool, false, List, [], ◌∷◌, ◌++◌, map}
use Rattle.std.proofs.Common.{refl, sym, ap, ap₂, ◌∙◌, take, drop, length, get_or, arith}
use Rattle.std.specs.Prelude.{◌||◌}
use Rattle.std.proofs.lemmas.List.{take_all, drop_all, append-nil}
use Rattle.std.proofs.lemmas.Bool.{ne_eqb, eq-eqb}
use Rattle.t_types.specs.declared.types.TType.{TType}
use Rattle.t_types.specs.Tree.{Ty, IntTy, MoreFields, flagged}
use Rattle.t_types.specs.Fields.{field, filled, empty_fields}
use Rattle.t_types.specs.Read.{tree, flag, fields, types}
use Rattle.t_spill_rules.specs.Spill.{type_in}
use Rattle.std.proofs.Math.Bool.{or-false as or_false}
use Rattle.idx_core.proofs.Bools.{or_true}

abbrev pub empty_flag : TType → Ty × Bool
empty_flag t = (tree t, false)

empty_are : (ts : List TType) → flagged (map empty_flag ts) ≡ empty_fields (types ts)
empty_are [] = refl
empty_are (t ∷ ts) = ap (MoreFields (tree t) false) (empty_are ts)

pub made_empty : (ys : List (TType × Bool)) (ts : List TType) (n : ℕ) → map flag ys ≡ map empty_flag (take n ts) →
    length ts ≤ n → fields ys ≡ empty_fields (types ts)
made_empty ys ts n done all =
    ap flagged (done ∙ ap (λ (us : List TType). map empty_flag us) (take_all n ts all)) ∙ empty_are ts

-- fields from number j on, with number i filled
abbrev pub marked : List (TType × Bool) → ℕ → ℕ → List (Ty × Bool)
marked [] j i = []
marked (x ∷ xs) j i = (tree x.0, x.1 || (j == i)) ∷ marked xs (j + 1) i

passed : (xs : List (TType × Bool)) (j i : ℕ) → i < j → flagged (marked xs j i) ≡ fields xs
passed [] j i lt = refl
passed (x ∷ xs) j i lt =
    ap₂ (λ b y. MoreFields (tree x.0) b y)
    (ap (λ b. x.1 || b) (ne_eqb j i (λ e. absurd (omega (arith, e, lt)))) ∙ or_false x.1)
    (passed xs (j + 1) i (omega (arith, lt)))

marks : (xs : List (TType × Bool)) (j i : ℕ) → flagged (marked xs j (j + i)) ≡ filled (fields xs) i
marks [] j i = refl
marks (x ∷ xs) j zero =
    let e : j ≡ j + 0 = omega arith in
    ap₂ (λ b y. MoreFields (tree x.0) b y) (ap (λ b. x.1 || b) (eq-eqb j (j + 0) e) ∙ or_true x.1)
    (passed xs (j + 1) (j + 0) (omega arith))
marks (x ∷ xs) j (suc i) =
    let e : j + suc i ≡ j + 1 + i = omega arith in
    ap₂ (λ b y. MoreFields (tree x.0) b y) (ap (λ b. x.1 || b) (ne_eqb j (j + suc i) (λ z. absurd (omega (arith, z))))
    ∙ or_false x.1)
    (ap (λ k. flagged (marked xs (j + 1) k)) e ∙ marks xs (j + 1) i)

pub made_filled : (ys xs : List (TType × Bool)) (i : ℕ) → map flag ys ≡ marked xs 0 i → fields ys ≡ filled (fields xs) i
made_filled ys xs i e =
    let z : i ≡ 0 + i = omega arith in ap flagged e ∙ ap (λ k. flagged (marked xs 0 k)) z ∙ marks xs 0 i

pub fill_done : (ys xs : List (TType × Bool)) (j i : ℕ) → map flag ys ++ marked (drop j xs) j i ≡ marked xs 0 i →
    length xs ≤ j → fields ys ≡ filled (fields xs) i
fill_done ys xs j i e all =
    made_filled ys xs i
    (sym (append-nil (map flag ys))
    ∙ ap (λ (zs : List (TType × Bool)). map flag ys ++ marked zs j i) (sym (drop_all j xs all)) ∙ e)

mark_suc : (xs : List (TType × Bool)) (k j i : ℕ) (d : TType × Bool) → k < length xs →
    marked (drop k xs) j i ≡ (tree (get_or xs k d).0, (get_or xs k d).1 || (j == i))
    ∷ marked (drop (suc k) xs) (j + 1) i
mark_suc [] k j i d lt = absurd (omega arith)
mark_suc (x ∷ xs) zero j i d lt = refl
mark_suc (x ∷ xs) (suc k) j i d lt = mark_suc xs k j i d (omega arith)

pub field_is : (xs : List (TType × Bool)) (i : ℕ) (d : TType × Bool) → i < length xs →
    tree (get_or xs i d).0 ≡ type_in (field (fields xs) i)
field_is [] i d lt = absurd (omega arith)
field_is (x ∷ xs) zero d lt = refl
field_is (x ∷ xs) (suc i) d lt = field_is xs i d (omega arith)

pub no_field : (xs : List (TType × Bool)) (i : ℕ) → length xs ≤ i → type_in (field (fields xs) i) ≡ IntTy
no_field [] i le = refl
no_field (x ∷ xs) zero le = absurd (omega arith)
no_field (x ∷ xs) (suc i) le = no_field xs i (omega arith)
