-- Tuples whose first fields are initialised.
use Rattle.std.proofs.Common.{◌≡◌, ℕ, zero, suc, ◌≤◌, ◌⊎◌, inl, inr, Some, refl, sym, ap, ◌∙◌, arith}
use Rattle.idx_core.specs.Laws.{shifted_ge}
use Rattle.a_terms.specs.Tree as a
use Rattle.a_terms.specs.Tree.{ashift, ashift_fields}
use Rattle.a_terms.specs.Typing.{or_int, field_of, filled_of, afilled, afield_type}
use Rattle.a_scope.specs.Scope.{filled_to}

-- under more names
pub filled_shift : (by i : ℕ) (t : a.ATy) → filled_of i (Some (ashift by 0 t)) ≡ ashift by 0 (filled_of i (Some t))
filled_shift by i a.AInt = refl
filled_shift by i (a.AVar n) = ap (λ u. filled_of i (Some u)) (shifted_ge a.AVar by 0 n (omega arith))
filled_shift by zero (a.ATuple fs) = refl
filled_shift by (suc i) (a.ATuple fs) = ap a.ATuple (go fs i)
  where
    go : (gs : a.AFields) (j : ℕ) → afilled (ashift_fields by 0 gs) j ≡ ashift_fields by 0 (afilled gs j)
    go a.NoAFields j = refl
    go (a.MoreAFields t b gs) zero = refl
    go (a.MoreAFields t b gs) (suc j) = ap (a.MoreAFields (ashift by 0 t) b) (go gs j)
filled_shift by i (a.ACode n ts) = refl
filled_shift by i (a.AExists t) = refl

pub filled_to_shift : (by n : ℕ) (t : a.ATy) → filled_to n (ashift by 0 t) ≡ ashift by 0 (filled_to n t)
filled_to_shift by zero t = refl
filled_to_shift by (suc n) t =
    ap (λ u. filled_of (suc n) (Some u)) (filled_to_shift by n t) ∙ filled_shift by (suc n) (filled_to n t)

-- the types of fields stay
field_filled : (i j : ℕ) (t : a.ATy) → field_of i (Some (filled_of (suc j) (Some t))) ≡ field_of i (Some t)
field_filled i j a.AInt = refl
field_filled i j (a.AVar n) = refl
field_filled zero j (a.ATuple fs) = refl
field_filled (suc i) j (a.ATuple fs) = ap or_int (go fs i j)
  where
    go : (gs : a.AFields) (i j : ℕ) → afield_type (afilled gs j) i ≡ afield_type gs i
    go a.NoAFields i j = refl
    go (a.MoreAFields t b gs) zero zero = refl
    go (a.MoreAFields t b gs) (suc i) zero = refl
    go (a.MoreAFields t b gs) zero (suc j) = refl
    go (a.MoreAFields t b gs) (suc i) (suc j) = go gs i j
field_filled i j (a.ACode n ts) = refl
field_filled i j (a.AExists t) = refl

pub field_filled_to : (i n : ℕ) (t : a.ATy) → field_of i (Some (filled_to n t)) ≡ field_of i (Some t)
field_filled_to i zero t = refl
field_filled_to i (suc n) t = field_filled i n (filled_to n t) ∙ field_filled_to i n t

-- the order of two fields does not matter, and each may be initialised again
swapped : (i j : ℕ) (t : a.ATy) →
    filled_of (suc i) (Some (filled_of (suc j) (Some t))) ≡ filled_of (suc j) (Some (filled_of (suc i) (Some t)))
swapped i j a.AInt = refl
swapped i j (a.AVar n) = refl
swapped i j (a.ATuple fs) = ap a.ATuple (go fs i j)
  where
    go : (gs : a.AFields) (i j : ℕ) → afilled (afilled gs j) i ≡ afilled (afilled gs i) j
    go a.NoAFields i j = refl
    go (a.MoreAFields t b gs) zero zero = refl
    go (a.MoreAFields t b gs) (suc i) zero = refl
    go (a.MoreAFields t b gs) zero (suc j) = refl
    go (a.MoreAFields t b gs) (suc i) (suc j) = ap (a.MoreAFields t b) (go gs i j)
swapped i j (a.ACode n ts) = refl
swapped i j (a.AExists t) = refl

twice : (i : ℕ) (t : a.ATy) → filled_of (suc i) (Some (filled_of (suc i) (Some t))) ≡ filled_of (suc i) (Some t)
twice i a.AInt = refl
twice i (a.AVar n) = refl
twice i (a.ATuple fs) = ap a.ATuple (go fs i)
  where
    go : (gs : a.AFields) (i : ℕ) → afilled (afilled gs i) i ≡ afilled gs i
    go a.NoAFields i = refl
    go (a.MoreAFields t b gs) zero = refl
    go (a.MoreAFields t b gs) (suc i) = ap (a.MoreAFields t b) (go gs i)
twice i (a.ACode n ts) = refl
twice i (a.AExists t) = refl

last_or_less : (i n : ℕ) → suc i ≤ suc n → (i ≡ n) ⊎ (suc i ≤ n)
last_or_less zero zero le = inl refl
last_or_less zero (suc n) le = inr (omega arith)
last_or_less (suc i) zero le = absurd (omega arith)
last_or_less (suc i) (suc n) le =
    elim (last_or_less i n (omega arith)) [ inl e ↦ inl (ap suc e) | inr l ↦ inr (omega (arith, l)) ]

-- a field among the first ones that is initialised again
again : (i n : ℕ) (t : a.ATy) → suc i ≤ n → filled_to n t ≡ filled_of (suc i) (Some (filled_to n t))
again i zero t le = absurd (omega arith)
again i (suc n) t le =
    elim (last_or_less i n le) [
      | inl e ↦ sym (ap (λ j. filled_of (suc j) (Some (filled_to (suc n) t))) e ∙ twice n (filled_to n t))
      | inr l ↦ ap (λ u. filled_of (suc n) (Some u)) (again i n t l) ∙ swapped n i (filled_to n t)
    ]

pub filled_again : (i n : ℕ) (t : a.ATy) → 1 ≤ i → i ≤ n → filled_to n t ≡ filled_of i (Some (filled_to n t))
filled_again zero n t some le = absurd (omega arith)
filled_again (suc i) n t some le = again i n t le
