-- Laws of fits: it is an order, it goes through each walk, and fields are found and filled through it.
use Rattle.std.proofs.Common.{◌≡◌, ℕ, zero, suc, Bool, true, false, List, [], ◌∷◌, Some, refl, ap, ap₂, ◌∙◌}
use Rattle.std.proofs.Common.{IsTrue, ◌⊎◌, inl, inr, subst, sym}
use Rattle.idx_core.specs.Over.{At}
use Rattle.t_types.specs.Tree.{Ty, TupleTy, TFields, NoFields, MoreFields, over, over_fields, over_types}
use Rattle.t_types.specs.Fields.{AField, field, filled, empty_fields}
use Rattle.t_types.specs.Fits.{FieldsFit, Fits}

pub fields_fit_same : (fs : TFields) → FieldsFit fs fs
fields_fit_same NoFields = tt
fields_fit_same (MoreFields t flag fs) = (refl, (λ x. x), fields_fit_same fs)

-- a type fits itself, and where one fits another they are the same or are tuple types
pub fits_same : (t : Ty) → Fits t t
fits_same (TupleTy fs) = fields_fit_same fs
fits_same t = refl

pub fits_equal : (t u : Ty) → t ≡ u → Fits t u
fits_equal t u e = subst (Fits t) e (fits_same t)

pub fits_tuples : (t u : Ty) (fs gs : TFields) → t ≡ TupleTy fs → u ≡ TupleTy gs → FieldsFit fs gs → Fits t u
fits_tuples t u fs gs a b h = subst (λ z. Fits z u) (sym a) (subst (Fits (TupleTy fs)) (sym b) h)

abbrev pub FitAsTuples : Ty → Ty → Type 0
FitAsTuples t u = (fs : TFields) × (gs : TFields) × (t ≡ TupleTy fs) × (u ≡ TupleTy gs) × FieldsFit fs gs

pub fits_cases : (t u : Ty) → Fits t u → (t ≡ u) ⊎ FitAsTuples t u
fits_cases (TupleTy fs) (TupleTy gs) h = inr (fs, gs, refl, refl, h)
fits_cases t u e = inl e

pub fields_fit_next : (a b c : TFields) → FieldsFit a b → FieldsFit b c → FieldsFit a c
fields_fit_next NoFields NoFields c h k = k
fields_fit_next (MoreFields t x a) (MoreFields u y b) (MoreFields v z c) h k =
    (h.0 ∙ k.0, (λ e. h.1 (k.1 e)), fields_fit_next a b c h.2 k.2)
fields_fit_next (MoreFields t x a) (MoreFields u y b) NoFields h k = k
fields_fit_next NoFields (MoreFields u y b) c h k = absurd h
fields_fit_next (MoreFields t x a) NoFields c h k = absurd h

-- filling a field raises its flag
pub filled_fits : (fs : TFields) (i : ℕ) → FieldsFit (filled fs i) fs
filled_fits NoFields i = tt
filled_fits (MoreFields t flag fs) zero = (refl, (λ e. refl), fields_fit_same fs)
filled_fits (MoreFields t flag fs) (suc i) = (refl, (λ e. e), filled_fits fs i)

pub both_filled : (gs fs : TFields) (i : ℕ) → FieldsFit gs fs → FieldsFit (filled gs i) (filled fs i)
both_filled NoFields NoFields i h = tt
both_filled (MoreFields t own gs) (MoreFields u flag fs) zero h = (h.0, (λ e. refl), h.2)
both_filled (MoreFields t own gs) (MoreFields u flag fs) (suc i) h = (h.0, h.1, both_filled gs fs i h.2)
both_filled NoFields (MoreFields u flag fs) i h = absurd h
both_filled (MoreFields t own gs) NoFields i h = absurd h

-- a field that the older type has is there, with its type, and a flag that is no lower
pub field_fits : (gs fs : TFields) (i : ℕ) (t : Ty) (flag : Bool) → FieldsFit gs fs →
    field fs i ≡ Some (AField t flag) → (own : Bool) × (field gs i ≡ Some (AField t own)) × (IsTrue flag → IsTrue own)
field_fits NoFields NoFields i t flag h e = cc
field_fits (MoreFields u x gs) (MoreFields v y fs) zero t flag h e =
    let e1 : v ≡ t = cc in let e2 : y ≡ flag = cc in (x, ap (λ z. Some (AField z x)) (h.0 ∙ e1), (λ k. h.1 (e2 ∙ k)))
field_fits (MoreFields u x gs) (MoreFields v y fs) (suc i) t flag h e = field_fits gs fs i t flag h.2 e
field_fits NoFields (MoreFields u y fs) i t flag h e = absurd h
field_fits (MoreFields u x gs) NoFields i t flag h e = absurd h

-- the field that is filled has its flag at 1
pub filled_field : (fs : TFields) (i : ℕ) (t : Ty) (flag : Bool) → field fs i ≡ Some (AField t flag) →
    field (filled fs i) i ≡ Some (AField t true)
filled_field NoFields i t flag e = cc
filled_field (MoreFields u x fs) zero t flag e = let e1 : u ≡ t = cc in ap (λ z. Some (AField z true)) e1
filled_field (MoreFields u x fs) (suc i) t flag e = filled_field fs i t flag e

-- walks
pub fields_fit_over : (f : At Ty) (d : ℕ) (fs gs : TFields) → FieldsFit fs gs →
    FieldsFit (over_fields f d fs) (over_fields f d gs)
fields_fit_over f d NoFields NoFields h = tt
fields_fit_over f d (MoreFields t x fs) (MoreFields u y gs) h = (ap (over f d) h.0, h.1, fields_fit_over f d fs gs h.2)
fields_fit_over f d NoFields (MoreFields u y gs) h = h
fields_fit_over f d (MoreFields t x fs) NoFields h = h

pub fits_over : (f : At Ty) (d : ℕ) (t u : Ty) → Fits t u → Fits (over f d t) (over f d u)
fits_over f d (TupleTy fs) (TupleTy gs) h = fields_fit_over f d fs gs h
fits_over f d t u e = fits_equal (over f d t) (over f d u) (ap (over f d) e)

pub field_over : (f : At Ty) (d : ℕ) (fs : TFields) (i : ℕ) (t : Ty) (flag : Bool) →
    field fs i ≡ Some (AField t flag) → field (over_fields f d fs) i ≡ Some (AField (over f d t) flag)
field_over f d NoFields i t flag e = cc
field_over f d (MoreFields u x fs) zero t flag e =
    let e1 : u ≡ t = cc in let e2 : x ≡ flag = cc in ap₂ (λ y z. Some (AField (over f d y) z)) e1 e2
field_over f d (MoreFields u x fs) (suc i) t flag e = field_over f d fs i t flag e

pub filled_over : (f : At Ty) (d : ℕ) (fs : TFields) (i : ℕ) →
    over_fields f d (filled fs i) ≡ filled (over_fields f d fs) i
filled_over f d NoFields i = refl
filled_over f d (MoreFields u x fs) zero = refl
filled_over f d (MoreFields u x fs) (suc i) = ap (MoreFields (over f d u) x) (filled_over f d fs i)

pub empty_over : (f : At Ty) (d : ℕ) (ts : List Ty) →
    over_fields f d (empty_fields ts) ≡ empty_fields (over_types f d ts)
empty_over f d [] = refl
empty_over f d (t ∷ ts) = ap (MoreFields (over f d t) false) (empty_over f d ts)
