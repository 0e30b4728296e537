-- Types are a set, and that one fits another is a proposition.
use Rattle.std.proofs.Common.{◌≡◌, Bool, true, false, Option, Some, refl, sym, ap, ◌∙◌}
use Rattle.std.proofs.Math.Decide.{ℕ_discrete}
use Rattle.std.proofs.Props.{props}
use Rattle.std.proofs.lemmas.Option.{same_Some}
use mathlib.Core.HLevel.{hedberg, is_prop→PathP}
use Rattle.t_types.specs.Tree.{Ty, IntTy, VarTy, CodeTy, ExistsTy, TupleTy, TFile, NoRegs, MoreRegs, TFields, NoFields}
use Rattle.t_types.specs.Tree.{MoreFields}
use Rattle.t_types.specs.Fields.{TField}
use Rattle.t_types.specs.Fits.{FieldsFit, Fits, FitsFile, RegTypes}

by : {A B : Type 0} → Dec A → (A → B) → (B → A) → Dec B
by (yes a) f g = yes (f a)
by (no a) f g = no (λ b. a (g b))

both : {A B : Type 0} → Dec A → Dec B → Dec (A × B)
both (yes a) (yes b) = yes (a, b)
both (yes a) (no b) = no (λ h. b h.1)
both (no a) b = no (λ h. a h.0)

flag : (x y : Bool) → Dec (x ≡ y)
flag true true = yes refl
flag false false = yes refl
flag true false = no (λ e. cc)
flag false true = no (λ e. cc)

-- equality of types is decided
mutual
  pub same : (t u : Ty) → Dec (t ≡ u)
  same IntTy IntTy = yes refl
  same (VarTy i) (VarTy j) = by (ℕ_discrete i j) (ap VarTy) (λ e. cc)
  same (CodeTy n f) (CodeTy m g) =
      by (both (ℕ_discrete n m) (same_file f g)) (λ h i. CodeTy (h.0 i) (h.1 i)) (λ e. (cc, cc))
  same (ExistsTy t) (ExistsTy u) = by (same t u) (ap ExistsTy) (λ e. cc)
  same (TupleTy fs) (TupleTy gs) = by (same_fields fs gs) (ap TupleTy) (λ e. cc)
  same _ _ = no (λ e. cc)

  pub same_file : (f g : TFile) → Dec (f ≡ g)
  same_file NoRegs NoRegs = yes refl
  same_file (MoreRegs q t f) (MoreRegs r u g) =
      by (both (ℕ_discrete q r) (both (same t u) (same_file f g))) (λ h i. MoreRegs (h.0 i) (h.1.0 i) (h.1.1 i))
      (λ e. (cc, (cc, cc)))
  same_file _ _ = no (λ e. cc)

  same_fields : (fs gs : TFields) → Dec (fs ≡ gs)
  same_fields NoFields NoFields = yes refl
  same_fields (MoreFields t x fs) (MoreFields u y gs) =
      by (both (same t u) (both (flag x y) (same_fields fs gs))) (λ h i. MoreFields (h.0 i) (h.1.0 i) (h.1.1 i))
      (λ e. (cc, (cc, cc)))
  same_fields _ _ = no (λ e. cc)

pub ty_set : IsSet Ty
ty_set = hedberg same

pub maybe_set : IsSet (Option Ty)
maybe_set = hlevel (props, ty_set)

pub file_set : IsSet TFile
file_set = hedberg same_file

pub field_set : IsSet (Option TField)
field_set = hlevel (props, ty_set)

pub fields_fit_prop : (fs gs : TFields) → IsProp (FieldsFit fs gs)
fields_fit_prop NoFields NoFields = hlevel props
fields_fit_prop (MoreFields t own fs) (MoreFields u flag gs) =
    let rest = fields_fit_prop fs gs in hlevel (props, ty_set, rest)
fields_fit_prop NoFields (MoreFields u flag gs) = hlevel props
fields_fit_prop (MoreFields t own fs) NoFields = hlevel props

pub fits_prop : (t u : Ty) → IsProp (Fits t u)
fits_prop (TupleTy fs) (TupleTy gs) = fields_fit_prop fs gs
fits_prop t u = ty_set t u

-- a type that is known is known once
known_prop : (o : Option Ty) (t : Ty) → IsProp ((u : Ty) × (o ≡ Some u) × Fits u t)
known_prop o t h k =
    let e = same_Some h.0 k.0 (sym h.1 ∙ k.1) in
    λ i. (
      e i,
      is_prop→PathP (λ j. o ≡ Some (e j)) (λ j. maybe_set o (Some (e j))) h.1 k.1 i,
      is_prop→PathP (λ j. Fits (e j) t) (λ j. fits_prop (e j) t) h.2 k.2 i,
    )

pub fits_file_prop : (g : RegTypes) (file : TFile) → IsProp (FitsFile g file)
fits_file_prop g NoRegs = hlevel props
fits_file_prop g (MoreRegs r t file) =
    let first = known_prop (g r) t in let rest = fits_file_prop g file in hlevel (first, rest)
