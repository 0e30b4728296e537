-- Types: what is spilled of a type keeps shift, put and fits.
use Rattle.std.proofs.Common.{◌≡◌, ℕ, zero, suc, ◌+◌, ◌-◌, ◌==◌, List, [], ◌∷◌, map, Some, refl, ap, ap₂}
use Rattle.std.proofs.Common.{◌∙◌}
use Rattle.std.proofs.Common.{sym}
use Rattle.std.specs.Prelude.{Bool, true, false, nat_lt, if◌then◌else◌}
use Rattle.idx_core.specs.Over.{At, deep, shifted, putted}
use Rattle.idx_core.specs.Steps.{over_same}
use Rattle.t_types.specs.Tree.{Ty, IntTy, VarTy, CodeTy, ExistsTy, TupleTy, TFile, NoRegs, MoreRegs, TFields, NoFields}
use Rattle.t_types.specs.Tree.{MoreFields, over, over_file, over_fields, shift, shift_file, put, put_file, Below}
use Rattle.t_types.specs.Tree.{BelowFile}
use Rattle.t_types.specs.Tree.{BelowFields, BelowTypes}
use Rattle.t_types.specs.TreeLaws.{types_part, types_over, file_over}
use Rattle.t_types.specs.Fields.{AField, field, filled, empty_fields}
use Rattle.t_types.proofs.FitsLaws.{fits_equal}
use Rattle.t_types.specs.Fits.{FieldsFit, Fits}
use Rattle.t_terms.specs.Registers.{inst_file}
use Rattle.t_terms.specs.Tree.{TData}
use Rattle.t_terms.specs.Labels.{data_fields}
use Rattle.t_spill_rules.specs.Spill.{with_if, without_if, high_part, low_part, frame, cells, split, frame_reg, sp}
use Rattle.t_spill_rules.specs.Spill.{sp_regs}
use Rattle.t_spill_rules.specs.Spill.{sp_fields, sp_file, sp_data}

-- the parts of a file go with walks
with_over : (f : At Ty) (d : ℕ) (b : Bool) (r : ℕ) (t : Ty) (x : TFile) →
    over_file f d (with_if b r t x) ≡ with_if b r (over f d t) (over_file f d x)
with_over f d true r t x = refl
with_over f d false r t x = refl

without_over : (f : At Ty) (d : ℕ) (b : Bool) (r : ℕ) (t : Ty) (x : TFile) →
    over_file f d (without_if b r t x) ≡ without_if b r (over f d t) (over_file f d x)
without_over f d true r t x = refl
without_over f d false r t x = refl

pub high_over : (f : At Ty) (d m : ℕ) (x : TFile) → high_part m (over_file f d x) ≡ over_file f d (high_part m x)
high_over f d m NoRegs = refl
high_over f d m (MoreRegs r t x) =
    ap (with_if (nat_lt m r) r (over f d t)) (high_over f d m x) ∙ sym (with_over f d (nat_lt m r) r t (high_part m x))

low_over : (f : At Ty) (d m : ℕ) (x y : TFile) →
    low_part m (over_file f d x) (over_file f d y) ≡ over_file f d (low_part m x y)
low_over f d m NoRegs y = refl
low_over f d m (MoreRegs r t x) y =
    ap (without_if (nat_lt m r) r (over f d t)) (low_over f d m x y)
    ∙ sym (without_over f d (nat_lt m r) r t (low_part m x y))

pub frame_over : (f : At Ty) (d : ℕ) (x : TFile) → frame (over_file f d x) ≡ over_fields f d (frame x)
frame_over f d NoRegs = refl
frame_over f d (MoreRegs r t x) = ap (MoreFields (over f d t) true) (frame_over f d x)

last_over : (f : At Ty) (d m : ℕ) (x : TFile) →
    MoreRegs (frame_reg m) (TupleTy (frame (high_part m (over_file f d x)))) NoRegs
    ≡ over_file f d (MoreRegs (frame_reg m) (TupleTy (frame (high_part m x))) NoRegs)
last_over f d m x =
    ap (λ y. MoreRegs (frame_reg m) (TupleTy y) NoRegs) (ap frame (high_over f d m x) ∙ frame_over f d (high_part m x))

pub split_over : (f : At Ty) (d m : ℕ) (x : TFile) → split m (over_file f d x) ≡ over_file f d (split m x)
split_over f d m x =
    ap (low_part m (over_file f d x)) (last_over f d m x)
    ∙ low_over f d m x (MoreRegs (frame_reg m) (TupleTy (frame (high_part m x))) NoRegs)

-- what stands for the variables, spilled
abbrev pub spd : ℕ → At Ty → At Ty
spd m f d i = sp m (f d i)

mutual
  pub sp_over : (m : ℕ) (f : At Ty) (d : ℕ) (t : Ty) → sp m (over f d t) ≡ over (spd m f) d (sp m t)
  sp_over m f d IntTy = refl
  sp_over m f d (VarTy i) = refl
  sp_over m f d (CodeTy n file) =
      ap (λ x. CodeTy n (split m x)) (regs_over m f (d + n) file)
      ∙ ap (CodeTy n) (split_over (spd m f) (d + n) m (sp_regs m file))
  sp_over m f d (ExistsTy t) = ap ExistsTy (sp_over m f (d + 1) t)
  sp_over m f d (TupleTy fs) = ap TupleTy (sp_over_fields m f d fs)

  pub regs_over : (m : ℕ) (f : At Ty) (d : ℕ) (x : TFile) →
      sp_regs m (over_file f d x) ≡ over_file (spd m f) d (sp_regs m x)
  regs_over m f d NoRegs = refl
  regs_over m f d (MoreRegs r t x) = ap₂ (λ u y. MoreRegs r u y) (sp_over m f d t) (regs_over m f d x)

  pub sp_over_fields : (m : ℕ) (f : At Ty) (d : ℕ) (x : TFields) →
      sp_fields m (over_fields f d x) ≡ over_fields (spd m f) d (sp_fields m x)
  sp_over_fields m f d NoFields = refl
  sp_over_fields m f d (MoreFields t b x) = ap₂ (λ u y. MoreFields u b y) (sp_over m f d t) (sp_over_fields m f d x)

sp_if : (m : ℕ) (b : Bool) (s t : Ty) → sp m (if b then s else t) ≡ (if b then sp m s else sp m t)
sp_if m true s t = refl
sp_if m false s t = refl

shifted_sp : (m k d i : ℕ) → sp m (shifted VarTy k d i) ≡ shifted VarTy k d i
shifted_sp m k d i = sp_if m (nat_lt i d) (VarTy i) (VarTy (i + k))

pub sp_shift : (m k c : ℕ) (t : Ty) → sp m (shift k c t) ≡ shift k c (sp m t)
sp_shift m k c t =
    sp_over m (shifted VarTy k) c t
    ∙ over_same types_part types_over (spd m (shifted VarTy k)) (shifted VarTy k) c c
    (λ e i. shifted_sp m k (deep c e) i) (sp m t)

pub regs_shift : (m k c : ℕ) (x : TFile) → sp_regs m (shift_file k c x) ≡ shift_file k c (sp_regs m x)
regs_shift m k c x =
    regs_over m (shifted VarTy k) c x
    ∙ over_same types_part file_over (spd m (shifted VarTy k)) (shifted VarTy k) c c
    (λ e i. shifted_sp m k (deep c e) i) (sp_regs m x)

putted_sp : (m c : ℕ) (s : Ty) (d i : ℕ) → sp m (putted VarTy over c s d i) ≡ putted VarTy over c (sp m s) d i
putted_sp m c s d i =
    sp_if m (nat_lt i d) (VarTy i) (if i == d then shift (d - c) 0 s else VarTy (i - 1))
    ∙ ap (λ x. if nat_lt i d then VarTy i else x)
    (sp_if m (i == d) (shift (d - c) 0 s) (VarTy (i - 1))
    ∙ ap (λ x. if i == d then x else VarTy (i - 1)) (sp_shift m (d - c) 0 s))

pub sp_put : (m c : ℕ) (s t : Ty) → sp m (put c s t) ≡ put c (sp m s) (sp m t)
sp_put m c s t =
    sp_over m (putted VarTy over c s) c t
    ∙ over_same types_part types_over (spd m (putted VarTy over c s)) (putted VarTy over c (sp m s)) c c
    (λ e i. putted_sp m c s (deep c e) i) (sp m t)

sp_put_file : (m c : ℕ) (s : Ty) (x : TFile) → sp_file m (put_file c s x) ≡ put_file c (sp m s) (sp_file m x)
sp_put_file m c s x =
    ap (split m)
    (regs_over m (putted VarTy over c s) c x
    ∙ over_same types_part file_over (spd m (putted VarTy over c s)) (putted VarTy over c (sp m s)) c c
    (λ e i. putted_sp m c s (deep c e) i) (sp_regs m x))
    ∙ split_over (putted VarTy over c (sp m s)) c m (sp_regs m x)

pub sp_inst : (m : ℕ) (ts : List Ty) (n : ℕ) (x : TFile) →
    sp_file m (inst_file ts n x) ≡ inst_file (map (sp m) ts) n (sp_file m x)
sp_inst m [] n x = refl
sp_inst m (t ∷ ts) n x =
    sp_inst m ts (n - 1) (put_file (n - 1) (shift (n - 1) 0 t) x)
    ∙ ap (inst_file (map (sp m) ts) (n - 1))
    (sp_put_file m (n - 1) (shift (n - 1) 0 t) x ∙ ap (λ s. put_file (n - 1) s (sp_file m x)) (sp_shift m (n - 1) 0 t))

-- fields
fields_fit_sp : (m : ℕ) (fs gs : TFields) → FieldsFit fs gs → FieldsFit (sp_fields m fs) (sp_fields m gs)
fields_fit_sp m NoFields NoFields h = tt
fields_fit_sp m (MoreFields t own fs) (MoreFields u flag gs) h = (ap (sp m) h.0, h.1, fields_fit_sp m fs gs h.2)
fields_fit_sp m NoFields (MoreFields u flag gs) h = h
fields_fit_sp m (MoreFields t own fs) NoFields h = h

pub fits_sp : (m : ℕ) (t u : Ty) → Fits t u → Fits (sp m t) (sp m u)
fits_sp m (TupleTy fs) (TupleTy gs) h = fields_fit_sp m fs gs h
fits_sp m t u e = fits_equal (sp m t) (sp m u) (ap (sp m) e)

pub field_sp : (m : ℕ) (fs : TFields) (i : ℕ) (t : Ty) (flag : Bool) → field fs i ≡ Some (AField t flag) →
    field (sp_fields m fs) i ≡ Some (AField (sp m t) flag)
field_sp m NoFields i t flag e = cc
field_sp m (MoreFields u x fs) zero t flag e =
    let e1 : u ≡ t = cc in let e2 : x ≡ flag = cc in ap₂ (λ y z. Some (AField (sp m y) z)) e1 e2
field_sp m (MoreFields u x fs) (suc i) t flag e = field_sp m fs i t flag e

pub filled_sp : (m : ℕ) (fs : TFields) (i : ℕ) → sp_fields m (filled fs i) ≡ filled (sp_fields m fs) i
filled_sp m NoFields i = refl
filled_sp m (MoreFields u x fs) zero = refl
filled_sp m (MoreFields u x fs) (suc i) = ap (MoreFields (sp m u) x) (filled_sp m fs i)

pub empty_sp : (m : ℕ) (ts : List Ty) → sp_fields m (empty_fields ts) ≡ empty_fields (map (sp m) ts)
empty_sp m [] = refl
empty_sp m (t ∷ ts) = ap (MoreFields (sp m t) false) (empty_sp m ts)

-- closed types stay closed
below_with : (n : ℕ) (b : Bool) (r : ℕ) (t : Ty) (x : TFile) → Below n t → BelowFile n x →
    BelowFile n (with_if b r t x)
below_with n true r t x h k = (h, k)
below_with n false r t x h k = k

below_without : (n : ℕ) (b : Bool) (r : ℕ) (t : Ty) (x : TFile) → Below n t → BelowFile n x →
    BelowFile n (without_if b r t x)
below_without n true r t x h k = k
below_without n false r t x h k = (h, k)

pub below_high : (n m : ℕ) (x : TFile) → BelowFile n x → BelowFile n (high_part m x)
below_high n m NoRegs h = tt
below_high n m (MoreRegs r t x) h = below_with n (nat_lt m r) r t (high_part m x) h.0 (below_high n m x h.1)

below_low : (n m : ℕ) (x y : TFile) → BelowFile n x → BelowFile n y → BelowFile n (low_part m x y)
below_low n m NoRegs y h k = k
below_low n m (MoreRegs r t x) y h k = below_without n (nat_lt m r) r t (low_part m x y) h.0 (below_low n m x y h.1 k)

pub below_frame : (n : ℕ) (x : TFile) → BelowFile n x → BelowFields n (frame x)
below_frame n NoRegs h = tt
below_frame n (MoreRegs r t x) h = (h.0, below_frame n x h.1)

pub below_cells : (n : ℕ) (x : TFile) → BelowFile n x → BelowTypes n (cells x)
below_cells n NoRegs h = tt
below_cells n (MoreRegs r t x) h = (h.0, below_cells n x h.1)

pub below_split : (n m : ℕ) (x : TFile) → BelowFile n x → BelowFile n (split m x)
below_split n m x h =
    below_low n m x (MoreRegs (frame_reg m) (TupleTy (frame (high_part m x))) NoRegs) h
    (below_frame n (high_part m x) (below_high n m x h), tt)

mutual
  pub below_sp : (m n : ℕ) (t : Ty) → Below n t → Below n (sp m t)
  below_sp m n IntTy h = tt
  below_sp m n (VarTy i) h = h
  below_sp m n (CodeTy owes file) h =
      (h.0, below_split (n + owes) m (sp_regs m file) (below_regs m (n + owes) file h.1))
  below_sp m n (ExistsTy t) h = (h.0, below_sp m (n + 1) t h.1)
  below_sp m n (TupleTy fs) h = below_sp_fields m n fs h

  pub below_regs : (m n : ℕ) (x : TFile) → BelowFile n x → BelowFile n (sp_regs m x)
  below_regs m n NoRegs h = tt
  below_regs m n (MoreRegs r t x) h = (below_sp m n t h.0, below_regs m n x h.1)

  below_sp_fields : (m n : ℕ) (x : TFields) → BelowFields n x → BelowFields n (sp_fields m x)
  below_sp_fields m n NoFields h = tt
  below_sp_fields m n (MoreFields t b x) h = (below_sp m n t h.0, below_sp_fields m n x h.1)

pub below_types : (m n : ℕ) (ts : List Ty) → BelowTypes n ts → BelowTypes n (map (sp m) ts)
below_types m n [] h = tt
below_types m n (t ∷ ts) h = (below_sp m n t h.0, below_types m n ts h.1)

-- data
pub data_sp : (m : ℕ) (xs : TData) → sp_fields m (data_fields xs) ≡ data_fields (sp_data m xs)
data_sp m [] = refl
data_sp m (x ∷ xs) = ap (MoreFields (sp m x.ty) true) (data_sp m xs)
