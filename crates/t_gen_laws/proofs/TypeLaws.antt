-- Shift and put: the translation keeps them, and code applied to the variables in scope is itself.
use Rattle.std.proofs.Common.{◌≡◌, ℕ, zero, suc, ◌+◌, ◌-◌, ◌<◌, ◌≤◌, ◌==◌, ◌⊎◌, inl, inr, length, Some, None, refl}
use Rattle.std.proofs.Common.{sym, ap, ap₂, ◌∙◌, arith}
use Rattle.std.specs.Prelude.{Bool, true, false, nat_lt, if◌then◌else◌}
use Rattle.std.proofs.lemmas.Bool.{cases_order}
use Rattle.idx_core.specs.Over.{At, deep, shifted, putted}
use Rattle.idx_core.specs.Laws.{deep_is, shifted_lt, shifted_ge, putted_lt, putted_eq, putted_gt}
use Rattle.idx_core.specs.Laws as law
use Rattle.idx_core.specs.Steps.{over_same}
use Rattle.t_types.specs.Tree.{Ty, VarTy, CodeTy, ExistsTy, TupleTy, TFile, MoreRegs, MoreFields, over, over_file}
use Rattle.t_types.specs.Tree.{over_fields, shift, shift_file, put, put_file}
use Rattle.t_types.specs.TreeLaws.{types_part, types_over, file_over}
use Rattle.t_types.specs.Fields.{AField, field, filled, empty_fields}
use Rattle.t_terms.specs.Registers.{inst_file}
use Rattle.a_terms.specs.Tree as A
use Rattle.a_terms.specs.Tree.{ATy, AInt, AVar, ATuple, ACode, AExists, ATys, NoATys, MoreATys, AFields, NoAFields}
use Rattle.a_terms.specs.Tree.{MoreAFields, ashift, aput, aput_types}
use Rattle.a_terms.specs.Typing.{aapply, afield_type, afield_flag, afilled, aunset}
use Rattle.t_gen_rules.specs.Gen.{ty, ty_args, ty_fields, tys, tvars}

-- what stands for the variables, translated
abbrev typed : At ATy → At Ty
typed f d i = ty (f d i)

mutual
  ty_over : (f : At ATy) (d : ℕ) (t : ATy) → ty (A.over f d t) ≡ over (typed f) d (ty t)
  ty_over f d AInt = refl
  ty_over f d (AVar i) = refl
  ty_over f d (ATuple fs) = ap TupleTy (ty_over_fields f d fs)
  ty_over f d (ACode n ts) = ap (CodeTy n) (ty_over_args f (d + n) ts 1)
  ty_over f d (AExists t) = ap ExistsTy (ty_over f (d + 1) t)

  ty_over_args : (f : At ATy) (d : ℕ) (ts : ATys) (r : ℕ) →
      ty_args (A.over_types f d ts) r ≡ over_file (typed f) d (ty_args ts r)
  ty_over_args f d NoATys r = refl
  ty_over_args f d (MoreATys t ts) r = ap₂ (MoreRegs r) (ty_over f d t) (ty_over_args f d ts (suc r))

  ty_over_fields : (f : At ATy) (d : ℕ) (fs : AFields) →
      ty_fields (A.over_fields f d fs) ≡ over_fields (typed f) d (ty_fields fs)
  ty_over_fields f d NoAFields = refl
  ty_over_fields f d (MoreAFields t b fs) = ap₂ (λ u gs. MoreFields u b gs) (ty_over f d t) (ty_over_fields f d fs)

ty_if : (b : Bool) (s t : ATy) → ty (if b then s else t) ≡ (if b then ty s else ty t)
ty_if true s t = refl
ty_if false s t = refl

shifted_typed : (k d i : ℕ) → ty (shifted AVar k d i) ≡ shifted VarTy k d i
shifted_typed k d i = ty_if (nat_lt i d) (AVar i) (AVar (i + k))

pub ty_shift : (t : ATy) (k c : ℕ) → ty (ashift k c t) ≡ shift k c (ty t)
ty_shift t k c = ty_over (shifted AVar k) c t
    ∙ over_same types_part types_over (typed (shifted AVar k)) (shifted VarTy k) c c
    (λ e i. shifted_typed k (deep c e) i) (ty t)

putted_typed : (c : ℕ) (s : ATy) (d i : ℕ) → ty (putted AVar A.over c s d i) ≡ putted VarTy over c (ty s) d i
putted_typed c s d i =
    ty_if (nat_lt i d) (AVar i) (if i == d then ashift (d - c) 0 s else AVar (i - 1))
    ∙ ap (λ x. if nat_lt i d then VarTy i else x)
    (ty_if (i == d) (ashift (d - c) 0 s) (AVar (i - 1))
    ∙ ap (λ x. if i == d then x else VarTy (i - 1)) (ty_shift s (d - c) 0))

pub ty_put : (t : ATy) (c : ℕ) (s : ATy) → ty (aput c s t) ≡ put c (ty s) (ty t)
ty_put t c s = ty_over (putted AVar A.over c s) c t
    ∙ over_same types_part types_over (typed (putted AVar A.over c s)) (putted VarTy over c (ty s)) c c
    (λ e i. putted_typed c s (deep c e) i) (ty t)

pub ty_put_args : (ts : ATys) (c : ℕ) (s : ATy) (r : ℕ) →
    ty_args (aput_types c s ts) r ≡ put_file c (ty s) (ty_args ts r)
ty_put_args ts c s r = ty_over_args (putted AVar A.over c s) c ts r
    ∙ over_same types_part file_over (typed (putted AVar A.over c s)) (putted VarTy over c (ty s)) c c
    (λ e i. putted_typed c s (deep c e) i) (ty_args ts r)

pub apply_is : (ts : ATys) (n : ℕ) (us : ATys) (t : ATy) → aapply (ACode n us) ts ≡ Some t →
    (length (tys ts) ≤ n) × (ty t ≡ CodeTy (n - length (tys ts)) (inst_file (tys ts) n (ty_args us 1)))
apply_is NoATys n us t e =
    let x : ACode n us ≡ t = cc in
    let m : n ≡ n - 0 = omega arith in
    (omega arith, ap ty (sym x) ∙ ap (λ q. CodeTy q (ty_args us 1)) m)
apply_is (MoreATys u ts) zero us t e = absurd (impossible e)
  where
    impossible : None ≡ Some t → ⊥
    impossible x = cc
apply_is (MoreATys u ts) (suc n) us t e =
    let r = apply_is ts n (aput_types n (ashift n 0 u) us) t e in
    let p : n ≡ suc n - 1 = omega arith in
    let q : n - length (tys ts) ≡ suc n - length (tys (MoreATys u ts)) = omega arith in
    let file = ty_put_args us n (ashift n 0 u) 1 ∙ ap (λ v. put_file n v (ty_args us 1)) (ty_shift u n 0) in (
      omega (arith, r.0),
      r.1 ∙ ap (λ x. CodeTy (n - length (tys ts)) (inst_file (tys ts) n x)) file
          ∙ ap₂ (λ i j. CodeTy i (inst_file (tys ts) j (put_file j (shift j 0 (ty u)) (ty_args us 1)))) q p,
    )

-- the variables in scope put for themselves
self_var : (n p e i : ℕ) → over (putted VarTy over p (VarTy (p + n))) (p + e) (shifted VarTy (suc n) (suc p + e) i)
    ≡ shifted VarTy n (p + e) i
self_var n p e i = here (cases_order i (p + e))
  where
    here : (i ≡ p + e) ⊎ ((i < p + e) ⊎ (p + e < i)) →
        over (putted VarTy over p (VarTy (p + n))) (p + e) (shifted VarTy (suc n) (suc p + e) i)
        ≡ shifted VarTy n (p + e) i
    here (inl o) =
        let far : p + n + (p + e - p) ≡ i + n = omega arith in
        ap (over (putted VarTy over p (VarTy (p + n))) (p + e)) (shifted_lt VarTy (suc n) (suc p + e) i (omega arith))
        ∙ putted_eq VarTy over p (VarTy (p + n)) (p + e) i o
        ∙ shifted_ge VarTy (p + e - p) 0 (p + n) (omega arith) ∙ ap VarTy far
        ∙ sym (shifted_ge VarTy n (p + e) i (omega arith))
    here (inr (inl o)) =
        ap (over (putted VarTy over p (VarTy (p + n))) (p + e)) (shifted_lt VarTy (suc n) (suc p + e) i (omega arith))
        ∙ putted_lt VarTy over p (VarTy (p + n)) (p + e) i o
        ∙ sym (shifted_lt VarTy n (p + e) i o)
    here (inr (inr o)) =
        let far : i + suc n - 1 ≡ i + n = omega arith in
        ap (over (putted VarTy over p (VarTy (p + n))) (p + e)) (shifted_ge VarTy (suc n) (suc p + e) i (omega arith))
        ∙ putted_gt VarTy over p (VarTy (p + n)) (p + e) (i + suc n) (omega arith) ∙ ap VarTy far
        ∙ sym (shifted_ge VarTy n (p + e) i (omega arith))

pub put_self : (n p : ℕ) (f : TFile) → put_file p (VarTy (p + n)) (shift_file (suc n) (suc p) f) ≡ shift_file n p f
put_self n p f =
    file_over.after (shifted VarTy (suc n)) (putted VarTy over p (VarTy (p + n))) (shifted VarTy n) (suc p) p p
    (λ e i. rw (deep_is (suc p) e, deep_is p e) (self_var n p e i)) f

-- code that owes n types, applied to the n variables in scope
pub apply_vars : (n : ℕ) (f : TFile) → inst_file (tvars n) n (shift_file n n f) ≡ f
apply_vars zero f = law.shift_zero_law file_over 0 f
apply_vars (suc n) f =
    let p : suc n - 1 ≡ n = omega arith in
    ap (λ j. inst_file (tvars n) j (put_file j (shift j 0 (VarTy n)) (shift_file (suc n) (suc n) f))) p
    ∙ ap (λ u. inst_file (tvars n) n (put_file n u (shift_file (suc n) (suc n) f)))
    (shifted_ge VarTy n 0 n (omega arith))
    ∙ ap (inst_file (tvars n) n) (put_self n n f) ∙ apply_vars n f

pub length_tvars : (n : ℕ) → length (tvars n) ≡ n
length_tvars zero = refl
length_tvars (suc n) = ap suc (length_tvars n)

-- fields
pub ty_field : (fs : AFields) (i : ℕ) (t : ATy) → afield_type fs i ≡ Some t →
    field (ty_fields fs) i ≡ Some (AField (ty t) (afield_flag fs i))
ty_field NoAFields i t e = cc
ty_field (MoreAFields u f fs) zero t e = let x : u ≡ t = cc in ap (λ v. Some (AField (ty v) f)) x
ty_field (MoreAFields u f fs) (suc i) t e = ty_field fs i t e

pub ty_filled : (fs : AFields) (i : ℕ) → ty_fields (afilled fs i) ≡ filled (ty_fields fs) i
ty_filled NoAFields i = refl
ty_filled (MoreAFields u f fs) zero = refl
ty_filled (MoreAFields u f fs) (suc i) = ap (λ g. MoreFields (ty u) f g) (ty_filled fs i)

pub ty_unset : (ts : ATys) → ty_fields (aunset ts) ≡ empty_fields (tys ts)
ty_unset NoATys = refl
ty_unset (MoreATys t ts) = ap (λ g. MoreFields (ty t) false g) (ty_unset ts)
