-- Renaming and substitution are shift and put, and scope is below.
use Rattle.std.proofs.Common.{◌≡◌, ◌<◌, ◌≤◌, ◌⊎◌, inl, inr, ℕ, zero, suc, ◌+◌, ◌-◌, refl, sym, ap, ap₂, ◌∙◌, subst}
use Rattle.std.proofs.Common.{arith}
use Rattle.std.proofs.lemmas.Bool.{cases_lt, cases_order}
use Rattle.idx_core.specs.Over.{shifted, putted, BelowAt, AnyDepth}
use Rattle.idx_core.specs.Laws.{shifted_lt, shifted_ge, putted_lt, putted_eq, putted_gt, shift_add_law, shift_zero_law}
use Rattle.calc_core.specs.Ends.{lift, under}
use Rattle.calc_core.specs.Types.{Ty, IntTy, VarTy, TupleTy, CodeTy, ExistsTy, RefTy, Tys, NoTys, MoreTys}
use Rattle.calc_core.specs.Substitution.{renamed as ren, all_renamed as rens, with_type, under_binders as up}
use Rattle.calc_core.specs.Substitution.{substituted as sub, all_substituted as subs}
use Rattle.calc_core.specs.Scope.{InScope, AllInScope}
use Rattle.calc_core.specs.Walks.{over, over_all, each_all, shift, put, Below}
use Rattle.calc_core.specs.TyLaws.{types_part, types_over}
use Rattle.calc_core.proofs.Lifts.{lift_is}

-- a renaming that is a shift
abbrev pub IsShift : (ℕ → ℕ) → ℕ → ℕ → Type 0
IsShift r k d = (i : ℕ) → VarTy (r i) ≡ shifted VarTy k d i

under_one : (r : ℕ → ℕ) (k d : ℕ) → IsShift r k d → (i : ℕ) → VarTy (suc (r i)) ≡ shifted VarTy k (d + 1) (suc i)
under_one r k d f i = here (cases_lt i d)
  where
    here : (i < d) ⊎ (d ≤ i) → VarTy (suc (r i)) ≡ shifted VarTy k (d + 1) (suc i)
    here (inl l) =
        ap (ren suc) (f i ∙ shifted_lt VarTy k d i l) ∙ sym (shifted_lt VarTy k (d + 1) (suc i) (omega (arith, l)))
    here (inr l) =
        let more : suc (i + k) ≡ suc i + k = omega arith in
        ap (ren suc) (f i ∙ shifted_ge VarTy k d i l) ∙ ap VarTy more
        ∙ sym (shifted_ge VarTy k (d + 1) (suc i) (omega (arith, l)))

under_more : (n : ℕ) (r : ℕ → ℕ) (k d : ℕ) → IsShift r k d → IsShift (under n r) k (d + n)
under_more zero r k d f i = let e : d ≡ d + 0 = omega arith in f i ∙ ap (λ x. shifted VarTy k x i) e
under_more (suc n) r k d f zero = sym (shifted_lt VarTy k (d + suc n) 0 (omega arith))
under_more (suc n) r k d f (suc i) =
    let e : d + n + 1 ≡ d + suc n = omega arith in
    under_one (under n r) k (d + n) (under_more n r k d f) i ∙ ap (λ x. shifted VarTy k x (suc i)) e

mutual
  pub ren_is : (t : Ty) (r : ℕ → ℕ) (k d : ℕ) → IsShift r k d → ren r t ≡ over (shifted VarTy k) d t
  ren_is IntTy r k d f = refl
  ren_is (VarTy i) r k d f = f i
  ren_is (TupleTy ts) r k d f = ap TupleTy (rens_are ts r k d f)
  ren_is (CodeTy n ts) r k d f = ap (CodeTy n) (rens_are ts (under n r) k (d + n) (under_more n r k d f))
  ren_is (ExistsTy t) r k d f = ap ExistsTy (ren_is t (under 1 r) k (d + 1) (under_more 1 r k d f))
  ren_is (RefTy t) r k d f = ap RefTy (ren_is t r k d f)

  pub rens_are : (ts : Tys) (r : ℕ → ℕ) (k d : ℕ) → IsShift r k d → rens r ts ≡ over_all (shifted VarTy k) d ts
  rens_are NoTys r k d f = refl
  rens_are (MoreTys t ts) r k d f = ap₂ MoreTys (ren_is t r k d f) (rens_are ts r k d f)

lift_shifts : (n : ℕ) → IsShift (lift n) n 0
lift_shifts n i = ap VarTy (lift_is n i) ∙ sym (shifted_ge VarTy n 0 i (omega arith))

-- under n more names
pub ren_lift : (n : ℕ) (t : Ty) → ren (lift n) t ≡ shift n 0 t
ren_lift n t = ren_is t (lift n) n 0 (lift_shifts n)

ren_suc : (t : Ty) → ren suc t ≡ shift 1 0 t
ren_suc t = ren_is t suc 1 0 (λ i. lift_shifts 1 i)

-- a substitution that is a put
abbrev pub IsPut : (ℕ → Ty) → ℕ → Ty → ℕ → Type 0
IsPut z c s d = (i : ℕ) → z i ≡ putted VarTy over c s d i

up_one : (z : ℕ → Ty) (c : ℕ) (s : Ty) (d : ℕ) → c ≤ d → IsPut z c s d → (i : ℕ) →
    ren suc (z i) ≡ putted VarTy over c s (d + 1) (suc i)
up_one z c s d le f i = ap (ren suc) (f i) ∙ here (cases_order i d)
  where
    here : (i ≡ d) ⊎ ((i < d) ⊎ (d < i)) → ren suc (putted VarTy over c s d i) ≡ putted VarTy over c s (d + 1) (suc i)
    here (inl e) =
        let sum : d - c + 1 ≡ d + 1 - c = omega (arith, le) in
        ap (ren suc) (putted_eq VarTy over c s d i e)
        ∙ ren_suc (shift (d - c) 0 s)
        ∙ shift_add_law types_part types_over (d - c) 1 0 s ∙ ap (λ n. shift n 0 s) sum
        ∙ sym (putted_eq VarTy over c s (d + 1) (suc i) (omega (arith, e)))
    here (inr (inl l)) = ap (ren suc) (putted_lt VarTy over c s d i l)
        ∙ sym (putted_lt VarTy over c s (d + 1) (suc i) (omega (arith, l)))
    here (inr (inr l)) =
        let less : suc (i - 1) ≡ suc i - 1 = omega (arith, l) in
        ap (ren suc) (putted_gt VarTy over c s d i l) ∙ ap VarTy less
        ∙ sym (putted_gt VarTy over c s (d + 1) (suc i) (omega (arith, l)))

up_more : (n : ℕ) (z : ℕ → Ty) (c : ℕ) (s : Ty) (d : ℕ) → c ≤ d → IsPut z c s d → IsPut (up n z) c s (d + n)
up_more zero z c s d le f i = let e : d ≡ d + 0 = omega arith in f i ∙ ap (λ x. putted VarTy over c s x i) e
up_more (suc n) z c s d le f zero = sym (putted_lt VarTy over c s (d + suc n) 0 (omega arith))
up_more (suc n) z c s d le f (suc i) =
    let e : d + n + 1 ≡ d + suc n = omega arith in
    up_one (up n z) c s (d + n) (omega (arith, le)) (up_more n z c s d le f) i
    ∙ ap (λ x. putted VarTy over c s x (suc i)) e

mutual
  pub sub_is : (t : Ty) (z : ℕ → Ty) (c : ℕ) (s : Ty) (d : ℕ) → c ≤ d → IsPut z c s d →
      sub z t ≡ over (putted VarTy over c s) d t
  sub_is IntTy z c s d le f = refl
  sub_is (VarTy i) z c s d le f = f i
  sub_is (TupleTy ts) z c s d le f = ap TupleTy (subs_are ts z c s d le f)
  sub_is (CodeTy n ts) z c s d le f =
      ap (CodeTy n) (subs_are ts (up n z) c s (d + n) (omega (arith, le)) (up_more n z c s d le f))
  sub_is (ExistsTy t) z c s d le f =
      ap ExistsTy (sub_is t (up 1 z) c s (d + 1) (omega (arith, le)) (up_more 1 z c s d le f))
  sub_is (RefTy t) z c s d le f = ap RefTy (sub_is t z c s d le f)

  pub subs_are : (ts : Tys) (z : ℕ → Ty) (c : ℕ) (s : Ty) (d : ℕ) → c ≤ d → IsPut z c s d →
      subs z ts ≡ over_all (putted VarTy over c s) d ts
  subs_are NoTys z c s d le f = refl
  subs_are (MoreTys t ts) z c s d le f = ap₂ MoreTys (sub_is t z c s d le f) (subs_are ts z c s d le f)

put_first : (s : Ty) → IsPut (with_type s VarTy) 0 s 0
put_first s zero = sym (putted_eq VarTy over 0 s 0 0 refl ∙ shift_zero_law types_over 0 s)
put_first s (suc i) =
    let e : i ≡ suc i - 1 = omega arith in ap VarTy e ∙ sym (putted_gt VarTy over 0 s 0 (suc i) (omega arith))

-- one type put for the last name
pub sub_put : (s t : Ty) → sub (with_type s VarTy) t ≡ put 0 s t
sub_put s t = sub_is t (with_type s VarTy) 0 s 0 (omega arith) (put_first s)

-- scope
mutual
  pub below_in : (t : Ty) (n : ℕ) → Below n t → InScope n t
  below_in IntTy n h = tt
  below_in (VarTy i) n h = h
  below_in (TupleTy ts) n h = belows_in ts n h
  below_in (CodeTy m ts) n h = subst (λ k. AllInScope k ts) (sym (lift_is m n)) (belows_in ts (n + m) h.1)
  below_in (ExistsTy t) n h = let e : n + 1 ≡ suc n = omega arith in subst (λ k. InScope k t) e (below_in t (n + 1) h.1)
  below_in (RefTy t) n h = below_in t n h

  pub belows_in : (ts : Tys) (n : ℕ) → each_all BelowAt AnyDepth n ts → AllInScope n ts
  belows_in NoTys n h = tt
  belows_in (MoreTys t ts) n h = (below_in t n h.0, belows_in ts n h.1)

mutual
  pub in_below : (t : Ty) (n : ℕ) → InScope n t → Below n t
  in_below IntTy n h = tt
  in_below (VarTy i) n h = h
  in_below (TupleTy ts) n h = ins_below ts n h
  in_below (CodeTy m ts) n h = (tt, ins_below ts (n + m) (subst (λ k. AllInScope k ts) (lift_is m n) h))
  in_below (ExistsTy t) n h =
      let e : suc n ≡ n + 1 = omega arith in (tt, in_below t (n + 1) (subst (λ k. InScope k t) e h))
  in_below (RefTy t) n h = in_below t n h

  pub ins_below : (ts : Tys) (n : ℕ) → AllInScope n ts → each_all BelowAt AnyDepth n ts
  ins_below NoTys n h = tt
  ins_below (MoreTys t ts) n h = (in_below t n h.0, ins_below ts n h.1)
