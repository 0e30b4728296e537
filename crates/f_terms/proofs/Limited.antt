-- To pass each check is to be typed within the limits.
use Rattle.std.proofs.Common.{◌≡◌, ℕ, zero, suc, ◌+◌, ◌≤◌, nat_lt, if◌then◌else◌, Bool, true, false, refl, sym, subst}
use Rattle.std.proofs.Common.{arith, Some, None}
use Rattle.idx_core.specs.Over.{shifted}
use Rattle.f_terms.specs.Ty.{Ty, TInt, TVar, TArrow, TAll, TTuple, TSome, TRef, Tys, NoTys, MoreTys, over, over_all}
use Rattle.f_terms.specs.Ty.{shift, size, sizes, depth, depths}
use Rattle.f_terms.specs.Tm.{Tm, SVar, SNum, SFix, SApp, SGen, SInst, STuple, SProj, SArith, SIf0, SLet, SPack, SOpen}
use Rattle.f_terms.specs.Tm.{SRef, SDeref, SAssign, Tms, NoTms, MoreTms, plain, plain_all}
use Rattle.f_terms.specs.Limits.{Within}
use Rattle.f_terms.specs.Typing.{ty_at, field_ty, raised, in_fix, in_open, HasType, HaveTypes}
use Rattle.f_terms.specs.Faults.{Passes, PassAll}
use Rattle.f_terms.specs.Accepted.{KeepsLimits}
use Rattle.f_terms.specs.Keeps.{TypeHas, AllKeep}
use Rattle.f_terms.specs.Laws.{AllWithin, PassesWhereTyped}
use Rattle.f_terms.specs.OneType.{one_type, some_is, hidden_is}
use Rattle.f_terms.proofs.Faulty.{has_type}

-- a shift keeps size and depth
module _ (k : ℕ) where
  same_var : (c i : ℕ) → (size (shifted TVar k c i) ≡ 1) × (depth (shifted TVar k c i) ≡ 1)
  same_var c i = pick (nat_lt i c)
    where
      pick : (b : Bool) → (size (if b then TVar i else TVar (i + k)) ≡ 1)
          × (depth (if b then TVar i else TVar (i + k)) ≡ 1)
      pick true = (refl, refl)
      pick false = (refl, refl)

  mutual
    pub same : (c : ℕ) (t : Ty) → (size (over (shifted TVar k) c t) ≡ size t)
        × (depth (over (shifted TVar k) c t) ≡ depth t)
    same c TInt = (refl, refl)
    same c (TVar i) = same_var c i
    same c (TArrow a b) = let x = same c a in let y = same c b in (omega (arith, x.0, y.0), omega (arith, x.1, y.1))
    same c (TAll t) = let x = same (c + 1) t in (omega (arith, x.0), omega (arith, x.1))
    same c (TTuple ts) = let x = same_all c ts in (omega (arith, x.0), omega (arith, x.1))
    same c (TSome t) = let x = same (c + 1) t in (omega (arith, x.0), omega (arith, x.1))
    same c (TRef t) = let x = same c t in (omega (arith, x.0), omega (arith, x.1))

    pub same_all : (c : ℕ) (ts : Tys) → (sizes (over_all (shifted TVar k) c ts) ≡ sizes ts)
        × (depths (over_all (shifted TVar k) c ts) ≡ depths ts)
    same_all c NoTys = (refl, refl)
    same_all c (MoreTys t ts) =
        let x = same c t in let y = same_all c ts in (omega (arith, x.0, y.0), omega (arith, x.1, y.1))

pub shift_within : (k : ℕ) (t : Ty) → Within t → Within (over (shifted TVar k) 0 t)
shift_within k t h = let x = same k 0 t in (omega (arith, x.1, h.0), omega (arith, x.0, h.1))

pub unshift_within : (k : ℕ) (t : Ty) → Within (over (shifted TVar k) 0 t) → Within t
unshift_within k t h = let x = same k 0 t in (omega (arith, x.1, h.0), omega (arith, x.0, h.1))

pub raised_within : (g : Tys) → AllWithin g → AllWithin (raised g)
raised_within NoTys h = tt
raised_within (MoreTys t ts) h = (shift_within 1 t h.0, raised_within ts h.1)

-- parts of a type that keeps the limits
pub arrow_within : (a b : Ty) → Within (TArrow a b) → Within a × Within b
arrow_within a b h = ((omega (arith, h.0), omega (arith, h.1)), (omega (arith, h.0), omega (arith, h.1)))

pub some_within : (t : Ty) → Within (TSome t) → Within t
some_within t h = (omega (arith, h.0), omega (arith, h.1))

pub ref_within : (t : Ty) → Within (TRef t) → Within t
ref_within t h = (omega (arith, h.0), omega (arith, h.1))

none_is_no_some : {A : Type 0} {a : A} → None ≡ Some a → ⊥
none_is_no_some e = cc

pub at_within : (g : Tys) (i : ℕ) (t : Ty) → AllWithin g → ty_at g i ≡ Some t → Within t
at_within NoTys i t h e = absurd (none_is_no_some e)
at_within (MoreTys u g) zero t h e = subst Within (some_is e) h.0
at_within (MoreTys u g) (suc i) t h e = at_within g i t h.1 e

pub fields_within : (ts : Tys) → depths ts ≤ 199 → sizes ts ≤ 9999 → AllWithin ts
fields_within NoTys d s = tt
fields_within (MoreTys t ts) d s =
    ((omega (arith, d), omega (arith, s)), fields_within ts (omega (arith, d)) (omega (arith, s)))

pub field_within : (ts : Tys) (i : ℕ) (t : Ty) → Within (TTuple ts) → field_ty ts i ≡ Some t → Within t
field_within ts zero t h e = absurd (none_is_no_some e)
field_within ts (suc i) t h e = at_within ts i t (fields_within ts (omega (arith, h.0)) (omega (arith, h.1))) e

-- the type of what passes keeps the limits
pub passed_within : (e : Tm) (n : ℕ) (g : Tys) (t : Ty) → AllWithin g → Passes e n g t → Within t
passed_within (SVar s i) n g t w h = at_within g i t w h
passed_within (SNum s i) n g t w h = subst Within (sym h) (omega arith, omega arith)
passed_within (SFix s arg res e) n g t w h = subst Within (sym h.0) h.3
passed_within (SApp s f x) n g t w h = (arrow_within h.0 t (passed_within f n g (TArrow h.0 t) w h.1)).1
passed_within (SGen s e) n g t w h = subst Within (sym h.1) h.3
passed_within (SInst s e a) n g t w h = subst Within (sym h.1) h.5
passed_within (STuple s es) n g t w h = subst Within (sym h.1) h.3
passed_within (SProj s i e) n g t w h = field_within h.0 i t (passed_within e n g (TTuple h.0) w h.2) h.1
passed_within (SArith s op a b) n g t w h = subst Within (sym h.0) (omega arith, omega arith)
passed_within (SIf0 s c a b) n g t w h = passed_within a n g t w h.1
passed_within (SLet s a b) n g t w h = passed_within b n (MoreTys h.0 g) t (passed_within a n g h.0 w h.1, w) h.2
passed_within (SPack s x e r) n g t w h = subst Within (sym h.2) h.7
passed_within (SOpen s a b) n g t w h =
    unshift_within 1 t (passed_within b (n + 1) (in_open h.0 g) (shift 1 0 t)
    (some_within h.0 (passed_within a n g (TSome h.0) w h.2), raised_within g w) h.3)
passed_within (SRef s e) n g t w h = subst Within (sym h.1) h.3
passed_within (SDeref s e) n g t w h = ref_within t (passed_within e n g (TRef t) w h)
passed_within (SAssign s a b) n g t w h = subst Within (sym h.1) (omega arith, omega arith)

type_within : (e : Tm) (n : ℕ) (g : Tys) (t : Ty) → AllWithin g → Passes e n g t → TypeHas Within (plain e) n g
type_within e n g t w h u k =
    subst Within (one_type (plain e) n g t u (has_type e n g t h) k) (passed_within e n g t w h)

mutual
  keeps : (e : Tm) (n : ℕ) (g : Tys) (t : Ty) → AllWithin g → Passes e n g t → KeepsLimits (plain e) n g
  keeps (SVar s i) n g t w h = type_within (SVar s i) n g t w h
  keeps (SNum s i) n g t w h = type_within (SNum s i) n g t w h
  keeps (SFix s arg res e) n g t w h = (
    type_within (SFix s arg res e) n g t w h,
    keeps e n (in_fix arg res g) res ((arrow_within arg res h.3).0, (h.3, w)) h.4,
  )
  keeps (SApp s f x) n g t w h = (type_within (SApp s f x) n g t w h, keeps f n g _ w h.1, keeps x n g _ w h.2)
  keeps (SGen s e) n g t w h = (type_within (SGen s e) n g t w h, keeps e (n + 1) (raised g) _ (raised_within g w) h.2)
  keeps (SInst s e a) n g t w h = (type_within (SInst s e a) n g t w h, keeps e n g _ w h.3, h.4)
  keeps (STuple s es) n g t w h = (type_within (STuple s es) n g t w h, keeps_all es n g _ w h.2)
  keeps (SProj s i e) n g t w h = (type_within (SProj s i e) n g t w h, keeps e n g _ w h.2)
  keeps (SArith s op a b) n g t w h =
      (type_within (SArith s op a b) n g t w h, keeps a n g _ w h.1, keeps b n g _ w h.2)
  keeps (SIf0 s c a b) n g t w h =
      (type_within (SIf0 s c a b) n g t w h, keeps c n g _ w h.0, keeps a n g _ w h.1, keeps b n g _ w h.2)
  keeps (SLet s a b) n g t w h = (
    type_within (SLet s a b) n g t w h,
    keeps a n g _ w h.1,
    λ u k. subst (λ x. KeepsLimits (plain b) n (MoreTys x g)) (one_type (plain a) n g h.0 u (has_type a n g h.0 h.1) k)
        (keeps b n (MoreTys h.0 g) t (passed_within a n g h.0 w h.1, w) h.2),
  )
  keeps (SPack s x e r) n g t w h = (type_within (SPack s x e r) n g t w h, keeps e n g _ w h.5, h.6)
  keeps (SOpen s a b) n g t w h = (
    type_within (SOpen s a b) n g t w h,
    keeps a n g _ w h.2,
    λ u k. subst (λ x. KeepsLimits (plain b) (n + 1) (in_open x g))
        (hidden_is (one_type (plain a) n g (TSome h.0) (TSome u) (has_type a n g (TSome h.0) h.2) k))
        (keeps b (n + 1) (in_open h.0 g) (shift 1 0 t)
        (some_within h.0 (passed_within a n g (TSome h.0) w h.2), raised_within g w) h.3),
  )
  keeps (SRef s e) n g t w h = (type_within (SRef s e) n g t w h, keeps e n g _ w h.2)
  keeps (SDeref s e) n g t w h = (type_within (SDeref s e) n g t w h, keeps e n g _ w h)
  keeps (SAssign s a b) n g t w h = (type_within (SAssign s a b) n g t w h, keeps a n g _ w h.2, keeps b n g _ w h.3)

  keeps_all : (es : Tms) (n : ℕ) (g ts : Tys) → AllWithin g → PassAll es n g ts → AllKeep Within (plain_all es) n g
  keeps_all NoTms n g ts w h = tt
  keeps_all (MoreTms e es) n g ts w h = (keeps e n g _ w h.3, keeps_all es n g _ w h.4)

mutual
  passes : (e : Tm) (n : ℕ) (g : Tys) (t : Ty) → HasType (plain e) n g t → KeepsLimits (plain e) n g → Passes e n g t
  passes (SVar s i) n g t h k = h
  passes (SNum s i) n g t h k = h
  passes (SFix s arg res e) n g t h k =
      (h.0, h.1, h.2, subst Within h.0 (k.0 t h), passes e n (in_fix arg res g) res h.3 k.1)
  passes (SApp s f x) n g t h k = (h.0, passes f n g _ h.1 k.1, passes x n g _ h.2 k.2)
  passes (SGen s e) n g t h k = (h.0, h.1, passes e (n + 1) (raised g) _ h.2 k.1, subst Within h.1 (k.0 t h))
  passes (SInst s e a) n g t h k = (h.0, h.1, h.2, passes e n g _ h.3 k.1, k.2, subst Within h.1 (k.0 t h))
  passes (STuple s es) n g t h k = (h.0, h.1, pass_all es n g _ h.2 k.1, subst Within h.1 (k.0 t h))
  passes (SProj s i e) n g t h k = (h.0, h.1, passes e n g _ h.2 k.1)
  passes (SArith s op a b) n g t h k = (h.0, passes a n g _ h.1 k.1, passes b n g _ h.2 k.2)
  passes (SIf0 s c a b) n g t h k = (passes c n g _ h.0 k.1, passes a n g _ h.1 k.2, passes b n g _ h.2 k.3)
  passes (SLet s a b) n g t h k = (h.0, passes a n g h.0 h.1 k.1, passes b n (MoreTys h.0 g) t h.2 (k.2 h.0 h.1))
  passes (SPack s x e r) n g t h k = (h.0, h.1, h.2, h.3, h.4, passes e n g _ h.5 k.1, k.2, subst Within h.2 (k.0 t h))
  passes (SOpen s a b) n g t h k =
      (h.0, h.1, passes a n g _ h.2 k.1, passes b (n + 1) (in_open h.0 g) _ h.3 (k.2 h.0 h.2))
  passes (SRef s e) n g t h k = (h.0, h.1, passes e n g _ h.2 k.1, subst Within h.1 (k.0 t h))
  passes (SDeref s e) n g t h k = passes e n g _ h k.1
  passes (SAssign s a b) n g t h k = (h.0, h.1, passes a n g _ h.2 k.1, passes b n g _ h.3 k.2)

  pass_all : (es : Tms) (n : ℕ) (g ts : Tys) → HaveTypes (plain_all es) n g ts → AllKeep Within (plain_all es) n g →
      PassAll es n g ts
  pass_all NoTms n g ts h k = h
  pass_all (MoreTms e es) n g ts h k = (h.0, h.1, h.2, passes e n g _ h.3 k.0, pass_all es n g _ h.4 k.1)

pub passes_where_typed : PassesWhereTyped
passes_where_typed e n g t w = (λ h. (has_type e n g t h, keeps e n g t w h), λ h. passes e n g t h.0 h.1)
