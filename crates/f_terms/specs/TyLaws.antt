-- What the general laws of shift, put and below ask of types, and what follows.
use Rattle.std.proofs.Common.{◌≡◌, ℕ, ◌+◌, ◌≤◌, ◌↔◌, suc, refl, ap, ap₂, arith}
use Rattle.idx_core.specs.Over.{deep, At, IsOver, IsPart, IsEach, IsEachPart, shifted, BelowAt, AnyDepth}
use Rattle.idx_core.specs.Laws as laws
use Rattle.f_terms.specs.Ty.{Ty, TInt, TVar, TArrow, TAll, TTuple, TSome, TRef, Tys, NoTys, MoreTys, over, over_all}
use Rattle.f_terms.specs.Ty.{each, each_all}
use Rattle.f_terms.specs.Ty.{shift, put, Below}

mutual
  keeps : (f : At Ty) (a : ℕ) → ((e i : ℕ) → f (deep a e) i ≡ TVar i) → (t : Ty) → over f a t ≡ t
  keeps f a h TInt = refl
  keeps f a h (TVar i) = h 0 i
  keeps f a h (TArrow b c) = ap₂ TArrow (keeps f a h b) (keeps f a h c)
  keeps f a h (TAll t) = ap TAll (keeps f (a + 1) (λ e. h (suc e)) t)
  keeps f a h (TTuple ts) = ap TTuple (keeps_all f a h ts)
  keeps f a h (TSome t) = ap TSome (keeps f (a + 1) (λ e. h (suc e)) t)
  keeps f a h (TRef t) = ap TRef (keeps f a h t)

  keeps_all : (f : At Ty) (a : ℕ) → ((e i : ℕ) → f (deep a e) i ≡ TVar i) → (ts : Tys) → over_all f a ts ≡ ts
  keeps_all f a h NoTys = refl
  keeps_all f a h (MoreTys t ts) = ap₂ MoreTys (keeps f a h t) (keeps_all f a h ts)

mutual
  after : (f g h : At Ty) (a b c : ℕ) → ((e i : ℕ) → over g (deep b e) (f (deep a e) i) ≡ h (deep c e) i) → (t : Ty) →
      over g b (over f a t) ≡ over h c t
  after f g h a b c k TInt = refl
  after f g h a b c k (TVar i) = k 0 i
  after f g h a b c k (TArrow x y) = ap₂ TArrow (after f g h a b c k x) (after f g h a b c k y)
  after f g h a b c k (TAll t) = ap TAll (after f g h (a + 1) (b + 1) (c + 1) (λ e. k (suc e)) t)
  after f g h a b c k (TTuple ts) = ap TTuple (after_all f g h a b c k ts)
  after f g h a b c k (TSome t) = ap TSome (after f g h (a + 1) (b + 1) (c + 1) (λ e. k (suc e)) t)
  after f g h a b c k (TRef t) = ap TRef (after f g h a b c k t)

  after_all : (f g h : At Ty) (a b c : ℕ) → ((e i : ℕ) → over g (deep b e) (f (deep a e) i) ≡ h (deep c e) i) →
      (ts : Tys) → over_all g b (over_all f a ts) ≡ over_all h c ts
  after_all f g h a b c k NoTys = refl
  after_all f g h a b c k (MoreTys t ts) = ap₂ MoreTys (after f g h a b c k t) (after_all f g h a b c k ts)

pub types_part : IsPart Ty TVar over
types_part = record {
  at_var = λ f d i. refl;
  is_over = record { keeps = keeps; after = after };
}

pub types_over : IsOver Ty Ty TVar over over
types_over = types_part.is_over

pub type_lists_over : IsOver Ty Tys TVar over over_all
type_lists_over = record { keeps = keeps_all; after = after_all }

mutual
  agree : (V : ℕ → ℕ → Type 0) (B : ℕ → Type 0) (f g : At Ty) (a b n : ℕ) →
      ((e i : ℕ) → V (deep n e) i → f (deep a e) i ≡ g (deep b e) i) → (t : Ty) → each V B n t → over f a t ≡ over g b t
  agree V B f g a b n k TInt u = refl
  agree V B f g a b n k (TVar i) u = k 0 i u
  agree V B f g a b n k (TArrow x y) u = ap₂ TArrow (agree V B f g a b n k x u.0) (agree V B f g a b n k y u.1)
  agree V B f g a b n k (TAll t) u = ap TAll (agree V B f g (a + 1) (b + 1) (n + 1) (λ e. k (suc e)) t u.1)
  agree V B f g a b n k (TTuple ts) u = ap TTuple (agree_all V B f g a b n k ts u)
  agree V B f g a b n k (TSome t) u = ap TSome (agree V B f g (a + 1) (b + 1) (n + 1) (λ e. k (suc e)) t u.1)
  agree V B f g a b n k (TRef t) u = ap TRef (agree V B f g a b n k t u)

  agree_all : (V : ℕ → ℕ → Type 0) (B : ℕ → Type 0) (f g : At Ty) (a b n : ℕ) →
      ((e i : ℕ) → V (deep n e) i → f (deep a e) i ≡ g (deep b e) i) → (ts : Tys) → each_all V B n ts →
      over_all f a ts ≡ over_all g b ts
  agree_all V B f g a b n k NoTys u = refl
  agree_all V B f g a b n k (MoreTys t ts) u =
      ap₂ MoreTys (agree V B f g a b n k t u.0) (agree_all V B f g a b n k ts u.1)

mutual
  made : (V W : ℕ → ℕ → Type 0) (B C : ℕ → Type 0) (f : At Ty) (a n m : ℕ) →
      ((e i : ℕ) → V (deep n e) i → each W C (deep m e) (f (deep a e) i)) → ((e : ℕ) → B (deep n e) → C (deep m e)) →
      (t : Ty) → each V B n t → each W C m (over f a t)
  made V W B C f a n m k l TInt u = tt
  made V W B C f a n m k l (TVar i) u = k 0 i u
  made V W B C f a n m k l (TArrow x y) u = (made V W B C f a n m k l x u.0, made V W B C f a n m k l y u.1)
  made V W B C f a n m k l (TAll t) u =
      (l 1 u.0, made V W B C f (a + 1) (n + 1) (m + 1) (λ e. k (suc e)) (λ e. l (suc e)) t u.1)
  made V W B C f a n m k l (TTuple ts) u = made_all V W B C f a n m k l ts u
  made V W B C f a n m k l (TSome t) u =
      (l 1 u.0, made V W B C f (a + 1) (n + 1) (m + 1) (λ e. k (suc e)) (λ e. l (suc e)) t u.1)
  made V W B C f a n m k l (TRef t) u = made V W B C f a n m k l t u

  made_all : (V W : ℕ → ℕ → Type 0) (B C : ℕ → Type 0) (f : At Ty) (a n m : ℕ) →
      ((e i : ℕ) → V (deep n e) i → each W C (deep m e) (f (deep a e) i)) → ((e : ℕ) → B (deep n e) → C (deep m e)) →
      (ts : Tys) → each_all V B n ts → each_all W C m (over_all f a ts)
  made_all V W B C f a n m k l NoTys u = tt
  made_all V W B C f a n m k l (MoreTys t ts) u = (made V W B C f a n m k l t u.0, made_all V W B C f a n m k l ts u.1)

pub types_each : IsEachPart Ty TVar over each
types_each = record { each_var = λ V B d i h. h; has = record { agree = agree; made = made } }

pub type_lists_each : IsEach Ty Tys each over_all each_all
type_lists_each = record { agree = agree_all; made = made_all }

-- what a shift leaves as it is has no free index from its cut on
mutual
  still : (n : ℕ) (t : Ty) → shift 1 n t ≡ t → Below n t
  still n TInt e = tt
  still n (TVar i) e = laws.still_var TVar (λ j k same. cc) n i e
  still n (TArrow a b) e = (still n a (cc), still n b (cc))
  still n (TAll t) e = (tt, still (n + 1) t (cc))
  still n (TTuple ts) e = still_all n ts (cc)
  still n (TSome t) e = (tt, still (n + 1) t (cc))
  still n (TRef t) e = still n t (cc)

  still_all : (n : ℕ) (ts : Tys) → over_all (shifted TVar 1) n ts ≡ ts → each_all BelowAt AnyDepth n ts
  still_all n NoTys e = tt
  still_all n (MoreTys t ts) e = (still n t (cc), still_all n ts (cc))

pub type_is_below : (n : ℕ) (t : Ty) → Below n t ↔ (shift 1 n t ≡ t)
type_is_below n t = laws.below_is types_part types_each types_over types_each.has still n t

-- two puts exchange, the one put into the other
pub put_put : (i j : ℕ) (u v t : Ty) → i ≤ j → put j v (put i u t) ≡ put i (put j v u) (put (j + 1) (shift 1 i v) t)
put_put i j u v t le = laws.put_put types_part types_over i j u v t le

-- a shift by 0 is the identity
pub shift_none : (t : Ty) → shift 0 0 t ≡ t
shift_none t = laws.shift_zero_law types_over 0 t

-- the free indices after a shift, and after a put
pub shift_bound : (k n : ℕ) (t : Ty) → Below n t → Below (n + k) (shift k 0 t)
shift_bound k n t h = laws.below_shift types_part types_each types_over types_each.has k 0 n t h

pub put_bound : (n : ℕ) (s t : Ty) → Below n s → Below (n + 1) t → Below n (put 0 s t)
put_bound n s t h k = laws.below_put types_part types_each types_over types_each.has 0 n s t (omega arith) h k

-- what a put leaves of a shifted type
pub unshift : (t : Ty) → put 0 TInt (shift 1 0 t) ≡ t
unshift t = laws.put_shift_law types_part types_over 0 TInt t
