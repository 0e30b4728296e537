-- What the general laws of shift, put and below ask of types: one case for each constructor.
use Rattle.std.proofs.Common.{◌≡◌, ℕ, ◌+◌, ◌≤◌, ◌↔◌, suc, refl, ap, ap₂}
use Rattle.idx_core.specs.Over.{deep, At, IsOver, IsPart, IsEach, IsEachPart}
use Rattle.idx_core.specs.Laws.{under, under2, under3}
use Rattle.idx_core.specs.Laws as laws
use Rattle.calc_core.specs.Types.{Ty, IntTy, VarTy, TupleTy, CodeTy, ExistsTy, RefTy, Tys, NoTys, MoreTys}
use Rattle.calc_core.specs.Walks.{over, over_all, each, each_all, shift, shift_all, put, Below, BelowAll}

-- a fact on each depth, below n more binders
keeps_more : (f : At Ty) (a n : ℕ) → ((e i : ℕ) → f (deep a e) i ≡ VarTy i) → (e i : ℕ) →
    f (deep (a + n) e) i ≡ VarTy i
keeps_more f a n h = under (λ d. (i : ℕ) → f d i ≡ VarTy i) n a h

after_more : (f g h : At Ty) (a b c n : ℕ) → ((e i : ℕ) → over g (deep b e) (f (deep a e) i) ≡ h (deep c e) i) →
    (e i : ℕ) → over g (deep (b + n) e) (f (deep (a + n) e) i) ≡ h (deep (c + n) e) i
after_more f g h a b c n k = under3 (λ x y z. (i : ℕ) → over g y (f x i) ≡ h z i) n a b c k

agree_more : (V : ℕ → ℕ → Type 0) (f g : At Ty) (a b m n : ℕ) →
    ((e i : ℕ) → V (deep m e) i → f (deep a e) i ≡ g (deep b e) i) → (e i : ℕ) → V (deep (m + n) e) i →
    f (deep (a + n) e) i ≡ g (deep (b + n) e) i
agree_more V f g a b m n k = under3 (λ x y z. (i : ℕ) → V z i → f x i ≡ g y i) n a b m k

made_more : (V W : ℕ → ℕ → Type 0) (D : ℕ → Type 0) (f : At Ty) (a n m p : ℕ) →
    ((e i : ℕ) → V (deep n e) i → each W D (deep m e) (f (deep a e) i)) → (e i : ℕ) → V (deep (n + p) e) i →
    each W D (deep (m + p) e) (f (deep (a + p) e) i)
made_more V W D f a n m p k = under3 (λ x y z. (i : ℕ) → V y i → each W D z (f x i)) p a n m k

made_deeper : (B D : ℕ → Type 0) (n m p : ℕ) → ((e : ℕ) → B (deep n e) → D (deep m e)) → (e : ℕ) →
    B (deep (n + p) e) → D (deep (m + p) e)
made_deeper B D n m p l = under2 (λ x y. B x → D y) p n m l

mutual
  keeps : (f : At Ty) (a : ℕ) → ((e i : ℕ) → f (deep a e) i ≡ VarTy i) → (t : Ty) → over f a t ≡ t
  keeps f a h IntTy = refl
  keeps f a h (VarTy i) = h 0 i
  keeps f a h (TupleTy ts) = ap TupleTy (keeps_all f a h ts)
  keeps f a h (CodeTy n ts) = ap (CodeTy n) (keeps_all f (a + n) (keeps_more f a n h) ts)
  keeps f a h (ExistsTy t) = ap ExistsTy (keeps f (a + 1) (λ e. h (suc e)) t)
  keeps f a h (RefTy t) = ap RefTy (keeps f a h t)

  keeps_all : (f : At Ty) (a : ℕ) → ((e i : ℕ) → f (deep a e) i ≡ VarTy i) → (ts : Tys) → over_all f a ts ≡ ts
  keeps_all f a h NoTys = refl
  keeps_all f a h (MoreTys t ts) = ap₂ MoreTys (keeps f a h t) (keeps_all f a h ts)

mutual
  after : (f g h : At Ty) (a b c : ℕ) → ((e i : ℕ) → over g (deep b e) (f (deep a e) i) ≡ h (deep c e) i) →
      (t : Ty) → over g b (over f a t) ≡ over h c t
  after f g h a b c k IntTy = refl
  after f g h a b c k (VarTy i) = k 0 i
  after f g h a b c k (TupleTy ts) = ap TupleTy (after_all f g h a b c k ts)
  after f g h a b c k (CodeTy n ts) =
      ap (CodeTy n) (after_all f g h (a + n) (b + n) (c + n) (after_more f g h a b c n k) ts)
  after f g h a b c k (ExistsTy t) = ap ExistsTy (after f g h (a + 1) (b + 1) (c + 1) (λ e. k (suc e)) t)
  after f g h a b c k (RefTy t) = ap RefTy (after f g h a b c k t)

  after_all : (f g h : At Ty) (a b c : ℕ) → ((e i : ℕ) → over g (deep b e) (f (deep a e) i) ≡ h (deep c e) i) →
      (ts : Tys) → over_all g b (over_all f a ts) ≡ over_all h c ts
  after_all f g h a b c k NoTys = refl
  after_all f g h a b c k (MoreTys t ts) = ap₂ MoreTys (after f g h a b c k t) (after_all f g h a b c k ts)

pub types_part : IsPart Ty VarTy over
types_part = record { at_var = λ f d i. refl; is_over = record { keeps = keeps; after = after } }

pub types_over : IsOver Ty Ty VarTy over over
types_over = types_part.is_over

pub type_lists_over : IsOver Ty Tys VarTy over over_all
type_lists_over = record { keeps = keeps_all; after = after_all }

mutual
  agree : (V : ℕ → ℕ → Type 0) (B : ℕ → Type 0) (f g : At Ty) (a b m : ℕ) →
      ((e i : ℕ) → V (deep m e) i → f (deep a e) i ≡ g (deep b e) i) → (t : Ty) → each V B m t →
      over f a t ≡ over g b t
  agree V B f g a b m k IntTy u = refl
  agree V B f g a b m k (VarTy i) u = k 0 i u
  agree V B f g a b m k (TupleTy ts) u = ap TupleTy (agree_all V B f g a b m k ts u)
  agree V B f g a b m k (CodeTy n ts) u =
      ap (CodeTy n) (agree_all V B f g (a + n) (b + n) (m + n) (agree_more V f g a b m n k) ts u.1)
  agree V B f g a b m k (ExistsTy t) u = ap ExistsTy (agree V B f g (a + 1) (b + 1) (m + 1) (λ e. k (suc e)) t u.1)
  agree V B f g a b m k (RefTy t) u = ap RefTy (agree V B f g a b m k t u)

  agree_all : (V : ℕ → ℕ → Type 0) (B : ℕ → Type 0) (f g : At Ty) (a b m : ℕ) →
      ((e i : ℕ) → V (deep m e) i → f (deep a e) i ≡ g (deep b e) i) → (ts : Tys) → each_all V B m ts →
      over_all f a ts ≡ over_all g b ts
  agree_all V B f g a b m k NoTys u = refl
  agree_all V B f g a b m k (MoreTys t ts) u =
      ap₂ MoreTys (agree V B f g a b m k t u.0) (agree_all V B f g a b m k ts u.1)

mutual
  made : (V W : ℕ → ℕ → Type 0) (B D : ℕ → Type 0) (f : At Ty) (a n m : ℕ) →
      ((e i : ℕ) → V (deep n e) i → each W D (deep m e) (f (deep a e) i)) → ((e : ℕ) → B (deep n e) → D (deep m e)) →
      (t : Ty) → each V B n t → each W D m (over f a t)
  made V W B D f a n m k l IntTy u = tt
  made V W B D f a n m k l (VarTy i) u = k 0 i u
  made V W B D f a n m k l (TupleTy ts) u = made_all V W B D f a n m k l ts u
  made V W B D f a n m k l (CodeTy p ts) u = (
    made_deeper B D n m p l 0 u.0,
    made_all V W B D f (a + p) (n + p) (m + p) (made_more V W D f a n m p k)
        (made_deeper B D n m p l) ts u.1,
  )
  made V W B D f a n m k l (ExistsTy t) u = (
    l 1 u.0,
    made V W B D f (a + 1) (n + 1) (m + 1) (λ e. k (suc e))
        (λ e. l (suc e)) t u.1,
  )
  made V W B D f a n m k l (RefTy t) u = made V W B D f a n m k l t u

  made_all : (V W : ℕ → ℕ → Type 0) (B D : ℕ → Type 0) (f : At Ty) (a n m : ℕ) →
      ((e i : ℕ) → V (deep n e) i → each W D (deep m e) (f (deep a e) i)) → ((e : ℕ) → B (deep n e) → D (deep m e)) →
      (ts : Tys) → each_all V B n ts → each_all W D m (over_all f a ts)
  made_all V W B D f a n m k l NoTys u = tt
  made_all V W B D f a n m k l (MoreTys t ts) u = (made V W B D f a n m k l t u.0, made_all V W B D f a n m k l ts u.1)

pub types_each : IsEachPart Ty VarTy over each
types_each = record { each_var = λ V B d i h. h; has = record { agree = agree; made = made } }

pub type_lists_each : IsEach Ty Tys each over_all each_all
type_lists_each = record { agree = agree_all; made = made_all }

-- what a shift leaves as it is has no free index from its cut on
mutual
  still : (n : ℕ) (t : Ty) → shift 1 n t ≡ t → Below n t
  still n IntTy e = tt
  still n (VarTy i) e = laws.still_var VarTy (λ j k same. cc) n i e
  still n (TupleTy ts) e = still_all n ts (cc)
  still n (CodeTy p ts) e = (tt, still_all (n + p) ts (cc))
  still n (ExistsTy t) e = (tt, still (n + 1) t (cc))
  still n (RefTy t) e = still n t (cc)

  still_all : (n : ℕ) (ts : Tys) → shift_all 1 n ts ≡ ts → BelowAll n ts
  still_all n NoTys e = tt
  still_all n (MoreTys t ts) e = (still n t (cc), still_all n ts (cc))

pub type_is_below : (n : ℕ) (t : Ty) → Below n t ↔ (shift 1 n t ≡ t)
type_is_below n t = laws.below_is types_part types_each types_over types_each.has still n t

-- two puts exchange, the one put into the other
pub put_put : (i j : ℕ) (u v t : Ty) → i ≤ j → put j v (put i u t) ≡ put i (put j v u) (put (j + 1) (shift 1 i v) t)
put_put i j u v t le = laws.put_put types_part types_over i j u v t le
