-- No program is stuck.
use Rattle.std.proofs.Common.{◌≡◌, ℕ, ℤ, zero, suc, ◌+◌, ◌⊎◌, inl, inr, Some, None, Bool, true, false, cond, refl, sym}
use Rattle.std.proofs.Common.{ap, ◌∙◌, subst}
use Rattle.idx_core.specs.declared.arith.Op.{Op}
use Rattle.idx_core.specs.Arith.{is_zero}
use Rattle.f_terms.specs.Ty.{Ty, TInt, TVar, TArrow, TAll, TTuple, TSome, TRef, Tys, NoTys, MoreTys, shift, put, Closed}
use Rattle.f_terms.specs.Tm.{Term, MVar, MNum, MFix, MApp, MGen, MInst, MTuple, MProj, MArith, MIf0, MLet, MPack}
use Rattle.f_terms.specs.Tm.{MOpen, MRef, MDeref, MAssign, Terms, NoTerms, MoreTerms}
use Rattle.f_terms.specs.Typing.{ty_at, field_ty, raised, in_fix, in_open, HasType, HaveTypes}
use Rattle.f_terms.specs.Eval.{Val, VInt, VTup, VFun, VSus, VCell, Vals, Empty, And, Result, Gives, Spent, Stuck}
use Rattle.f_terms.specs.Eval.{Results, GiveAll, SpentAll, StuckAll, then_eval, then_all, all_then, as_tuple, value_at}
use Rattle.f_terms.specs.Eval.{given, project, cells, one_more, hold, fresh, fetch, assign, Enter, apply, inst}
use Rattle.f_terms.specs.Eval.{operate, choose, eval_by, eval_all, enter_by, eval, Evaluates, IsSpent}
use Rattle.f_terms.specs.Laws.{NeverStuck}
use Rattle.f_terms.specs.OneType.{some_is, result_is, body_is, fields_are, held_is}
use Rattle.f_terms.proofs.Closing.{close, close_all, AllClosed, count, close_int, close_arrow, close_tuple, close_ref}
use Rattle.f_terms.proofs.Closing.{fields_are_closed, close_under, close_under_some, close_raised, close_put}
use Rattle.f_terms.proofs.Closing.{close_more, close_outside, close_is_closed}

-- t with some of its outer hidden types put for their names is u
abbrev OpensBy : ℕ → Ty → Ty → Type 0
OpensBy zero t u = t ≡ u
OpensBy (suc k) t u = (s : Ty) × (r : Ty) × (t ≡ TSome s) × Closed r × OpensBy k (put 0 r s) u

abbrev Opens : Ty → Ty → Type 0
Opens t u = (k : ℕ) × OpensBy k t u

at_once : {t u : Ty} → t ≡ u → Opens t u
at_once e = (0, e)

abbrev is_some : Ty → Bool
is_some TInt = false
is_some (TVar i) = false
is_some (TArrow a b) = false
is_some (TAll t) = false
is_some (TTuple ts) = false
is_some (TSome t) = true
is_some (TRef t) = false

plain_is : {t u : Ty} → is_some t ≡ false → Opens t u → t ≡ u
plain_is {t} {u} e h = go h.0 h.1
  where
    go : (k : ℕ) → OpensBy k t u → t ≡ u
    go zero q = q
    go (suc k) q = let c = ap is_some q.2 in absurd (cc)

hidden_in : (t u : Ty) → is_some u ≡ false → Opens (TSome t) u → (r : Ty) × Closed r × Opens (put 0 r t) u
hidden_in t u e h = go h.0 h.1
  where
    go : (k : ℕ) → OpensBy k (TSome t) u → (r : Ty) × Closed r × Opens (put 0 r t) u
    go zero q = let c = ap is_some q in absurd (cc)
    go (suc k) q = let d : q.0 ≡ t = cc in (q.1, q.3, (k, subst (λ z. OpensBy k (put 0 q.1 z) u) d q.4))

-- values of closed types, where the cells hold values of the types S: a body keeps the closed types ss that stand for
-- its type variables
abbrev mutual
  Fits : Tys → Val → Ty → Type 0
  Fits S (VInt n) t = Opens t TInt
  Fits S (VTup vs) t = (ts : Tys) × Opens t (TTuple ts) × FitAll S vs ts
  Fits S (VFun env body) t =
      (ss g : Tys) × (arg res : Ty) × Opens t (TArrow (close 0 ss arg) (close 0 ss res)) × AllClosed ss
      × HasType body (count ss) (in_fix arg res g) res × FitAll S env (close_all ss g)
  Fits S (VSus env body) t =
      (ss g : Tys) × (s : Ty) × Opens t (TAll (close 1 ss s)) × AllClosed ss × HasType body (count ss + 1) (raised g) s
      × FitAll S env (close_all ss g)
  Fits S (VCell p) t = (u : Ty) × Opens t (TRef u) × (ty_at S p ≡ Some u)

  FitAll : Tys → Vals → Tys → Type 0
  FitAll S Empty ts = ts ≡ NoTys
  FitAll S (And v vs) ts = (t : Ty) × (us : Tys) × (ts ≡ MoreTys t us) × Fits S v t × FitAll S vs us

-- more cells
abbrev More : Tys → Tys → Type 0
More S Z = (i : ℕ) (t : Ty) → ty_at S i ≡ Some t → ty_at Z i ≡ Some t

more_same : (S : Tys) → More S S
more_same S i t h = h

more_trans : (S Z Y : Tys) → More S Z → More Z Y → More S Y
more_trans S Z Y m k i t h = k i t (m i t h)

mutual
  fits_more : (v : Val) (S Z : Tys) (t : Ty) → More S Z → Fits S v t → Fits Z v t
  fits_more (VInt n) S Z t m h = h
  fits_more (VTup vs) S Z t m h = (h.0, h.1, fit_more vs S Z h.0 m h.2)
  fits_more (VFun env body) S Z t m h = (h.0, h.1, h.2, h.3, h.4, h.5, h.6, fit_more env S Z (close_all h.0 h.1) m h.7)
  fits_more (VSus env body) S Z t m h = (h.0, h.1, h.2, h.3, h.4, h.5, fit_more env S Z (close_all h.0 h.1) m h.6)
  fits_more (VCell p) S Z t m h = (h.0, h.1, m p h.0 h.2)

  fit_more : (vs : Vals) (S Z ts : Tys) → More S Z → FitAll S vs ts → FitAll Z vs ts
  fit_more Empty S Z ts m h = h
  fit_more (And v vs) S Z ts m h = (h.0, h.1, h.2, fits_more v S Z h.0 m h.3, fit_more vs S Z h.1 m h.4)

-- packages don't show
packed : (S : Tys) (v : Val) (r t : Ty) → Closed r → Fits S v (put 0 r t) → Fits S v (TSome t)
packed S (VInt n) r t c h = (suc h.0, (t, r, refl, c, h.1))
packed S (VTup vs) r t c h = (h.0, (suc h.1.0, (t, r, refl, c, h.1.1)), h.2)
packed S (VFun env body) r t c h = (h.0, h.1, h.2, h.3, (suc h.4.0, (t, r, refl, c, h.4.1)), h.5, h.6, h.7)
packed S (VSus env body) r t c h = (h.0, h.1, h.2, (suc h.3.0, (t, r, refl, c, h.3.1)), h.4, h.5, h.6)
packed S (VCell p) r t c h = (h.0, (suc h.1.0, (t, r, refl, c, h.1.1)), h.2)

unpacked : (S : Tys) (v : Val) (t : Ty) → Fits S v (TSome t) → (r : Ty) × Closed r × Fits S v (put 0 r t)
unpacked S (VInt n) t h = hidden_in t TInt refl h
unpacked S (VTup vs) t h = let o = hidden_in t (TTuple h.0) refl h.1 in (o.0, o.1, (h.0, o.2, h.2))
unpacked S (VFun env body) t h =
    let o = hidden_in t (TArrow (close 0 h.0 h.2) (close 0 h.0 h.3)) refl h.4 in
    (o.0, o.1, (h.0, h.1, h.2, h.3, o.2, h.5, h.6, h.7))
unpacked S (VSus env body) t h =
    let o = hidden_in t (TAll (close 1 h.0 h.2)) refl h.3 in (o.0, o.1, (h.0, h.1, h.2, o.2, h.4, h.5, h.6))
unpacked S (VCell p) t h = let o = hidden_in t (TRef h.0) refl h.1 in (o.0, o.1, (h.0, o.2, h.2))

-- what is given has the type, in a store of more cells perhaps, whose cells hold values of their types
abbrev Good : Tys → Ty → Result → Type 0
Good S t (Gives v n st) = (Z : Tys) × More S Z × Fits Z v t × FitAll Z st Z
Good S t Spent = Unit {0}
Good S t Stuck = ⊥

abbrev GoodAll : Tys → Tys → Results → Type 0
GoodAll S ts (GiveAll vs n st) = (Z : Tys) × More S Z × FitAll Z vs ts × FitAll Z st Z
GoodAll S ts SpentAll = Unit {0}
GoodAll S ts StuckAll = ⊥

good_more : (S Z : Tys) (t : Ty) (r : Result) → More S Z → Good Z t r → Good S t r
good_more S Z t (Gives v n st) m h = (h.0, more_trans S Z h.0 m h.1, h.2, h.3)
good_more S Z t Spent m h = tt
good_more S Z t Stuck m h = h

good_all_more : (S Z ts : Tys) (r : Results) → More S Z → GoodAll Z ts r → GoodAll S ts r
good_all_more S Z ts (GiveAll vs n st) m h = (h.0, more_trans S Z h.0 m h.1, h.2, h.3)
good_all_more S Z ts SpentAll m h = tt
good_all_more S Z ts StuckAll m h = h

good_then : (S : Tys) (s t : Ty) (r : Result) (go : Val → ℕ → Vals → Result) → Good S s r →
    ((Z : Tys) (v : Val) (n : ℕ) (st : Vals) → More S Z → Fits Z v s → FitAll Z st Z → Good Z t (go v n st)) →
    Good S t (then_eval r go)
good_then S s t (Gives v n st) go h f = good_more S h.0 t (go v n st) h.1 (f h.0 v n st h.1 h.2 h.3)
good_then S s t Spent go h f = tt
good_then S s t Stuck go h f = h

good_then_all : (S : Tys) (s : Ty) (ts : Tys) (r : Result) (go : Val → ℕ → Vals → Results) → Good S s r →
    ((Z : Tys) (v : Val) (n : ℕ) (st : Vals) → More S Z → Fits Z v s → FitAll Z st Z → GoodAll Z ts (go v n st)) →
    GoodAll S ts (then_all r go)
good_then_all S s ts (Gives v n st) go h f = good_all_more S h.0 ts (go v n st) h.1 (f h.0 v n st h.1 h.2 h.3)
good_then_all S s ts Spent go h f = tt
good_then_all S s ts Stuck go h f = h

good_cons : (S : Tys) (t : Ty) (ts : Tys) (v : Val) (r : Results) → Fits S v t → GoodAll S ts r →
    GoodAll S (MoreTys t ts) (all_then r (λ vs m st. GiveAll (And v vs) m st))
good_cons S t ts v (GiveAll vs n st) h k = (k.0, k.1, (t, ts, refl, fits_more v S k.0 t k.1 h, k.2), k.3)
good_cons S t ts v SpentAll h k = tt
good_cons S t ts v StuckAll h k = k

good_tuple : (S ts : Tys) (r : Results) → GoodAll S ts r → Good S (TTuple ts) (as_tuple r)
good_tuple S ts (GiveAll vs n st) h = (h.0, h.1, (ts, at_once refl, h.2), h.3)
good_tuple S ts SpentAll h = tt
good_tuple S ts StuckAll h = h

good_self : (S : Tys) (v : Val) (t : Ty) (n : ℕ) (st : Vals) → Fits S v t → FitAll S st S → Good S t (Gives v n st)
good_self S v t n st h k = (S, more_same S, h, k)

good_packed : (S : Tys) (r t : Ty) (x : Result) → Closed r → Good S (put 0 r t) x → Good S (TSome t) x
good_packed S r t (Gives v n st) c h = (h.0, h.1, packed h.0 v r t c h.2, h.3)
good_packed S r t Spent c h = tt
good_packed S r t Stuck c h = h

none_is_no_some : {A : Type 0} {a : A} → None ≡ Some a → ⊥
none_is_no_some e = cc

nothing_is_no_more : {t : Ty} {ts : Tys} → NoTys ≡ MoreTys t ts → ⊥
nothing_is_no_more e = cc

first_is : {a b : Ty} {s t : Tys} → MoreTys a s ≡ MoreTys b t → a ≡ b
first_is e = cc

rest_is : {a b : Ty} {s t : Tys} → MoreTys a s ≡ MoreTys b t → s ≡ t
rest_is e = cc

arg_is : {a b c d : Ty} → TArrow a b ≡ TArrow c d → a ≡ c
arg_is e = cc

-- a value by its number
good_at : (S : Tys) (vs : Vals) (ts : Tys) (i n : ℕ) (st : Vals) (t : Ty) → FitAll S vs ts → ty_at ts i ≡ Some t →
    FitAll S st S → Good S t (given (value_at vs i) n st)
good_at S vs NoTys i n st t h e k = absurd (none_is_no_some e)
good_at S Empty (MoreTys u ts) i n st t h e k = absurd (nothing_is_no_more (sym h))
good_at S (And v vs) (MoreTys u ts) zero n st t h e k =
    good_self S v t n st (subst (λ s. Fits S v s) (first_is (sym h.2) ∙ some_is e) h.3) k
good_at S (And v vs) (MoreTys u ts) (suc i) n st t h e k =
    good_at S vs ts i n st t (subst (λ s. FitAll S vs s) (rest_is (sym h.2)) h.4) e k

closed_at : (ss g : Tys) (i : ℕ) (t : Ty) → ty_at g i ≡ Some t → ty_at (close_all ss g) i ≡ Some (close 0 ss t)
closed_at ss NoTys i t e = absurd (none_is_no_some e)
closed_at ss (MoreTys u g) zero t e = ap (λ s. Some (close 0 ss s)) (some_is e)
closed_at ss (MoreTys u g) (suc i) t e = closed_at ss g i t e

closed_field : (ss ts : Tys) (i : ℕ) (t : Ty) → field_ty ts i ≡ Some t →
    field_ty (close_all ss ts) i ≡ Some (close 0 ss t)
closed_field ss ts zero t e = absurd (none_is_no_some e)
closed_field ss ts (suc i) t e = closed_at ss ts i t e

-- values by the forms of their types
int_is_no_tuple : {ts : Tys} → TInt ≡ TTuple ts → ⊥
int_is_no_tuple e = cc

int_is_no_arrow : {a b : Ty} → TInt ≡ TArrow a b → ⊥
int_is_no_arrow e = cc

int_is_no_all : {t : Ty} → TInt ≡ TAll t → ⊥
int_is_no_all e = cc

arrow_is_no_int : {a b : Ty} → TArrow a b ≡ TInt → ⊥
arrow_is_no_int e = cc

arrow_is_no_tuple : {a b : Ty} {ts : Tys} → TArrow a b ≡ TTuple ts → ⊥
arrow_is_no_tuple e = cc

arrow_is_no_all : {a b t : Ty} → TArrow a b ≡ TAll t → ⊥
arrow_is_no_all e = cc

all_is_no_int : {t : Ty} → TAll t ≡ TInt → ⊥
all_is_no_int e = cc

all_is_no_tuple : {t : Ty} {ts : Tys} → TAll t ≡ TTuple ts → ⊥
all_is_no_tuple e = cc

all_is_no_arrow : {t a b : Ty} → TAll t ≡ TArrow a b → ⊥
all_is_no_arrow e = cc

tuple_is_no_int : {ts : Tys} → TTuple ts ≡ TInt → ⊥
tuple_is_no_int e = cc

tuple_is_no_arrow : {ts : Tys} {a b : Ty} → TTuple ts ≡ TArrow a b → ⊥
tuple_is_no_arrow e = cc

tuple_is_no_all : {ts : Tys} {t : Ty} → TTuple ts ≡ TAll t → ⊥
tuple_is_no_all e = cc

int_is_no_ref : {t : Ty} → TInt ≡ TRef t → ⊥
int_is_no_ref e = cc

arrow_is_no_ref : {a b t : Ty} → TArrow a b ≡ TRef t → ⊥
arrow_is_no_ref e = cc

all_is_no_ref : {s t : Ty} → TAll s ≡ TRef t → ⊥
all_is_no_ref e = cc

tuple_is_no_ref : {ts : Tys} {t : Ty} → TTuple ts ≡ TRef t → ⊥
tuple_is_no_ref e = cc

ref_is_no_int : {t : Ty} → TRef t ≡ TInt → ⊥
ref_is_no_int e = cc

ref_is_no_arrow : {t a b : Ty} → TRef t ≡ TArrow a b → ⊥
ref_is_no_arrow e = cc

ref_is_no_all : {s t : Ty} → TRef s ≡ TAll t → ⊥
ref_is_no_all e = cc

ref_is_no_tuple : {t : Ty} {ts : Tys} → TRef t ≡ TTuple ts → ⊥
ref_is_no_tuple e = cc

good_project : (S : Tys) (i : ℕ) (v : Val) (n : ℕ) (st : Vals) (ts : Tys) (t : Ty) → Fits S v (TTuple ts) →
    field_ty ts i ≡ Some t → FitAll S st S → Good S t (project i v n st)
good_project S zero v n st ts t h e k = absurd (none_is_no_some e)
good_project S (suc i) (VInt j) n st ts t h e k = absurd (tuple_is_no_int (plain_is refl h))
good_project S (suc i) (VTup vs) n st ts t h e k =
    good_at S vs ts i n st t (subst (λ us. FitAll S vs us) (fields_are (sym (plain_is refl h.1))) h.2) e k
good_project S (suc i) (VFun env body) n st ts t h e k = absurd (tuple_is_no_arrow (plain_is refl h.4))
good_project S (suc i) (VSus env body) n st ts t h e k = absurd (tuple_is_no_all (plain_is refl h.3))
good_project S (suc i) (VCell p) n st ts t h e k = absurd (tuple_is_no_ref (plain_is refl h.1))

not_int : {P : Type 0} (S : Tys) (v : Val) → Fits S v TInt → ((i : ℤ) → v ≡ VInt i → P) → P
not_int S (VInt i) h f = f i refl
not_int S (VTup vs) h f = absurd (int_is_no_tuple (plain_is refl h.1))
not_int S (VFun env body) h f = absurd (int_is_no_arrow (plain_is refl h.4))
not_int S (VSus env body) h f = absurd (int_is_no_all (plain_is refl h.3))
not_int S (VCell p) h f = absurd (int_is_no_ref (plain_is refl h.1))

good_operate : (S : Tys) (op : Op) (v w : Val) (n : ℕ) (st : Vals) → Fits S v TInt → Fits S w TInt → FitAll S st S →
    Good S TInt (operate op v w n st)
good_operate S op v w n st h k s =
    not_int S v h
    (λ i e. not_int S w k
    (λ j e'. subst (λ x. Good S TInt (operate op x w n st)) (sym e)
    (subst (λ y. Good S TInt (operate op (VInt i) y n st)) (sym e') (S, more_same S, at_once refl, s))))

good_choose : (S : Tys) (v : Val) (t : Ty) (a b : Result) → Fits S v TInt → Good S t a → Good S t b →
    Good S t (choose v a b)
good_choose S v t a b h ga gb = not_int S v h (λ i e. subst (λ v. Good S t (choose v a b)) (sym e) (pick (is_zero i)))
  where
    pick : (z : Bool) → Good S t (cond z a b)
    pick true = ga
    pick false = gb

-- stores
abbrev push_ty : Tys → Ty → Tys
push_ty NoTys u = MoreTys u NoTys
push_ty (MoreTys t ts) u = MoreTys t (push_ty ts u)

more_push : (ts : Tys) (u : Ty) → More ts (push_ty ts u)
more_push NoTys u i t h = absurd (none_is_no_some h)
more_push (MoreTys s ts) u zero t h = h
more_push (MoreTys s ts) u (suc i) t h = more_push ts u i t h

at_push : (S : Tys) (st : Vals) (ts : Tys) (u : Ty) → FitAll S st ts → ty_at (push_ty ts u) (cells st) ≡ Some u
at_push S Empty ts u h = subst (λ x. ty_at (push_ty x u) 0 ≡ Some u) (sym h) refl
at_push S (And v st) ts u h =
    subst (λ x. ty_at (push_ty x u) (suc (cells st)) ≡ Some u) (sym h.2) (at_push S st h.1 u h.4)

fit_push : (S : Tys) (st : Vals) (ts : Tys) (v : Val) (u : Ty) → FitAll S st ts → Fits S v u →
    FitAll S (one_more st v) (push_ty ts u)
fit_push S Empty ts v u h k = subst (λ x. FitAll S (And v Empty) (push_ty x u)) (sym h) (u, NoTys, refl, k, refl)
fit_push S (And w st) ts v u h k =
    subst (λ x. FitAll S (And w (one_more st v)) (push_ty x u)) (sym h.2)
    (h.0, push_ty h.1 u, refl, h.3, fit_push S st h.1 v u h.4 k)

fit_hold : (S : Tys) (p : ℕ) (st : Vals) (ts : Tys) (v : Val) (u : Ty) → FitAll S st ts → ty_at ts p ≡ Some u →
    Fits S v u → FitAll S (hold p v st) ts
fit_hold S p Empty ts v u h e k = h
fit_hold S p (And w st) NoTys v u h e k = absurd (none_is_no_some e)
fit_hold S zero (And w st) (MoreTys t ts) v u h e k =
    (u, ts, ap (λ x. MoreTys x ts) (some_is e), k, subst (λ s. FitAll S st s) (rest_is (sym h.2)) h.4)
fit_hold S (suc p) (And w st) (MoreTys t ts) v u h e k = (
  t,
  ts,
  refl,
  subst (λ s. Fits S w s) (first_is (sym h.2)) h.3,
  fit_hold S p st ts v u (subst (λ s. FitAll S st s) (rest_is (sym h.2)) h.4) e k,
)

good_fresh : (S : Tys) (v : Val) (n : ℕ) (st : Vals) (t : Ty) → Fits S v t → FitAll S st S →
    Good S (TRef t) (fresh v n st)
good_fresh S v n st t h k =
    let Z = push_ty S t in
    let more = more_push S t in (
      Z,
      more,
      (t, at_once refl, at_push S st S t k),
      fit_more (one_more st v) S Z Z more (fit_push S st S v t k h),
    )

good_fetch : (S : Tys) (v : Val) (n : ℕ) (st : Vals) (t : Ty) → Fits S v (TRef t) → FitAll S st S →
    Good S t (fetch v n st)
good_fetch S (VInt i) n st t h k = absurd (ref_is_no_int (plain_is refl h))
good_fetch S (VTup vs) n st t h k = absurd (ref_is_no_tuple (plain_is refl h.1))
good_fetch S (VFun env body) n st t h k = absurd (ref_is_no_arrow (plain_is refl h.4))
good_fetch S (VSus env body) n st t h k = absurd (ref_is_no_all (plain_is refl h.3))
good_fetch S (VCell p) n st t h k = good_at S st S p n st t k (h.2 ∙ ap Some (held_is (sym (plain_is refl h.1)))) k

good_assign : (S : Tys) (v w : Val) (n : ℕ) (st : Vals) (t : Ty) → Fits S v (TRef t) → Fits S w t → FitAll S st S →
    Good S (TTuple NoTys) (assign v w n st)
good_assign S (VInt i) w n st t h g k = absurd (ref_is_no_int (plain_is refl h))
good_assign S (VTup vs) w n st t h g k = absurd (ref_is_no_tuple (plain_is refl h.1))
good_assign S (VFun env body) w n st t h g k = absurd (ref_is_no_arrow (plain_is refl h.4))
good_assign S (VSus env body) w n st t h g k = absurd (ref_is_no_all (plain_is refl h.3))
good_assign S (VCell p) w n st t h g k =
    let e : ty_at S p ≡ Some t = h.2 ∙ ap Some (held_is (sym (plain_is refl h.1))) in
    good_then S t (TTuple NoTys) _ _ (good_at S st S p n st t k e k) (λ Z old n1 s1 m ho q. (
      Z,
      more_same Z,
      (NoTys, at_once refl, refl),
      fit_hold Z p s1 Z w t q (m p t e) (fits_more w S Z t m g),
    ))

-- bodies are entered soundly
record EnterOk (enter : Enter) : Type 0 where
  enters : (S : Tys) (env : Vals) (body : Term) (n : ℕ) (st : Vals) (ss g : Tys) (t : Ty) → AllClosed ss →
      HasType body (count ss) g t → FitAll S env (close_all ss g) → FitAll S st S →
      Good S (close 0 ss t) (enter env body n st)

module _ (enter : Enter) (ok : EnterOk enter) where
  good_apply : (S : Tys) (v w : Val) (n : ℕ) (st : Vals) (s t : Ty) → Fits S v (TArrow s t) → Fits S w s →
      FitAll S st S → Good S t (apply enter v w n st)
  good_apply S (VInt i) w n st s t h k q = absurd (arrow_is_no_int (plain_is refl h))
  good_apply S (VTup vs) w n st s t h k q = absurd (arrow_is_no_tuple (plain_is refl h.1))
  good_apply S (VFun env body) w n st s t (ss, g, arg, res, o, all, h, f) k q =
      let e = plain_is refl o in
      subst (λ u. Good S u (enter (And w (And (VFun env body) env)) body n st)) (sym (result_is e))
      (ok.enters S (And w (And (VFun env body) env)) body n st ss (in_fix arg res g) res all h (
        close 0 ss arg,
        _,
        refl,
        subst (λ u. Fits S w u) (arg_is e) k,
        (_, _, refl, (ss, g, arg, res, at_once (close_arrow 0 ss arg res), all, h, f), f),
      ) q)
  good_apply S (VSus env body) w n st s t h k q = absurd (arrow_is_no_all (plain_is refl h.3))
  good_apply S (VCell p) w n st s t h k q = absurd (arrow_is_no_ref (plain_is refl h.1))

  good_inst : (S : Tys) (v : Val) (n : ℕ) (st : Vals) (r b : Ty) → Closed r → Fits S v (TAll b) → FitAll S st S →
      Good S (put 0 r b) (inst enter v n st)
  good_inst S (VInt i) n st r b c h q = absurd (all_is_no_int (plain_is refl h))
  good_inst S (VTup vs) n st r b c h q = absurd (all_is_no_tuple (plain_is refl h.1))
  good_inst S (VFun env body) n st r b c h q = absurd (all_is_no_arrow (plain_is refl h.4))
  good_inst S (VSus env body) n st r b c (ss, g, t, o, all, h, f) q =
      subst (λ u. Good S u (enter env body n st))
      (close_more r ss t c all ∙ ap (put 0 r) (sym (body_is (plain_is refl o))))
      (ok.enters S env body n st (MoreTys r ss) (raised g) t (c, all) h
      (subst (λ ts. FitAll S env ts) (sym (close_raised r ss g)) f) q)
  good_inst S (VCell p) n st r b c h q = absurd (all_is_no_ref (plain_is refl h.1))

  mutual
    sound : (S : Tys) (e : Term) (env : Vals) (n : ℕ) (st : Vals) (ss g : Tys) (t : Ty) → AllClosed ss →
        HasType e (count ss) g t → FitAll S env (close_all ss g) → FitAll S st S →
        Good S (close 0 ss t) (eval_by enter env e n st)
    sound S (MVar i) env n st ss g t all h f q =
        good_at S env (close_all ss g) i n st (close 0 ss t) f (closed_at ss g i t h) q
    sound S (MNum i) env n st ss g t all h f q =
        good_self S (VInt i) (close 0 ss t) n st (at_once (ap (close 0 ss) h ∙ close_int 0 ss)) q
    sound S (MFix arg res e) env n st ss g t all h f q =
        good_self S (VFun env e) (close 0 ss t) n st
        (ss, g, arg, res, at_once (ap (close 0 ss) h.0 ∙ close_arrow 0 ss arg res), all, h.3, f) q
    sound S (MApp x y) env n st ss g t all (s, hx, hy) f q =
        good_then S (TArrow (close 0 ss s) (close 0 ss t)) (close 0 ss t) _ _
        (subst (λ u. Good S u (eval_by enter env x n st)) (close_arrow 0 ss s t)
        (sound S x env n st ss g (TArrow s t) all hx f q))
        (λ Z v n1 s1 m hv q1. good_then Z (close 0 ss s) (close 0 ss t) _ _
        (sound Z y env n1 s1 ss g s all hy (fit_more env S Z (close_all ss g) m f) q1)
        (λ Y w n2 s2 m2 hw q2. good_apply Y v w n2 s2 _ _ (fits_more v Z Y _ m2 hv) hw q2))
    sound S (MGen e) env n st ss g t all h f q =
        good_self S (VSus env e) (close 0 ss t) n st
        (ss, g, h.0, at_once (ap (close 0 ss) h.1 ∙ close_under 0 ss h.0 all), all, h.2, f) q
    sound S (MInst e s) env n st ss g t all (b, te, low, h) f q =
        subst (λ u. Good S u (eval_by enter env (MInst e s) n st)) (sym (ap (close 0 ss) te ∙ close_put ss s b all))
        (good_then S (TAll (close 1 ss b)) (put 0 (close 0 ss s) (close 1 ss b)) _ _
        (subst (λ u. Good S u (eval_by enter env e n st)) (close_under 0 ss b all)
        (sound S e env n st ss g (TAll b) all h f q))
        (λ Z v n1 s1 m hv q1. good_inst Z v n1 s1 (close 0 ss s) (close 1 ss b) (close_is_closed ss s all low) hv q1))
    sound S (MTuple es) env n st ss g t all (ts, te, h) f q =
        subst (λ u. Good S u (eval_by enter env (MTuple es) n st))
        (sym (ap (close 0 ss) te ∙ close_tuple 0 ss ts ∙ ap TTuple (fields_are_closed ss ts)))
        (good_tuple S (close_all ss ts) _ (sounds S es env n st ss g ts all h f q))
    sound S (MProj i e) env n st ss g t all (ts, te, h) f q =
        good_then S (TTuple (close_all ss ts)) (close 0 ss t) _ _
        (subst (λ u. Good S u (eval_by enter env e n st)) (close_tuple 0 ss ts ∙ ap TTuple (fields_are_closed ss ts))
        (sound S e env n st ss g (TTuple ts) all h f q))
        (λ Z v n1 s1 m hv q1. good_project Z i v n1 s1 (close_all ss ts) (close 0 ss t) hv (closed_field ss ts i t te)
        q1)
    sound S (MArith op x y) env n st ss g t all (te, hx, hy) f q =
        subst (λ u. Good S u (eval_by enter env (MArith op x y) n st)) (sym (ap (close 0 ss) te ∙ close_int 0 ss))
        (good_then S TInt TInt _ _
        (subst (λ u. Good S u (eval_by enter env x n st)) (close_int 0 ss)
        (sound S x env n st ss g TInt all hx f q))
        (λ Z v n1 s1 m hv q1. good_then Z TInt TInt _ _
        (subst (λ u. Good Z u (eval_by enter env y n1 s1)) (close_int 0 ss)
        (sound Z y env n1 s1 ss g TInt all hy (fit_more env S Z (close_all ss g) m f) q1))
        (λ Y w n2 s2 m2 hw q2. good_operate Y op v w n2 s2 (fits_more v Z Y TInt m2 hv) hw q2)))
    sound S (MIf0 c x y) env n st ss g t all (hc, hx, hy) f q =
        good_then S TInt (close 0 ss t) _ _
        (subst (λ u. Good S u (eval_by enter env c n st)) (close_int 0 ss)
        (sound S c env n st ss g TInt all hc f q))
        (λ Z v n1 s1 m hv q1. let f1 = fit_more env S Z (close_all ss g) m f in
        good_choose Z v _ _ _ hv (sound Z x env n1 s1 ss g t all hx f1 q1)
        (sound Z y env n1 s1 ss g t all hy f1 q1))
    sound S (MLet x y) env n st ss g t all (s, hx, hy) f q =
        good_then S (close 0 ss s) (close 0 ss t) _ _ (sound S x env n st ss g s all hx f q)
        (λ Z v n1 s1 m hv q1. sound Z y (And v env) n1 s1 ss (MoreTys s g) t all hy
        (close 0 ss s, close_all ss g, refl, hv, fit_more env S Z (close_all ss g) m f) q1)
    sound S (MPack x e s) env n st ss g t all (u, su, te, low, low2, h) f q =
        subst (λ z. Good S z (eval_by enter env e n st)) (sym (ap (close 0 ss) (te ∙ su) ∙ close_under_some 0 ss u all))
        (good_packed S (close 0 ss x) (close 1 ss u) (eval_by enter env e n st) (close_is_closed ss x all low)
        (subst (λ z. Good S z (eval_by enter env e n st)) (close_put ss x u all)
        (sound S e env n st ss g (put 0 x u) all h f q)))
    sound S (MOpen x y) env n st ss g t all (u, low, hx, hy) f q =
        good_then S (TSome (close 1 ss u)) (close 0 ss t) _ _
        (subst (λ z. Good S z (eval_by enter env x n st)) (close_under_some 0 ss u all)
        (sound S x env n st ss g (TSome u) all hx f q))
        (λ Z v n1 s1 m hv q1.
        let o = unpacked Z v (close 1 ss u) hv in
        subst (λ z. Good Z z (eval_by enter (And v env) y n1 s1)) (close_outside o.0 ss t)
        (sound Z y (And v env) n1 s1 (MoreTys o.0 ss) (in_open u g) (shift 1 0 t) (o.1, all) hy (
          close 0 (MoreTys o.0 ss) u,
          close_all (MoreTys o.0 ss) (raised g),
          refl,
          subst (λ z. Fits Z v z) (sym (close_more o.0 ss u o.1 all)) o.2,
          subst (λ z. FitAll Z env z) (sym (close_raised o.0 ss g)) (fit_more env S Z (close_all ss g) m f),
        ) q1))
    sound S (MRef e) env n st ss g t all (s, te, h) f q =
        subst (λ u. Good S u (eval_by enter env (MRef e) n st)) (sym (ap (close 0 ss) te ∙ close_ref 0 ss s))
        (good_then S (close 0 ss s) (TRef (close 0 ss s)) _ _ (sound S e env n st ss g s all h f q)
        (λ Z v n1 s1 m hv q1. good_fresh Z v n1 s1 (close 0 ss s) hv q1))
    sound S (MDeref e) env n st ss g t all h f q =
        good_then S (TRef (close 0 ss t)) (close 0 ss t) _ _
        (subst (λ u. Good S u (eval_by enter env e n st)) (close_ref 0 ss t)
        (sound S e env n st ss g (TRef t) all h f q))
        (λ Z v n1 s1 m hv q1. good_fetch Z v n1 s1 (close 0 ss t) hv q1)
    sound S (MAssign x y) env n st ss g t all (s, te, hx, hy) f q =
        subst (λ u. Good S u (eval_by enter env (MAssign x y) n st))
        (sym (ap (close 0 ss) te ∙ close_tuple 0 ss NoTys ∙ ap TTuple (fields_are_closed ss NoTys)))
        (good_then S (TRef (close 0 ss s)) (TTuple NoTys) _ _
        (subst (λ u. Good S u (eval_by enter env x n st)) (close_ref 0 ss s)
        (sound S x env n st ss g (TRef s) all hx f q))
        (λ Z v n1 s1 m hv q1. good_then Z (close 0 ss s) (TTuple NoTys) _ _
        (sound Z y env n1 s1 ss g s all hy (fit_more env S Z (close_all ss g) m f) q1)
        (λ Y w n2 s2 m2 hw q2. good_assign Y v w n2 s2 (close 0 ss s) (fits_more v Z Y (TRef (close 0 ss s)) m2 hv) hw
        q2)))

    sounds : (S : Tys) (es : Terms) (env : Vals) (n : ℕ) (st : Vals) (ss g ts : Tys) → AllClosed ss →
        HaveTypes es (count ss) g ts → FitAll S env (close_all ss g) → FitAll S st S →
        GoodAll S (close_all ss ts) (eval_all enter env es n st)
    sounds S NoTerms env n st ss g ts all h f q = (S, more_same S, ap (close_all ss) h, q)
    sounds S (MoreTerms e es) env n st ss g ts all (t, us, te, he, hes) f q =
        subst (λ us. GoodAll S us (eval_all enter env (MoreTerms e es) n st)) (ap (close_all ss) (sym te))
        (good_then_all S (close 0 ss t) (MoreTys (close 0 ss t) (close_all ss us)) _ _
        (sound S e env n st ss g t all he f q)
        (λ Z v n1 s1 m hv q1. good_cons Z (close 0 ss t) (close_all ss us) v _ hv
        (sounds Z es env n1 s1 ss g us all hes (fit_more env S Z (close_all ss g) m f) q1)))

enters_at : (d : ℕ) (S : Tys) (env : Vals) (body : Term) (n : ℕ) (st : Vals) (ss g : Tys) (t : Ty) → AllClosed ss →
    HasType body (count ss) g t → FitAll S env (close_all ss g) → FitAll S st S →
    Good S (close 0 ss t) (enter_by d env body n st)
enters_at d S env body zero st ss g t all h f q = tt
enters_at zero S env body (suc n) st ss g t all h f q = tt
enters_at (suc d) S env body (suc n) st ss g t all h f q =
    sound (enter_by d)
    (record { enters = λ S env body n st ss g t all h f q. enters_at d S env body n st ss g t all h f q }) S body
    env n st ss g t all h f q

int_or_spent : (e : Term) (n : ℕ) (r : Result) → eval n Empty Empty e ≡ r → Good NoTys TInt r →
    ((i : ℤ) × Evaluates e n i) ⊎ IsSpent e n
int_or_spent e n (Gives v left st) is h =
    inl (not_int h.0 v h.2 (λ i same. (i, (left, (st, is ∙ ap (λ w. Gives w left st) same)))))
int_or_spent e n Spent is h = inr is
int_or_spent e n Stuck is h = absurd h

pub never_stuck : NeverStuck
never_stuck e h n =
    int_or_spent e n (eval n Empty Empty e) refl
    (sound (enter_by n)
    (record { enters = λ S env body k st ss g t all h f q. enters_at n S env body k st ss g t all h f q }) NoTys e
    Empty n Empty NoTys NoTys TInt tt h refl refl)
