-- The conversion of types at a place, and shift, put and scope.
use Rattle.std.proofs.Common.{◌≡◌, ◌<◌, ◌≤◌, ◌⊎◌, inl, inr, ℕ, zero, suc, ◌+◌, ◌-◌, List, [], ◌∷◌, Some, refl, sym, ap}
use Rattle.std.proofs.Common.{ap₂, ◌∙◌, arith}
use Rattle.std.proofs.lemmas.Bool.{cases_lt, cases_order}
use Rattle.idx_core.specs.Over.{shifted, putted}
use Rattle.idx_core.specs.Laws.{shifted_lt, shifted_ge, putted_lt, putted_eq, putted_gt, shift_add_law}
use Rattle.f_terms.specs.Ty.{Ty, TInt, TVar, TArrow, TAll, TTuple, TSome, TRef, Tys, NoTys, MoreTys, over, over_all}
use Rattle.f_terms.specs.Ty.{shift, put, Below}
use Rattle.f_terms.specs.TyLaws.{types_part, types_over, shift_none}
use Rattle.f_terms.specs.Typing.{ty_at, field_ty}
use Rattle.calc_core.specs.Ends.{lift, under}
use Rattle.k_terms.specs.K.{KTy, TKVar, TKTuple, TKCode, TKExists, TKRef, NoKTys, MoreKTys, kren, krens, krens_scope}
use Rattle.k_terms.specs.Typing.{kscons, kup, ksub, ksubs, knames, KIn, KIns, KField}
use Rattle.calc_core.proofs.Substituting.{ren_none}
use Rattle.k_laws.specs.Cps.{kty, all_kty, taking, type_level, spot, kat}
use Rattle.k_laws.proofs.Below.{Belows, none_is}
use Rattle.f_terms.specs.OneType.{some_is}
use Rattle.calc_core.proofs.Lifts.{lift_add as lift_plus}

abbrev arrow : KTy → KTy → KTy
arrow a b = TKCode 0 (MoreKTys a (MoreKTys (taking b) NoKTys))

abbrev for_all : KTy → KTy
for_all b = TKCode 1 (MoreKTys (taking b) NoKTys)

-- renamed, where the renamings agree on the names in scope
under_on : (n : ℕ) (q r p : ℕ → ℕ) → ((i : ℕ) → i < n → q (r i) ≡ p i) → (i : ℕ) → i < n + 1 →
    under 1 q (under 1 r i) ≡ under 1 p i
under_on n q r p f zero h = refl
under_on n q r p f (suc i) h = ap suc (f i (omega (arith, h)))

mutual
  pub ren_kty : (t : Ty) (n : ℕ) (q r p : ℕ → ℕ) → ((i : ℕ) → i < n → q (r i) ≡ p i) → Below n t →
      kren q (kty r t) ≡ kty p t
  ren_kty TInt n q r p f b = refl
  ren_kty (TVar a) n q r p f b = ap TKVar (f a b)
  ren_kty (TArrow x y) n q r p f b =
      ap₂ arrow (ren_kty x n (under 0 q) r p f b.0) (ren_kty y n (under 0 (under 0 q)) r p f b.1)
  ren_kty (TAll t) n q r p f b =
      ap for_all (ren_kty t (n + 1) (under 0 (under 1 q)) (under 1 r) (under 1 p) (under_on n q r p f) b.1)
  ren_kty (TTuple ts) n q r p f b = ap TKTuple (ren_ktys ts n q r p f b)
  ren_kty (TSome t) n q r p f b =
      ap TKExists (ren_kty t (n + 1) (under 1 q) (under 1 r) (under 1 p) (under_on n q r p f) b.1)
  ren_kty (TRef t) n q r p f b = ap TKRef (ren_kty t n q r p f b)

  ren_ktys : (ts : Tys) (n : ℕ) (q r p : ℕ → ℕ) → ((i : ℕ) → i < n → q (r i) ≡ p i) → Belows n ts →
      krens q (all_kty r ts) ≡ all_kty p ts
  ren_ktys NoTys n q r p f b = refl
  ren_ktys (MoreTys t ts) n q r p f b = ap₂ MoreKTys (ren_kty t n q r p f b.0) (ren_ktys ts n q r p f b.1)

under_same : (n : ℕ) (r p : ℕ → ℕ) → ((i : ℕ) → i < n → r i ≡ p i) → (i : ℕ) → i < n + 1 → under 1 r i ≡ under 1 p i
under_same n r p f zero h = refl
under_same n r p f (suc i) h = ap suc (f i (omega (arith, h)))

mutual
  pub same_kty : (t : Ty) (n : ℕ) (r p : ℕ → ℕ) → ((i : ℕ) → i < n → r i ≡ p i) → Below n t → kty r t ≡ kty p t
  same_kty TInt n r p f b = refl
  same_kty (TVar a) n r p f b = ap TKVar (f a b)
  same_kty (TArrow x y) n r p f b = ap₂ arrow (same_kty x n r p f b.0) (same_kty y n r p f b.1)
  same_kty (TAll t) n r p f b = ap for_all (same_kty t (n + 1) (under 1 r) (under 1 p) (under_same n r p f) b.1)
  same_kty (TTuple ts) n r p f b = ap TKTuple (same_ktys ts n r p f b)
  same_kty (TSome t) n r p f b = ap TKExists (same_kty t (n + 1) (under 1 r) (under 1 p) (under_same n r p f) b.1)
  same_kty (TRef t) n r p f b = ap TKRef (same_kty t n r p f b)

  same_ktys : (ts : Tys) (n : ℕ) (r p : ℕ → ℕ) → ((i : ℕ) → i < n → r i ≡ p i) → Belows n ts →
      all_kty r ts ≡ all_kty p ts
  same_ktys NoTys n r p f b = refl
  same_ktys (MoreTys t ts) n r p f b = ap₂ MoreKTys (same_kty t n r p f b.0) (same_ktys ts n r p f b.1)

-- a walk over a source type that shifts by one
under_one : (r p : ℕ → ℕ) (d : ℕ) → ((i : ℕ) → kty r (shifted TVar 1 d i) ≡ TKVar (p i)) → (i : ℕ) →
    kty (under 1 r) (shifted TVar 1 (d + 1) i) ≡ TKVar (under 1 p i)
under_one r p d f zero = ap (kty (under 1 r)) (shifted_lt TVar 1 (d + 1) 0 (omega arith))
under_one r p d f (suc i) = here (cases_lt i d)
  where
    here : (i < d) ⊎ (d ≤ i) → kty (under 1 r) (shifted TVar 1 (d + 1) (suc i)) ≡ TKVar (suc (p i))
    here (inl l) =
        ap (kty (under 1 r)) (shifted_lt TVar 1 (d + 1) (suc i) (omega (arith, l)))
        ∙ ap (kren suc) (sym (ap (kty r) (shifted_lt TVar 1 d i l)) ∙ f i)
    here (inr l) =
        let more : suc i + 1 ≡ suc (i + 1) = omega arith in
        ap (kty (under 1 r)) (shifted_ge TVar 1 (d + 1) (suc i) (omega (arith, l)) ∙ ap TVar more)
        ∙ ap (kren suc) (sym (ap (kty r) (shifted_ge TVar 1 d i l)) ∙ f i)

mutual
  shift_kty : (t : Ty) (r p : ℕ → ℕ) (d : ℕ) → ((i : ℕ) → kty r (shifted TVar 1 d i) ≡ TKVar (p i)) →
      kty r (over (shifted TVar 1) d t) ≡ kty p t
  shift_kty TInt r p d f = refl
  shift_kty (TVar i) r p d f = f i
  shift_kty (TArrow a b) r p d f = ap₂ arrow (shift_kty a r p d f) (shift_kty b r p d f)
  shift_kty (TAll t) r p d f = ap for_all (shift_kty t (under 1 r) (under 1 p) (d + 1) (under_one r p d f))
  shift_kty (TTuple ts) r p d f = ap TKTuple (shift_ktys ts r p d f)
  shift_kty (TSome t) r p d f = ap TKExists (shift_kty t (under 1 r) (under 1 p) (d + 1) (under_one r p d f))
  shift_kty (TRef t) r p d f = ap TKRef (shift_kty t r p d f)

  shift_ktys : (ts : Tys) (r p : ℕ → ℕ) (d : ℕ) → ((i : ℕ) → kty r (shifted TVar 1 d i) ≡ TKVar (p i)) →
      all_kty r (over_all (shifted TVar 1) d ts) ≡ all_kty p ts
  shift_ktys NoTys r p d f = refl
  shift_ktys (MoreTys t ts) r p d f = ap₂ MoreKTys (shift_kty t r p d f) (shift_ktys ts r p d f)

-- one more type name in the source
pub kty_raised : (t : Ty) (r p : ℕ → ℕ) → ((i : ℕ) → r (suc i) ≡ p i) → kty r (shift 1 0 t) ≡ kty p t
kty_raised t r p f =
    shift_kty t r p 0
    (λ i. let more : i + 1 ≡ suc i = omega arith in ap (kty r) (shifted_ge TVar 1 0 i (omega arith) ∙ ap TVar more)
    ∙ ap TKVar (f i))

-- every renaming
under_all : (q r p : ℕ → ℕ) → ((i : ℕ) → q (r i) ≡ p i) → (i : ℕ) → under 1 q (under 1 r i) ≡ under 1 p i
under_all q r p f zero = refl
under_all q r p f (suc i) = ap suc (f i)

mutual
  ren_all : (t : Ty) (q r p : ℕ → ℕ) → ((i : ℕ) → q (r i) ≡ p i) → kren q (kty r t) ≡ kty p t
  ren_all TInt q r p f = refl
  ren_all (TVar a) q r p f = ap TKVar (f a)
  ren_all (TArrow x y) q r p f = ap₂ arrow (ren_all x (under 0 q) r p f) (ren_all y (under 0 (under 0 q)) r p f)
  ren_all (TAll t) q r p f = ap for_all (ren_all t (under 0 (under 1 q)) (under 1 r) (under 1 p) (under_all q r p f))
  ren_all (TTuple ts) q r p f = ap TKTuple (rens_all ts q r p f)
  ren_all (TSome t) q r p f = ap TKExists (ren_all t (under 1 q) (under 1 r) (under 1 p) (under_all q r p f))
  ren_all (TRef t) q r p f = ap TKRef (ren_all t q r p f)

  rens_all : (ts : Tys) (q r p : ℕ → ℕ) → ((i : ℕ) → q (r i) ≡ p i) → krens q (all_kty r ts) ≡ all_kty p ts
  rens_all NoTys q r p f = refl
  rens_all (MoreTys t ts) q r p f = ap₂ MoreKTys (ren_all t q r p f) (rens_all ts q r p f)

-- a walk that puts is a substitution
putted_suc : (s : Ty) (d i : ℕ) → putted TVar over 0 s (d + 1) (suc i) ≡ shift 1 0 (putted TVar over 0 s d i)
putted_suc s d i = here (cases_order i d)
  where
    up : (j : ℕ) → shift 1 0 (TVar j) ≡ TVar (suc j)
    up j = let more : j + 1 ≡ suc j = omega arith in shifted_ge TVar 1 0 j (omega arith) ∙ ap TVar more

    here : (i ≡ d) ⊎ ((i < d) ⊎ (d < i)) → putted TVar over 0 s (d + 1) (suc i) ≡ shift 1 0 (putted TVar over 0 s d i)
    here (inl e) =
        let sum : d - 0 + 1 ≡ d + 1 - 0 = omega arith in
        putted_eq TVar over 0 s (d + 1) (suc i) (omega (arith, e)) ∙ ap (λ n. shift n 0 s) (sym sum)
        ∙ sym (shift_add_law types_part types_over (d - 0) 1 0 s) ∙ ap (shift 1 0) (sym (putted_eq TVar over 0 s d i e))
    here (inr (inl l)) =
        putted_lt TVar over 0 s (d + 1) (suc i) (omega (arith, l)) ∙ sym (up i)
        ∙ ap (shift 1 0) (sym (putted_lt TVar over 0 s d i l))
    here (inr (inr l)) =
        let less : suc i - 1 ≡ suc (i - 1) = omega (arith, l) in
        putted_gt TVar over 0 s (d + 1) (suc i) (omega (arith, l)) ∙ ap TVar less ∙ sym (up (i - 1))
        ∙ ap (shift 1 0) (sym (putted_gt TVar over 0 s d i l))

put_up : (s : Ty) (z : ℕ → KTy) (r p : ℕ → ℕ) (d : ℕ) → ((i : ℕ) → z (r i) ≡ kty p (putted TVar over 0 s d i)) →
    (i : ℕ) → kup 1 z (under 1 r i) ≡ kty (under 1 p) (putted TVar over 0 s (d + 1) i)
put_up s z r p d f zero = ap (kty (under 1 p)) (sym (putted_lt TVar over 0 s (d + 1) 0 (omega arith)))
put_up s z r p d f (suc i) =
    let u = putted TVar over 0 s d i in
    ap (kren suc) (f i) ∙ ren_all u suc p (λ j. suc (p j)) (λ j. refl)
    ∙ sym (ap (kty (under 1 p)) (putted_suc s d i) ∙ kty_raised u (under 1 p) (λ j. suc (p j)) (λ j. refl))

mutual
  put_kty : (t s : Ty) (z : ℕ → KTy) (r p : ℕ → ℕ) (d : ℕ) → ((i : ℕ) → z (r i) ≡ kty p (putted TVar over 0 s d i)) →
      ksub z (kty r t) ≡ kty p (over (putted TVar over 0 s) d t)
  put_kty TInt s z r p d f = refl
  put_kty (TVar i) s z r p d f = f i
  put_kty (TArrow a b) s z r p d f = ap₂ arrow (put_kty a s (kup 0 z) r p d f) (put_kty b s (kup 0 (kup 0 z)) r p d f)
  put_kty (TAll t) s z r p d f =
      ap for_all (put_kty t s (kup 0 (kup 1 z)) (under 1 r) (under 1 p) (d + 1) (put_up s z r p d f))
  put_kty (TTuple ts) s z r p d f = ap TKTuple (put_ktys ts s z r p d f)
  put_kty (TSome t) s z r p d f = ap TKExists (put_kty t s (kup 1 z) (under 1 r) (under 1 p) (d + 1)
      (put_up s z r p d f))
  put_kty (TRef t) s z r p d f = ap TKRef (put_kty t s z r p d f)

  put_ktys : (ts : Tys) (s : Ty) (z : ℕ → KTy) (r p : ℕ → ℕ) (d : ℕ) →
      ((i : ℕ) → z (r i) ≡ kty p (putted TVar over 0 s d i)) →
      ksubs z (all_kty r ts) ≡ all_kty p (over_all (putted TVar over 0 s) d ts)
  put_ktys NoTys s z r p d f = refl
  put_ktys (MoreTys t ts) s z r p d f = ap₂ MoreKTys (put_kty t s z r p d f) (put_ktys ts s z r p d f)

put_first : (s : Ty) (p : ℕ → ℕ) (i : ℕ) → kscons (kty p s) TKVar (under 1 p i) ≡ kty p (putted TVar over 0 s 0 i)
put_first s p zero = ap (kty p) (sym (putted_eq TVar over 0 s 0 0 refl ∙ shift_none s))
put_first s p (suc i) =
    let e : i ≡ suc i - 1 = omega arith in
    ap (λ j. TKVar (p j)) e ∙ ap (kty p) (sym (putted_gt TVar over 0 s 0 (suc i) (omega arith)))

-- a type put for the first name
pub put_in : (s b : Ty) (p : ℕ → ℕ) → ksub (kscons (kty p s) TKVar) (kty (under 1 p) b) ≡ kty p (put 0 s b)
put_in s b p = put_kty b s (kscons (kty p s) TKVar) (under 1 p) p 0 (put_first s p)

-- the type of a body at a type
pub put_code : (s b : Ty) (p : ℕ → ℕ) →
    ksubs (knames (MoreKTys (kty p s) NoKTys) TKVar) (MoreKTys (taking (kty (under 1 p) b)) NoKTys)
    ≡ MoreKTys (taking (kty p (put 0 s b))) NoKTys
put_code s b p =
    ap (λ t. MoreKTys (taking t) NoKTys) (put_kty b s (kup 0 (kscons (kty p s) TKVar)) (under 1 p) p 0 (put_first s p))

pub scope_none : (g : List KTy) → krens_scope (lift 0) g ≡ g
scope_none [] = refl
scope_none (t ∷ g) = ap₂ (λ x y. x ∷ y) (ren_none t) (scope_none g)

-- fields
field_at : (ts : Tys) (r : ℕ → ℕ) (i : ℕ) (t : Ty) → ty_at ts i ≡ Some t → KField (suc i) (all_kty r ts) (kty r t)
field_at NoTys r i t e = absurd (none_is t e)
field_at (MoreTys u ts) r zero t e = ap (kty r) (sym (some_is e))
field_at (MoreTys u ts) r (suc i) t e = field_at ts r i t e

pub field_ktys : (ts : Tys) (r : ℕ → ℕ) (i : ℕ) (t : Ty) → field_ty ts i ≡ Some t → KField i (all_kty r ts) (kty r t)
field_ktys ts r zero t h = absurd (none_is t h)
field_ktys ts r (suc i) t h = field_at ts r i t h

-- scope
under_in : (n d : ℕ) (r : ℕ → ℕ) → ((i : ℕ) → i < n → r i < d) → (i : ℕ) → i < n + 1 → under 1 r i < suc d
under_in n d r f zero h = omega arith
under_in n d r f (suc i) h = let q = f i (omega (arith, h)) in omega (arith, q)

mutual
  kty_in : (t : Ty) (n d : ℕ) (r : ℕ → ℕ) → ((i : ℕ) → i < n → r i < d) → Below n t → KIn d (kty r t)
  kty_in TInt n d r f h = tt
  kty_in (TVar a) n d r f h = f a h
  kty_in (TArrow x y) n d r f h = (kty_in x n d r f h.0, ((kty_in y n d r f h.1, tt), tt))
  kty_in (TAll t) n d r f h = ((kty_in t (n + 1) (suc d) (under 1 r) (under_in n d r f) h.1, tt), tt)
  kty_in (TTuple ts) n d r f h = ktys_in ts n d r f h
  kty_in (TSome t) n d r f h = kty_in t (n + 1) (suc d) (under 1 r) (under_in n d r f) h.1
  kty_in (TRef t) n d r f h = kty_in t n d r f h

  ktys_in : (ts : Tys) (n d : ℕ) (r : ℕ → ℕ) → ((i : ℕ) → i < n → r i < d) → Belows n ts → KIns d (all_kty r ts)
  ktys_in NoTys n d r f h = tt
  ktys_in (MoreTys t ts) n d r f h = (kty_in t n d r f h.0, ktys_in ts n d r f h.1)

-- the levels of n type names, at a place with td of them
abbrev pub LevelsIn : ℕ → List ℕ → ℕ → Type 0
LevelsIn n tl td = (i : ℕ) → i < n → type_level tl i < td

pub levels_later : (n : ℕ) (tl : List ℕ) (td d : ℕ) → td ≤ d → LevelsIn n tl td → LevelsIn n tl d
levels_later n tl td d le f i h = let q = f i h in omega (arith, q, le)

pub levels_more : (n : ℕ) (tl : List ℕ) (td : ℕ) → LevelsIn n tl td → LevelsIn (n + 1) (td ∷ tl) (suc td)
levels_more n tl td f zero h = omega arith
levels_more n tl td f (suc i) h = let q = f i (omega (arith, h)) in omega (arith, q)

pub lift_lift : (j k i : ℕ) → lift j (lift k i) ≡ lift (lift j k) i
lift_lift zero k i = refl
lift_lift (suc j) k i = ap suc (lift_lift j k i)

-- k more type names around
pub deeper : (t : Ty) (n : ℕ) (tl : List ℕ) (td k : ℕ) → LevelsIn n tl td → Below n t →
    kren (lift k) (kat td tl t) ≡ kat (lift k td) tl t
deeper t n tl td k f b =
    ren_kty t n (lift k) (spot td tl) (spot (lift k td) tl)
    (λ i h. (let q = f i h in let x = lift_plus k (td - suc (type_level tl i)) in let y = lift_plus k td in
    omega (arith, q, x, y))) b

pub kat_in : (t : Ty) (n : ℕ) (tl : List ℕ) (td : ℕ) → LevelsIn n tl td → Below n t → KIn td (kat td tl t)
kat_in t n tl td f b = kty_in t n td (spot td tl) (λ i h. let q = f i h in omega (arith, q)) b

-- under a type's own name, and under the name that an unpack or a code gives
pub opened : (t : Ty) (n : ℕ) (tl : List ℕ) (td : ℕ) → LevelsIn n tl td → Below (n + 1) t →
    kty (under 1 (spot td tl)) t ≡ kat (suc td) (td ∷ tl) t
opened t n tl td f b = same_kty t (n + 1) (under 1 (spot td tl)) (spot (suc td) (td ∷ tl)) same b
  where
    same : (i : ℕ) → i < n + 1 → under 1 (spot td tl) i ≡ spot (suc td) (td ∷ tl) i
    same zero h = omega arith
    same (suc i) h = let q = f i (omega (arith, h)) in omega (arith, q)

pub raised_at : (t : Ty) (l d : ℕ) (tl : List ℕ) → kat d (l ∷ tl) (shift 1 0 t) ≡ kat d tl t
raised_at t l d tl = kty_raised t (spot d (l ∷ tl)) (spot d tl) (λ i. refl)
