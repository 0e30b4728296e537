-- What is known of names by their levels, as the scope grows.
use Rattle.std.proofs.Common.{◌≡◌, ◌<◌, ℕ, zero, suc, ◌-◌, List, [], ◌∷◌, Some, None, refl, sym, ap, ◌∙◌, subst, arith}
use Rattle.f_terms.specs.Ty.{Ty, Tys, NoTys, MoreTys, shift}
use Rattle.f_terms.specs.Typing.{ty_at, raised}
use Rattle.calc_core.specs.Ends.{lift}
use Rattle.k_terms.specs.K.{KTy, TKInt, TKCode, NoKTys, MoreKTys, kren, krens_scope, kbody_scope}
use Rattle.k_terms.specs.Types.{ktype_at, kv_type}
use Rattle.k_terms.specs.Stream.{KNd, NVar, klin_v}
use Rattle.calc_core.proofs.Substituting.{ren_ren, ren_none}
use Rattle.calc_core.proofs.Levels.{level_below}
use Rattle.k_laws.specs.Cps.{Atom, Level, Literal, value, atom_at, kat}
use Rattle.k_pass.specs.Emit.{atom_node}
use Rattle.k_laws.proofs.Below.{Belows}
use Rattle.k_laws.proofs.KTypes.{raised_at, lift_lift, LevelsIn, deeper}
use Rattle.k_pass.proofs.Scopes.{at_krens}

-- the name of level l has the type t
abbrev pub Known : ℕ → List KTy → ℕ → KTy → Type 0
Known d g l t = (l < d) × (ktype_at g (d - suc l) ≡ t)

known_more : (d : ℕ) (g : List KTy) (u : KTy) (l : ℕ) (t : KTy) → Known d g l t → Known (suc d) (u ∷ g) l t
known_more d g u l t k = (
  omega (arith, k.0),
  ap (ktype_at (u ∷ g)) (let e : suc d - suc l ≡ suc (d - suc l) = omega (arith, k.0) in e)
      ∙ k.1,
)

known_ren : (r : ℕ → ℕ) (d : ℕ) (g : List KTy) (l : ℕ) (t : KTy) → Known d g l t →
    Known d (krens_scope r g) l (kren r t)
known_ren r d g l t k = (k.0, at_krens r g (d - suc l) ∙ ap (kren r) k.1)

pub newest : (d : ℕ) (g : List KTy) (u : KTy) → Known (suc d) (u ∷ g) d u
newest d g u = (omega arith, ap (ktype_at (u ∷ g)) (let e : suc d - suc d ≡ 0 = omega arith in e))

-- more names: k of types, and of values
pub record Grows (tv d : ℕ) (g : List KTy) (tw e : ℕ) (h : List KTy) : Type 0 where
  pub k : ℕ
  pub is : tw ≡ lift k tv
  pub keeps : (l : ℕ) (t : KTy) → Known d g l t → Known e h l (kren (lift k) t)

pub grows_same : (tv d : ℕ) (g : List KTy) → Grows tv d g tv d g
grows_same tv d g = record { k = 0; is = refl; keeps = λ l t k. subst (Known d g l) (sym (ren_none t)) k }

pub grows_more : (tv d : ℕ) (g : List KTy) (tw e : ℕ) (h : List KTy) (tx f : ℕ) (i : List KTy) → Grows tv d g tw e h →
    Grows tw e h tx f i → Grows tv d g tx f i
grows_more tv d g tw e h tx f i p q = record {
  k = lift q.k p.k;
  is = q.is ∙ ap (lift q.k) p.is ∙ lift_lift q.k p.k tv;
  keeps = λ l t k.
      subst (Known f i l) (ren_ren t (lift q.k) (lift p.k) (lift (lift q.k p.k)) (λ j. lift_lift q.k p.k j))
      (q.keeps l (kren (lift p.k) t) (p.keeps l t k));
}

-- one more name
pub one_more : (tv d : ℕ) (g : List KTy) (u : KTy) → Grows tv d g tv (suc d) (u ∷ g)
one_more tv d g u =
    record {
      k = 0;
      is = refl;
      keeps = λ l t k. subst (Known (suc d) (u ∷ g) l) (sym (ren_none t)) (known_more d g u l t k);
    }

-- the scope of a code without type variables
abbrev pub base : List KTy → KTy → List KTy
base g c = kren (lift 0) c ∷ krens_scope (lift 0) g

code_grows : (tv d : ℕ) (g : List KTy) (c : KTy) → Grows tv d g tv (suc d) (base g c)
code_grows tv d g c =
    record {
      k = 0;
      is = refl;
      keeps = λ l t k. known_more d (krens_scope (lift 0) g) (kren (lift 0) c) l (kren (lift 0) t)
          (known_ren (lift 0) d g l t k);
    }

own_name : (d : ℕ) (g : List KTy) (c : KTy) → Known (suc d) (base g c) d c
own_name d g c = let n = newest d (krens_scope (lift 0) g) (kren (lift 0) c) in (n.0, n.1 ∙ ren_none c)

pub rest_grows : (tv d : ℕ) (g : List KTy) (u : KTy) →
    Grows tv d g tv (suc (suc d)) (kbody_scope 0 (MoreKTys u NoKTys) g)
rest_grows tv d g u =
    let c = TKCode 0 (MoreKTys u NoKTys) in
    grows_more tv d g tv (suc d) (base g c) tv (suc (suc d)) (u ∷ base g c) (code_grows tv d g c)
    (one_more tv (suc d) (base g c) u)

pub fix_grows : (tv d : ℕ) (g : List KTy) (u v : KTy) →
    Grows tv d g tv (suc (suc (suc d))) (kbody_scope 0 (MoreKTys u (MoreKTys v NoKTys)) g)
fix_grows tv d g u v =
    let c = TKCode 0 (MoreKTys u (MoreKTys v NoKTys)) in
    grows_more tv d g tv (suc (suc d)) (u ∷ base g c) tv (suc (suc (suc d))) (v ∷ u ∷ base g c)
    (grows_more tv d g tv (suc d) (base g c) tv (suc (suc d)) (u ∷ base g c) (code_grows tv d g c)
    (one_more tv (suc d) (base g c) u)) (one_more tv (suc (suc d)) (u ∷ base g c) v)

pub fix_own : (d : ℕ) (g : List KTy) (u v : KTy) →
    Known (suc (suc (suc d))) (kbody_scope 0 (MoreKTys u (MoreKTys v NoKTys)) g) d
    (TKCode 0 (MoreKTys u (MoreKTys v NoKTys)))
fix_own d g u v =
    let c = TKCode 0 (MoreKTys u (MoreKTys v NoKTys)) in
    known_more (suc (suc d)) (u ∷ base g c) v d c (known_more (suc d) (base g c) u d c (own_name d g c))

pub fix_arg : (d : ℕ) (g : List KTy) (u v : KTy) →
    Known (suc (suc (suc d))) (kbody_scope 0 (MoreKTys u (MoreKTys v NoKTys)) g) (suc d) u
fix_arg d g u v =
    let c = TKCode 0 (MoreKTys u (MoreKTys v NoKTys)) in
    known_more (suc (suc d)) (u ∷ base g c) v (suc d) u (newest (suc d) (base g c) u)

-- that of a code with one type variable
pub gen_grows : (tv d : ℕ) (g : List KTy) (u : KTy) →
    Grows tv d g (suc tv) (suc (suc d)) (kbody_scope 1 (MoreKTys u NoKTys) g)
gen_grows tv d g u =
    let c = kren (lift 1) (TKCode 1 (MoreKTys u NoKTys)) in
    record {
      k = 1;
      is = refl;
      keeps = λ l t k. known_more (suc d) (c ∷ krens_scope (lift 1) g) u l (kren (lift 1) t)
          (known_more d (krens_scope (lift 1) g) c l (kren (lift 1) t) (known_ren (lift 1) d g l t k));
    }

-- the scope after an unpacking
lift_one : suc ≡ lift 1
lift_one = λ j i. suc i

pub open_grows : (tv d : ℕ) (g : List KTy) (u : KTy) → Grows tv d g (suc tv) (suc d) (u ∷ krens_scope suc g)
open_grows tv d g u = record {
  k = 1;
  is = refl;
  keeps = λ l t k. subst (λ (r : ℕ → ℕ). Known (suc d) (u ∷ krens_scope suc g) l (kren r t)) lift_one
      (known_more d (krens_scope suc g) u l (kren suc t) (known_ren suc d g l t k));
}

-- an atom with a type
abbrev pub Good : ℕ → List KTy → Atom → KTy → Type 0
Good d g (Level l) t = Known d g l t
Good d g (Literal n) t = t ≡ TKInt

-- a type at each place, and under more type variables
abbrev pub Steady : ℕ → (ℕ → KTy) → Type 0
Steady tv t = (k : ℕ) → kren (lift k) (t tv) ≡ t (lift k tv)

pub good_later : (a : Atom) (t : ℕ → KTy) (tv d : ℕ) (g : List KTy) (tw e : ℕ) (h : List KTy) → Steady tv t →
    Grows tv d g tw e h → Good d g a (t tv) → Good e h a (t tw)
good_later (Level l) t tv d g tw e h s p k = subst (Known e h l) (s p.k ∙ ap t (sym p.is)) (p.keeps l (t tv) k)
good_later (Literal n) t tv d g tw e h s p k = ap t p.is ∙ sym (s p.k) ∙ ap (kren (lift p.k)) k

pub good_same : (a : Atom) (d : ℕ) (g : List KTy) (t u : KTy) → t ≡ u → Good d g a t → Good d g a u
good_same (Level l) d g t u e k = subst (Known d g l) e k
good_same (Literal n) d g t u e k = sym e ∙ k

pub value_node : (a : Atom) (t : KTy) (d tv : ℕ) (g : List KTy) (ns : List KNd) → Good d g a t →
    atom_node a ∷ ns ≡ klin_v d tv g (value a d) ns
value_node (Level l) t d tv g ns k =
    ap (λ x. NVar x ∷ ns) (omega (arith, k.0, level_below d (d - suc l) (omega (arith, k.0))))
value_node (Literal n) t d tv g ns k = refl

pub value_type : (a : Atom) (t : KTy) (d : ℕ) (g : List KTy) → Good d g a t → kv_type g (value a d) ≡ t
value_type (Level l) t d g k = k.1
value_type (Literal n) t d g k = sym k

-- what stands for the source's names
abbrev pub Suits : List ℕ → ℕ → Tys → List Atom → ℕ → List KTy → Type 0
Suits tl tv NoTys [] d kg = Unit {0}
Suits tl tv NoTys (a ∷ names) d kg = ⊥
Suits tl tv (MoreTys t g) [] d kg = ⊥
Suits tl tv (MoreTys t g) (a ∷ names) d kg = Good d kg a (kat tv tl t) × Suits tl tv g names d kg

pub suits_later : (n : ℕ) (tl : List ℕ) (g : Tys) (names : List Atom) (tv d : ℕ) (kg : List KTy) (tw e : ℕ)
    (h : List KTy) → LevelsIn n tl tv → Belows n g → Grows tv d kg tw e h → Suits tl tv g names d kg →
    Suits tl tw g names e h
suits_later n tl NoTys [] tv d kg tw e h f b p s = tt
suits_later n tl NoTys (a ∷ names) tv d kg tw e h f b p s = s
suits_later n tl (MoreTys t g) [] tv d kg tw e h f b p s = s
suits_later n tl (MoreTys t g) (a ∷ names) tv d kg tw e h f b p s = (
  good_later a (λ x. kat x tl t) tv d kg tw e h (λ k. deeper t n tl tv k f b.0) p s.0,
  suits_later n tl g names tv d kg tw e h f b.1 p s.1,
)

pub suits_raised : (tl : List ℕ) (l : ℕ) (g : Tys) (names : List Atom) (tv d : ℕ) (kg : List KTy) →
    Suits tl tv g names d kg → Suits (l ∷ tl) tv (raised g) names d kg
suits_raised tl l NoTys [] tv d kg s = tt
suits_raised tl l NoTys (a ∷ names) tv d kg s = s
suits_raised tl l (MoreTys t g) [] tv d kg s = s
suits_raised tl l (MoreTys t g) (a ∷ names) tv d kg s = (
  good_same a d kg (kat tv tl t) (kat tv (l ∷ tl) (shift 1 0 t)) (sym (raised_at t l tv tl)) s.0,
  suits_raised tl l g names tv d kg s.1,
)

pub found : (tl : List ℕ) (tv : ℕ) (g : Tys) (names : List Atom) (d : ℕ) (kg : List KTy) (i : ℕ) (t : Ty) →
    ty_at g i ≡ Some t → Suits tl tv g names d kg → Good d kg (atom_at names i) (kat tv tl t)
found tl tv NoTys names d kg i t e h = let x : None ≡ Some t = e in cc
found tl tv (MoreTys u g) [] d kg i t e h = absurd h
found tl tv (MoreTys u g) (a ∷ names) d kg zero t e h =
    let x : Some u ≡ Some t = e in
    let y : u ≡ t = cc in good_same a d kg (kat tv tl u) (kat tv tl t) (ap (kat tv tl) y) h.0
found tl tv (MoreTys u g) (a ∷ names) d kg (suc i) t e h = found tl tv g names d kg i t e h.1

-- several atoms
abbrev pub AllGood : List ℕ → ℕ → ℕ → List KTy → List Atom → Tys → Type 0
AllGood tl tv d g [] ts = ts ≡ NoTys
AllGood tl tv d g (a ∷ xs) ts =
    (t : Ty) × (us : Tys) × (ts ≡ MoreTys t us) × Good d g a (kat tv tl t) × AllGood tl tv d g xs us
