-- The types of the names of a translation, among ever more names; what stands for a source variable has its type.
use Rattle.f_terms.specs.Typing.{raised, ty_at, HasType}
use Rattle.std.proofs.Common.{◌≡◌, ℕ, zero, suc, ◌+◌, ◌<◌, ◌≤◌, ◌⊎◌, inl, inr, List, [], ◌∷◌, Some, refl, sym, ap, ◌∙◌}
use Rattle.std.proofs.Common.{subst, arith}
use Rattle.calc_core.specs.Ends.{lift}
use Rattle.k_terms.specs.K.{KTy, TKInt, KTm, kren, krens_scope}
use Rattle.k_terms.specs.Typing.{KAt}
use Rattle.calc_core.proofs.Substituting.{ren_ren, ren_none}
use Rattle.f_terms.specs.Ty.{Ty, Tys, NoTys, MoreTys, shift}
use Rattle.f_terms.specs.Tm.{Term, MVar, MNum, MFix, MApp, MGen, MInst, MTuple, MProj, MArith, MIf0, MLet, MPack}
use Rattle.f_terms.specs.Tm.{MOpen, MRef, MDeref, MAssign}
use Rattle.k_laws.proofs.Below.{Belows}
use Rattle.f_terms.specs.Keeps.{Keeps, TypeHas}
use Rattle.k_laws.specs.Cps.{taking, kat, Atom, Level, Literal}
use Rattle.k_laws.specs.Translates.{AnyRest, atom_of, cps, scope}
use Rattle.k_laws.proofs.KTypes.{LevelsIn, lift_lift, deeper, raised_at}
use Rattle.f_terms.specs.OneType.{some_is}
use Rattle.calc_core.proofs.Lifts.{lift_le}

abbrev pub glength : List KTy → ℕ
glength [] = 0
glength (t ∷ g) = suc (glength g)

-- the name of this level has that type
abbrev pub HasT : List KTy → ℕ → KTy → Type 0
HasT [] l t = ⊥
HasT (u ∷ us) l t = ((l ≡ glength us) × (u ≡ t)) ⊎ HasT us l t

hast_below : (k : List KTy) (l : ℕ) (w : KTy) → HasT k l w → l < glength k
hast_below [] l w h = elim h [ ]
hast_below (v ∷ vs) l w (inl h) = omega (arith, h.0)
hast_below (v ∷ vs) l w (inr h) = omega (arith, hast_below vs l w h)

pub hast_at : (k : List KTy) (l i : ℕ) (w : KTy) → HasT k l w → i + suc l ≡ glength k → KAt k i w
hast_at [] l i w h e = elim h [ ]
hast_at (v ∷ vs) l zero w (inl h) e = sym h.1
hast_at (v ∷ vs) l (suc i) w (inl h) e = absurd (omega (arith, h.0, e))
hast_at (v ∷ vs) l zero w (inr h) e = absurd (omega (arith, hast_below vs l w h, e))
hast_at (v ∷ vs) l (suc i) w (inr h) e = hast_at vs l i w h (omega (arith, e))

pub length_ren : (g : List KTy) (r : ℕ → ℕ) → glength (krens_scope r g) ≡ glength g
length_ren [] r = refl
length_ren (t ∷ g) r = ap suc (length_ren g r)

hast_ren : (g : List KTy) (l : ℕ) (t : KTy) (r : ℕ → ℕ) → HasT g l t → HasT (krens_scope r g) l (kren r t)
hast_ren [] l t r h = h
hast_ren (u ∷ us) l t r (inl h) = inl (h.0 ∙ sym (length_ren us r), ap (kren r) h.1)
hast_ren (u ∷ us) l t r (inr h) = inr (hast_ren us l t r h)

-- more names: k of types, and of values
pub record ExtT (d : ℕ) (big : List KTy) (td : ℕ) (small : List KTy) : Type 0 where
  pub k : ℕ
  pub is : d ≡ lift k td
  pub keeps : (l : ℕ) (t : KTy) → HasT small l t → HasT big l (kren (lift k) t)

pub ext_same : (d : ℕ) (g : List KTy) → ExtT d g d g
ext_same d g = record { k = 0; is = refl; keeps = λ l t h. subst (HasT g l) (sym (ren_none t)) h }

pub ext_more : (w : KTy) (d : ℕ) (big : List KTy) (td : ℕ) (small : List KTy) → ExtT d big td small →
    ExtT d (w ∷ big) td small
ext_more w d big td small e = record { k = e.k; is = e.is; keeps = λ l t h. inr (e.keeps l t h) }

pub ext_type : (d : ℕ) (big : List KTy) (td : ℕ) (small : List KTy) → ExtT d big td small →
    ExtT (suc d) (krens_scope suc big) td small
ext_type d big td small e = record {
  k = suc e.k;
  is = ap suc e.is;
  keeps = λ l t h. subst (HasT (krens_scope suc big) l) (ren_ren t suc (lift e.k) (lift (suc e.k)) (λ i. refl))
      (hast_ren big l (kren (lift e.k) t) suc (e.keeps l t h));
}

pub ext_trans : (d3 : ℕ) (g3 : List KTy) (d2 : ℕ) (g2 : List KTy) (d1 : ℕ) (g1 : List KTy) → ExtT d3 g3 d2 g2 →
    ExtT d2 g2 d1 g1 → ExtT d3 g3 d1 g1
ext_trans d3 g3 d2 g2 d1 g1 e f = record {
  k = lift e.k f.k;
  is = e.is ∙ ap (lift e.k) f.is ∙ lift_lift e.k f.k d1;
  keeps = λ l t h. subst (HasT g3 l) (ren_ren t (lift e.k) (lift f.k) (lift (lift e.k f.k)) (λ i. lift_lift e.k f.k i))
      (e.keeps l (kren (lift f.k) t) (f.keeps l t h));
}

pub ext_le : (d : ℕ) (big : List KTy) (td : ℕ) (small : List KTy) → ExtT d big td small → td ≤ d
ext_le d big td small e = let r = lift_le e.k td in omega (arith, r, e.is)

abbrev pub typ : List ℕ → Ty → ℕ → KTy
typ tl t d = kat d tl t

abbrev pub cont : (ℕ → KTy) → ℕ → KTy
cont t d = taking (t d)

-- what stands for a source variable has this type
abbrev pub TypedAtom : ℕ → Atom → List KTy → (ℕ → KTy) → Type 0
TypedAtom td (Level l) g t = HasT g l (t td)
TypedAtom td (Literal n) g t = t td ≡ TKInt

pub atom_same : (a : Atom) (td : ℕ) (g : List KTy) (t u : ℕ → KTy) → t td ≡ u td → TypedAtom td a g t →
    TypedAtom td a g u
atom_same (Level l) td g t u e h = subst (HasT g l) e h
atom_same (Literal n) td g t u e h = sym e ∙ h

-- the source variables
abbrev pub TEnv : Tys → List ℕ → ℕ → List Atom → List KTy → Type 0
TEnv NoTys tl td [] g = Unit {0}
TEnv NoTys tl td (a ∷ names) g = ⊥
TEnv (MoreTys t ts) tl td [] g = ⊥
TEnv (MoreTys t ts) tl td (a ∷ names) g = TypedAtom td a g (typ tl t) × TEnv ts tl td names g

-- under one more source type name
pub tenv_raised : (ts : Tys) (tl : List ℕ) (l td : ℕ) (names : List Atom) (g : List KTy) → TEnv ts tl td names g →
    TEnv (raised ts) (l ∷ tl) td names g
tenv_raised NoTys tl l td [] g r = tt
tenv_raised NoTys tl l td (a ∷ names) g r = r
tenv_raised (MoreTys t ts) tl l td [] g r = r
tenv_raised (MoreTys t ts) tl l td (a ∷ names) g r = (
  atom_same a td g (typ tl t) (typ (l ∷ tl) (shift 1 0 t)) (sym (raised_at t l td tl)) r.0,
  tenv_raised ts tl l td names g r.1,
)

pub typed_var : (ts : Tys) (tl : List ℕ) (td : ℕ) (names : List Atom) (g : List KTy) (i : ℕ) (a : Atom) (t : Ty) →
    TEnv ts tl td names g → atom_of names i a → ty_at ts i ≡ Some t → TypedAtom td a g (typ tl t)
typed_var NoTys tl td [] g i a t r h e = elim h [ ]
typed_var NoTys tl td (k ∷ names) g i a t r h e = elim r [ ]
typed_var (MoreTys v vs) tl td [] g i a t r h e = elim r [ ]
typed_var (MoreTys v vs) tl td (k ∷ names) g zero a t r h e =
    subst (λ a. TypedAtom td a g (typ tl t)) h (subst (λ t. TypedAtom td k g (typ tl t)) (some_is e) r.0)
typed_var (MoreTys v vs) tl td (k ∷ names) g (suc i) a t r h e = typed_var vs tl td names g i a t r.1 h e

pub head_keeps : (S : Ty → Type 0) (e : Term) (n : ℕ) (g : Tys) → Keeps S e n g → TypeHas S e n g
head_keeps S (MVar i) n g h = h
head_keeps S (MNum i) n g h = h
head_keeps S (MFix arg res e) n g h = h.0
head_keeps S (MApp f x) n g h = h.0
head_keeps S (MGen e) n g h = h.0
head_keeps S (MInst e t) n g h = h.0
head_keeps S (MTuple es) n g h = h.0
head_keeps S (MProj i e) n g h = h.0
head_keeps S (MArith op a b) n g h = h.0
head_keeps S (MIf0 c a b) n g h = h.0
head_keeps S (MLet a b) n g h = h.0
head_keeps S (MPack hid e s) n g h = h.0
head_keeps S (MOpen a b) n g h = h.0
head_keeps S (MRef e) n g h = h.0
head_keeps S (MDeref e) n g h = h.0
head_keeps S (MAssign a b) n g h = h.0

pub head_typed : (e : Term) (n : ℕ) (tl : List ℕ) (g : Tys) (t : Ty) (td depth : ℕ) (names : List Atom) (k : AnyRest)
    (m : KTm) → cps e (scope n tl g names) t td depth k m → HasType e n g t
head_typed (MVar i) n tl g t td depth names k m h = h.0
head_typed (MNum i) n tl g t td depth names k m h = h.0
head_typed (MFix arg res e) n tl g t td depth names k m h = h.0
head_typed (MApp f x) n tl g t td depth names k m h = h.0
head_typed (MGen e) n tl g t td depth names k m h = h.0
head_typed (MInst e s) n tl g t td depth names k m h = h.0
head_typed (MTuple es) n tl g t td depth names k m h = h.0
head_typed (MProj i e) n tl g t td depth names k m h = h.0
head_typed (MArith op a b) n tl g t td depth names k m h = h.0
head_typed (MIf0 c a b) n tl g t td depth names k m h = h.0
head_typed (MLet a b) n tl g t td depth names k m h = h.0
head_typed (MPack hid e s) n tl g t td depth names k m h = h.0
head_typed (MOpen a b) n tl g t td depth names k m h = h.0
head_typed (MRef e) n tl g t td depth names k m h = h.0
head_typed (MDeref e) n tl g t td depth names k m h = h.0
head_typed (MAssign a b) n tl g t td depth names k m h = h.0

pub tenv_more : (ts : Tys) (n : ℕ) (tl : List ℕ) (names : List Atom) (d : ℕ) (big : List KTy) (td : ℕ)
    (small : List KTy) → LevelsIn n tl td → Belows n ts → ExtT d big td small → TEnv ts tl td names small →
    TEnv ts tl d names big
tenv_more NoTys n tl [] d big td small f b e r = tt
tenv_more NoTys n tl (a ∷ names) d big td small f b e r = r
tenv_more (MoreTys t ts) n tl [] d big td small f b e r = r
tenv_more (MoreTys t ts) n tl (a ∷ names) d big td small f b e r =
    (atom_steady a (λ k. deeper t n tl td k f b.0) r.0, tenv_more ts n tl names d big td small f b.1 e r.1)
  where
    atom_steady : (a : Atom) → ((k : ℕ) → kren (lift k) (kat td tl t) ≡ kat (lift k td) tl t) →
        TypedAtom td a small (typ tl t) → TypedAtom d a big (typ tl t)
    atom_steady (Level l) s h = subst (HasT big l) (s e.k ∙ ap (typ tl t) (sym e.is)) (e.keeps l (kat td tl t) h)
    atom_steady (Literal i) s h = ap (typ tl t) e.is ∙ sym (s e.k) ∙ ap (kren (lift e.k)) h
