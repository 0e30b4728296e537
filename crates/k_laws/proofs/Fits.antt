-- The conversion gives a translation.
use Rattle.std.proofs.Common.{◌≡◌, ℕ, zero, suc, ◌+◌, ◌-◌, ◌<◌, ◌≤◌, List, [], ◌∷◌, ◌++◌, Bool, true, false, Some}
use Rattle.std.proofs.Common.{None, refl, sym, ap, ◌∙◌, subst, arith, inl, inr, append_assoc, append-nil}
use Rattle.f_terms.specs.Ty.{Ty, TInt, TArrow, TAll, TTuple, TSome, TRef, Tys, NoTys, MoreTys, shift, put}
use Rattle.f_terms.specs.Typing.{ty_at, raised, in_fix, in_open, HasType, HaveTypes}
use Rattle.k_terms.specs.K.{KTy, KVal, KTuple, KCode, NoKTys, MoreKTys, KDecl, KProj, KArith, KUnpack, KCell, KGet}
use Rattle.k_terms.specs.K.{KSet, KTm, KLet, KIf}
use Rattle.f_terms.specs.Noted.{Noted, EVar, ENum, EFix, EApp, EGen, EInst, ETuple, EProj, EArith, EIf, ELet, EPack}
use Rattle.f_terms.specs.Noted.{EOpen, ERef, EDeref, EAssign, Noteds, NoNoteds, MoreNoteds, bare, bare_all}
use Rattle.k_laws.specs.Cps as f
use Rattle.k_laws.specs.Cps.{Atom, Level, Literal, Rest, value, values, atom_at, kat, packing, cps_of}
use Rattle.k_laws.specs.Annotated.{Annotated, AllAnnotated}
use Rattle.k_laws.specs.Translates.{Thing, Plain, Made, Things, NoThings, MoreThings, is_atom, stands, named, stand}
use Rattle.k_laws.specs.Translates.{tuple_of, Form, Forms, AnyRest, Bind, Pass, to_rest, deliver, as_value, atom_of}
use Rattle.k_laws.specs.Translates.{call_form, inst_form, one_form, two_form, let_form, open_form, bound_once, cps}
use Rattle.k_laws.specs.Translates.{scope}
use Rattle.k_laws.specs.Translates.{cps_all, halting, cps_program}
use Rattle.k_laws.proofs.KTypes.{raised_at}

-- an atom at a place, and what it is
abbrev Good : Atom → ℕ → Type 0
Good (Level l) d = l < d
Good (Literal n) d = Unit {0}

is_it : (a : Atom) (d : ℕ) → Good a d → is_atom a d (value a d)
is_it (Level l) d lt = (d - suc l, refl, omega (arith, lt))
is_it (Literal n) d lt = refl

later : (a : Atom) (d e : ℕ) → d ≤ e → Good a d → Good a e
later (Level l) d e le lt = omega (arith, le, lt)
later (Literal n) d e le lt = tt

abbrev typ : List ℕ → Ty → ℕ → KTy
typ tl t td = kat td tl t

-- the function's rest gives what the relation's does, at every place from depth d on
abbrev Fits : ℕ → Rest → (ℕ → KTy) → AnyRest → Type 0
Fits d (f.Bind form) t (Bind tk u any) =
    ((td : ℕ) → kat td tk u ≡ t td) × ((td e : ℕ) (a : Atom) → d ≤ e → Good a e → any td e (Plain a) (form td e a))
Fits d (f.Bind form) t (Pass l) = ⊥
Fits d (f.Pass l) t (Bind tk u any) = ⊥
Fits d (f.Pass l) t (Pass k) = (k ≡ l) × (l < d)

fits_later : (d e : ℕ) (k : Rest) (t : ℕ → KTy) (r : AnyRest) → d ≤ e → Fits d k t r → Fits e k t r
fits_later d e (f.Bind form) t (Bind tk u any) le h =
    (h.0, λ td e1 a le1 good. h.1 td e1 a (omega (arith, le, le1)) good)
fits_later d e (f.Bind form) t (Pass l) le h = h
fits_later d e (f.Pass l) t (Bind tk u any) le h = h
fits_later d e (f.Pass l) t (Pass k) le h = (h.0, omega (arith, le, h.1))

fits_same : (d : ℕ) (k : Rest) (t u : ℕ → KTy) (r : AnyRest) → ((td : ℕ) → t td ≡ u td) → Fits d k t r → Fits d k u r
fits_same d (f.Bind form) t u (Bind tk s any) e h = ((λ td. h.0 td ∙ e td), h.1)
fits_same d (f.Bind form) t u (Pass l) e h = h
fits_same d (f.Pass l) t u (Bind tk s any) e h = h
fits_same d (f.Pass l) t u (Pass k) e h = h

-- what stands for the source's names
abbrev Suits : Tys → List Atom → ℕ → Type 0
Suits NoTys [] d = Unit {0}
Suits NoTys (a ∷ names) d = ⊥
Suits (MoreTys t g) [] d = ⊥
Suits (MoreTys t g) (a ∷ names) d = Good a d × Suits g names d

suits_later : (g : Tys) (names : List Atom) (d e : ℕ) → d ≤ e → Suits g names d → Suits g names e
suits_later NoTys [] d e le h = tt
suits_later NoTys (a ∷ names) d e le h = h
suits_later (MoreTys t g) [] d e le h = h
suits_later (MoreTys t g) (a ∷ names) d e le h = (later a d e le h.0, suits_later g names d e le h.1)

suits_raised : (g : Tys) (names : List Atom) (d : ℕ) → Suits g names d → Suits (raised g) names d
suits_raised NoTys [] d h = tt
suits_raised NoTys (a ∷ names) d h = h
suits_raised (MoreTys t g) [] d h = h
suits_raised (MoreTys t g) (a ∷ names) d h = (h.0, suits_raised g names d h.1)

found : (g : Tys) (names : List Atom) (d i : ℕ) (t : Ty) → ty_at g i ≡ Some t → Suits g names d →
    atom_of names i (atom_at names i) × Good (atom_at names i) d
found NoTys names d i t e h = let x : None ≡ Some t = e in cc
found (MoreTys u g) [] d i t e h = absurd h
found (MoreTys u g) (a ∷ names) d zero t e h = (refl, h.0)
found (MoreTys u g) (a ∷ names) d (suc i) t e h = found g names d i t e h.1

-- an atom is delivered, where it stands
gives : (k : Rest) (t : ℕ → KTy) (r : AnyRest) (td d : ℕ) (a : Atom) → Fits d k t r → Good a d →
    deliver r td d (Plain a) (f.deliver k td d a)
gives (f.Bind form) t (Bind tk u any) td d a h good = inl (h.1 td d a (omega arith) good)
gives (f.Bind form) t (Pass l) td d a h good = absurd h
gives (f.Pass l) t (Bind tk u any) td d a h good = absurd h
gives (f.Pass l) t (Pass k) td d a h good =
    inl (
      value (Level l) d,
      value a d,
      subst (λ j. is_atom (Level j) d (value (Level l) d)) (sym h.0) (is_it (Level l) d h.1),
      is_it a d good,
      refl,
    )

-- what was declared is delivered
declared : (k : Rest) (t : ℕ → KTy) (r : AnyRest) (td d e : ℕ) → d ≤ e → Fits d k t r →
    deliver r td (suc e) (named e) (f.deliver k td (suc e) (Level e))
declared k t r td d e le h =
    gives k t r td (suc e) (Level e) (fits_later d (suc e) k t r (omega (arith, le)) h) (omega arith)

-- a value is named
names_it : (k : Rest) (t : ℕ → KTy) (r : AnyRest) (td d : ℕ) (v : KVal) (x : Thing) → Fits d k t r → stands x td d v →
    deliver r td d x (f.name v k td d)
names_it k t r td d v x h is =
    inr (v, f.deliver k td (suc d) (Level d), is, refl, given k t r (fits_later d (suc d) k t r (omega arith) h))
  where
    given : (k : Rest) (t : ℕ → KTy) (r : AnyRest) → Fits (suc d) k t r →
        to_rest r td (suc d) (named d) (f.deliver k td (suc d) (Level d))
    given (f.Bind form) t (Bind tk u any) h = h.1 td (suc d) (Level d) (omega arith) (omega arith)
    given (f.Bind form) t (Pass l) h = absurd h
    given (f.Pass l) t (Bind tk u any) h = absurd h
    given (f.Pass l) t (Pass k) h = (
      value (Level l) (suc d),
      value (Level d) (suc d),
      subst (λ j. is_atom (Level j) (suc d) (value (Level l) (suc d))) (sym h.0) (is_it (Level l) (suc d) h.1),
      is_it (Level d) (suc d) (omega arith),
      refl,
    )

-- k as a value
as_it : (k : Rest) (t : ℕ → KTy) (r : AnyRest) (td d : ℕ) → Fits d k t r →
    stands (as_value r) td d (f.as_value (t td) k td d)
as_it (f.Bind form) t (Bind tk u any) td d h = (
  form td (suc (suc d)) (Level (suc d)),
  ap (λ (w : KTy). KCode 0 (MoreKTys w NoKTys) (form td (suc (suc d)) (Level (suc d)))) (sym (h.0 td)),
  h.1 td (suc (suc d)) (Level (suc d)) (omega arith) (omega arith),
)
as_it (f.Bind form) t (Pass l) td d h = absurd h
as_it (f.Pass l) t (Bind tk u any) td d h = absurd h
as_it (f.Pass l) t (Pass k) td d h =
    subst (λ j. is_atom (Level j) d (value (Level l) d)) (sym h.0) (is_it (Level l) d h.1)

-- several atoms
abbrev AllGood : List Atom → ℕ → Type 0
AllGood [] d = Unit {0}
AllGood (a ∷ xs) d = Good a d × AllGood xs d

abbrev things : List Atom → Things
things [] = NoThings
things (a ∷ xs) = MoreThings (Plain a) (things xs)

stand_all : (xs : List Atom) (td d : ℕ) → AllGood xs d → stand (things xs) td d (values xs d)
stand_all [] td d h = refl
stand_all (a ∷ xs) td d h = (value a d, values xs d, refl, is_it a d h.0, stand_all xs td d h.1)

abbrev FitsAll : ℕ → Forms → List Atom → (ℕ → ℕ → List Atom → KTm) → Type 0
FitsAll d F done make = (td e : ℕ) (xs : List Atom) → d ≤ e → AllGood xs e → F td e (things xs) (make td e (done ++ xs))

-- a rest isn't in tail place
abbrev InTail : Bool → Rest → Type 0
InTail tail (f.Bind form) = tail ≡ false
InTail tail (f.Pass l) = Unit {0}

-- what is to be shown of a term
abbrev MeetsAt : Bool → Noted → Type 1
MeetsAt tail e = (n : ℕ) (tl : List ℕ) (g : Tys) (t : Ty) (td d : ℕ) (names : List Atom) (k : Rest) (r : AnyRest) →
    InTail tail k → Annotated tail e n g t → Suits g names d → Fits d k (typ tl t) r →
    cps (bare e) (scope n tl g names) t td d r (f.cps e td d tl names k)

-- the test and both branches, for the name of a level
abbrev choice_form : Noted → Noted → ℕ → List ℕ → Tys → Ty → List Atom → ℕ → Form
choice_form a b n tl g t names l ta d2 cv m2 = (c' : KVal) × (ma mb : KTm) × stands cv ta d2 c' × (m2 ≡ KIf c' ma mb)
    × cps (bare a) (scope n tl g names) t ta d2 (Pass l) ma × cps (bare b) (scope n tl g names) t ta d2 (Pass l) mb

abbrev choice : Noted → Noted → List ℕ → List Atom → ℕ → Rest
choice a b tl names l =
    f.Bind (λ td2 d2 ca. KIf (value ca d2) (f.cps a td2 d2 tl names (f.Pass l)) (f.cps b td2 d2 tl names (f.Pass l)))

chooses : (c a b : Noted) → MeetsAt false c → MeetsAt true a → MeetsAt true b →
    (n : ℕ) (tl : List ℕ) (g : Tys) (t : Ty) (td d : ℕ) (names : List Atom) (l : ℕ) →
    Annotated false c n g TInt → Annotated true a n g t → Annotated true b n g t → Suits g names d → l < d →
    cps (bare c) (scope n tl g names) TInt td d (Bind tl TInt (choice_form a b n tl g t names l))
    (f.cps c td d tl names (choice a b tl names l))
chooses c a b mc ma mb n tl g t td d names l hc ha hb suits lt =
    mc n tl g TInt td d names (choice a b tl names l) (Bind tl TInt (choice_form a b n tl g t names l)) refl hc suits (
      (λ ta. refl),
      λ ta e x le good. (
        value x e,
        f.cps a ta e tl names (f.Pass l),
        f.cps b ta e tl names (f.Pass l),
        is_it x e good,
        refl,
        ma n tl g t ta e names (f.Pass l) (Pass l) tt ha (suits_later g names d e le suits)
            (refl, omega (arith, le, lt)),
        mb n tl g t ta e names (f.Pass l) (Pass l) tt hb (suits_later g names d e le suits)
            (refl, omega (arith, le, lt)),
      ),
    )

abbrev BoundAt : Noted → Noted → Noted → ℕ → List ℕ → Tys → Ty → ℕ → ℕ → List Atom → AnyRest → KTm → Type 0
BoundAt c a b n tl g t td d names r m =
    bound_once r td d
    (λ d1 l m1. cps (bare c) (scope n tl g names) TInt td d1 (Bind tl TInt (choice_form a b n tl g t names l)) m1) m

bounds : (c a b : Noted) → MeetsAt false c → MeetsAt true a → MeetsAt true b →
    (n : ℕ) (tl : List ℕ) (g : Tys) (t : Ty) (td d : ℕ) (names : List Atom) (k : Rest) (r : AnyRest) →
    Annotated false c n g TInt → Annotated true a n g t → Annotated true b n g t → Suits g names d →
    Fits d k (typ tl t) r →
    BoundAt c a b n tl g t td d names r
    (f.bound_once (kat td tl t) k td d (λ d1 l. f.cps c td d1 tl names (choice a b tl names l)))
bounds c a b mc ma mb n tl g t td d names (f.Bind form) (Bind tk u any) hc ha hb suits fits = (
  f.as_value (kat td tl t) (f.Bind form) td d,
  f.cps c td (suc d) tl names (choice a b tl names d),
  as_it (f.Bind form) (typ tl t) (Bind tk u any) td d fits,
  refl,
  chooses c a b mc ma mb n tl g t td (suc d) names d hc ha hb (suits_later g names d (suc d) (omega arith) suits)
      (omega arith),
)
bounds c a b mc ma mb n tl g t td d names (f.Bind form) (Pass l) hc ha hb suits fits = absurd fits
bounds c a b mc ma mb n tl g t td d names (f.Pass l) (Bind tk u any) hc ha hb suits fits = absurd fits
bounds c a b mc ma mb n tl g t td d names (f.Pass l) (Pass k) hc ha hb suits fits =
    subst (λ j. cps (bare c) (scope n tl g names) TInt td d (Bind tl TInt (choice_form a b n tl g t names j))
    (f.cps c td d tl names (choice a b tl names l))) (sym fits.0)
    (chooses c a b mc ma mb n tl g t td d names l hc ha hb suits fits.1)

as_its : (tail : Bool) (k : Rest) (tl : List ℕ) (t u : Ty) (r : AnyRest) (td d e : ℕ) → InTail tail k →
    (tail ≡ false → u ≡ t) → d ≤ e → Fits d k (typ tl t) r → stands (as_value r) td e (f.as_value (kat td tl u) k td e)
as_its tail (f.Bind form) tl t u r td d e it is le fits =
    as_it (f.Bind form) (typ tl u) r td e
    (subst (λ (w : Ty). Fits e (f.Bind form) (typ tl w) r) (sym (is it))
    (fits_later d e (f.Bind form) (typ tl t) r le fits))
as_its tail (f.Pass l) tl t u r td d e it is le fits =
    as_it (f.Pass l) (typ tl t) r td e (fits_later d e (f.Pass l) (typ tl t) r le fits)

bounds_at : (tail : Bool) (c a b : Noted) → MeetsAt false c → MeetsAt true a → MeetsAt true b →
    (n : ℕ) (tl : List ℕ) (g : Tys) (t u : Ty) (td d : ℕ) (names : List Atom) (k : Rest) (r : AnyRest) →
    InTail tail k → (tail ≡ false → u ≡ t) → Annotated false c n g TInt → Annotated true a n g t →
    Annotated true b n g t → Suits g names d → Fits d k (typ tl t) r →
    BoundAt c a b n tl g t td d names r
    (f.bound_once (kat td tl u) k td d (λ d1 l. f.cps c td d1 tl names (choice a b tl names l)))
bounds_at tail c a b mc ma mb n tl g t u td d names (f.Bind form) r it is hc ha hb suits fits =
    subst (λ (w : Ty). BoundAt c a b n tl g t td d names r
    (f.bound_once (kat td tl w) (f.Bind form) td d (λ d1 l. f.cps c td d1 tl names (choice a b tl names l))))
    (sym (is it))
    (bounds c a b mc ma mb n tl g t td d names (f.Bind form) r hc ha hb suits fits)
bounds_at tail c a b mc ma mb n tl g t u td d names (f.Pass l) r it is hc ha hb suits fits =
    bounds c a b mc ma mb n tl g t td d names (f.Pass l) r hc ha hb suits fits

mutual
  pub has_type : (tail : Bool) (e : Noted) (n : ℕ) (g : Tys) (t : Ty) → Annotated tail e n g t → HasType (bare e) n g t
  has_type tail (EVar i) n g t h = h
  has_type tail (ENum i) n g t h = h
  has_type tail (EFix arg res e) n g t h = (h.0, h.1, h.2, has_type true e n (in_fix arg res g) res h.3)
  has_type tail (EApp f x u) n g t h =
      (h.1.0, has_type false f n g (TArrow h.1.0 t) h.1.1, has_type false x n g h.1.0 h.1.2)
  has_type tail (EGen e u) n g t h = (u, h.0, has_type true e (n + 1) (raised g) u h.1)
  has_type tail (EInst e s u) n g t h = (h.1.0, h.1.1, h.1.2, has_type false e n g (TAll h.1.0) h.1.3)
  has_type tail (ETuple es u) n g t h = (h.1.0, h.1.1, have_types es n g h.1.0 h.1.2)
  has_type tail (EProj i e u) n g t h = (h.1.0, h.1.1, has_type false e n g (TTuple h.1.0) h.1.2)
  has_type tail (EArith op a b) n g t h = (h.0, has_type false a n g TInt h.1, has_type false b n g TInt h.2)
  has_type tail (EIf c a b u) n g t h =
      (has_type false c n g TInt h.1, has_type true a n g t h.2, has_type true b n g t h.3)
  has_type tail (ELet a b) n g t h = (h.0, has_type false a n g h.0 h.1, has_type tail b n (MoreTys h.0 g) t h.2)
  has_type tail (EPack hid e s) n g t h = (h.0, h.1, h.2, h.3, h.4, has_type false e n g (put 0 hid h.0) h.5)
  has_type tail (EOpen a b u) n g t h =
      (u, h.0, has_type false a n g (TSome u) h.1, has_type tail b (n + 1) (in_open u g) (shift 1 0 t) h.2)
  has_type tail (ERef e u) n g t h = (h.1.0, h.1.1, has_type false e n g h.1.0 h.1.2)
  has_type tail (EDeref e u) n g t h = has_type false e n g (TRef t) h.1
  has_type tail (EAssign a b) n g t h = (h.0, h.1, has_type false a n g (TRef h.0) h.2, has_type false b n g h.0 h.3)

  have_types : (es : Noteds) (n : ℕ) (g ts : Tys) → AllAnnotated es n g ts → HaveTypes (bare_all es) n g ts
  have_types NoNoteds n g ts h = h
  have_types (MoreNoteds e es) n g ts h = (h.0, h.1, h.2, has_type false e n g h.0 h.3, have_types es n g h.1 h.4)

-- one part and a declaration of it, two parts and a declaration of them
meets_one : (e : Noted) → MeetsAt false e →
    (make : ℕ → KVal → KDecl) (n : ℕ) (tl : List ℕ) (g : Tys) (s : Ty) (t : ℕ → KTy) (td d : ℕ) (names : List Atom)
    (k : Rest) (r : AnyRest) →
    Annotated false e n g s → Suits g names d → Fits d k t r →
    cps (bare e) (scope n tl g names) s td d (Bind tl s (one_form r make)) (f.cps e td d tl names (f.to_one make k))
meets_one e me make n tl g s t td d names k r h suits fits =
    me n tl g s td d names (f.to_one make k) (Bind tl s (one_form r make)) refl h suits (
      (λ ta. refl),
      λ ta e1 a le good.
          (value a e1, f.deliver k ta (suc e1) (Level e1), is_it a e1 good, refl, declared k t r ta d e1 le fits),
    )

meets_two : (x y : Noted) → MeetsAt false x → MeetsAt false y →
    (make : KVal → KVal → KDecl) (n : ℕ) (tl : List ℕ) (g : Tys) (s u : Ty) (t : ℕ → KTy) (td d : ℕ)
    (names : List Atom) (k : Rest) (r : AnyRest) →
    Annotated false x n g s → Annotated false y n g u → Suits g names d → Fits d k t r →
    cps (bare x) (scope n tl g names) s td d
    (Bind tl s (λ ta d1 av m1. cps (bare y) (scope n tl g names) u ta d1 (Bind tl u (two_form r make av)) m1))
    (f.cps x td d tl names (f.Bind (λ ta d1 aa. f.cps y ta d1 tl names (f.to_two make aa k))))
meets_two x y mx my make n tl g s u t td d names k r hx hy suits fits =
    mx n tl g s td d names (f.Bind (λ ta d1 aa. f.cps y ta d1 tl names (f.to_two make aa k)))
    (Bind tl s (λ ta d1 av m1. cps (bare y) (scope n tl g names) u ta d1 (Bind tl u (two_form r make av)) m1)) refl hx
    suits (
      (λ ta. refl),
      λ ta e1 a le good. my n tl g u ta e1 names (f.to_two make a k) (Bind tl u (two_form r make (Plain a))) refl hy
          (suits_later g names d e1 le suits) (
            (λ tb. refl),
            λ tb e2 b le2 good2. (
              value a e2,
              value b e2,
              f.deliver k tb (suc e2) (Level e2),
              is_it a e2 (later a e1 e2 le2 good),
              is_it b e2 good2,
              refl,
              declared k t r tb d e2 (omega (arith, le, le2)) fits,
            ),
          ),
    )

mutual
  meets : (tail : Bool) (e : Noted) → MeetsAt tail e
  meets tail (EVar i) n tl g t td d names k r it h suits fits =
      let at = found g names d i t h suits in
      (h, atom_at names i, at.0, gives k (typ tl t) r td d (atom_at names i) fits at.1)
  meets tail (ENum i) n tl g t td d names k r it h suits fits = (h, gives k (typ tl t) r td d (Literal i) fits tt)
  meets tail (EFix arg res e) n tl g t td d names k r it h suits fits = (
    has_type tail (EFix arg res e) n g t h,
    names_it k (typ tl t) r td d _ (Made _) fits (
      f.cps e td (suc (suc (suc d))) tl (Level (suc d) ∷ Level d ∷ names) (f.Pass (suc (suc d))),
      refl,
      meets true e n tl (in_fix arg res g) res td (suc (suc (suc d))) (Level (suc d) ∷ Level d ∷ names)
          (f.Pass (suc (suc d))) (Pass (suc (suc d))) tt h.3
          (omega arith, (omega arith, suits_later g names d (suc (suc (suc d))) (omega arith) suits))
          (refl, omega arith),
    ),
  )
  meets tail (EGen e u) n tl g t td d names k r it h suits fits = (
    has_type tail (EGen e u) n g t h,
    u,
    h.0,
    names_it k (typ tl t) r td d _ (Made _) fits (
      f.cps e (suc td) (suc (suc d)) (td ∷ tl) names (f.Pass (suc d)),
      refl,
      meets true e (n + 1) (td ∷ tl) (raised g) u (suc td) (suc (suc d)) names (f.Pass (suc d)) (Pass (suc d)) tt h.1
          (suits_raised g names (suc (suc d)) (suits_later g names d (suc (suc d)) (omega arith) suits))
          (refl, omega arith),
    ),
  )
  meets tail (EApp e x u) n tl g t td d names k r it h suits fits =
      let s = h.1.0 in (
        has_type tail (EApp e x u) n g t h,
        s,
        meets false e n tl g (TArrow s t) td d names
            (f.Bind (λ ta d1 fa. f.cps x ta d1 tl names (f.to_call tl fa u k)))
            (Bind tl (TArrow s t) (λ ta d1 fv m1. cps (bare x) (scope n tl g names) s ta d1 (Bind tl s (call_form r fv))
            m1))
            refl h.1.1 suits (
              (λ ta. refl),
              λ ta e1 a le good. meets false x n tl g s ta e1 names (f.to_call tl a u k)
                  (Bind tl s (call_form r (Plain a))) refl h.1.2 (suits_later g names d e1 le suits) (
                    (λ tb. refl),
                    λ tb e2 b le2 good2.
                        inl (
                          value a e2,
                          value b e2,
                          f.as_value (kat tb tl u) k tb e2,
                          is_it a e2 (later a e1 e2 le2 good),
                          is_it b e2 good2,
                          as_its tail k tl t u r tb d e2 it h.0 (omega (arith, le, le2)) fits,
                          refl,
                        ),
                  ),
            ),
      )
  meets tail (EInst e s u) n tl g t td d names k r it h suits fits =
      let b = h.1.0 in (
        has_type tail (EInst e s u) n g t h,
        b,
        h.1.1,
        meets false e n tl g (TAll b) td d names (f.to_inst tl s u k) (Bind tl (TAll b) (inst_form r tl s)) refl h.1.3
            suits (
              (λ ta. refl),
              λ ta e1 a le good.
                  inl (
                    value a e1,
                    f.as_value (kat ta tl u) k ta e1,
                    is_it a e1 good,
                    as_its tail k tl t u r ta d e1 it h.0 le fits,
                    refl,
                  ),
            ),
      )
  meets tail (ETuple es u) n tl g t td d names k r it h suits fits = (
    has_type tail (ETuple es u) n g t h,
    h.1.0,
    h.1.1,
    meets_all es n tl g h.1.0 td d names [] (λ ta d1 xs m1. deliver r ta d1 (tuple_of xs) m1) (f.to_tuple k) h.1.2 suits
        (λ ta e xs le good. names_it k (typ tl t) r ta e (KTuple (values xs e)) (tuple_of (things xs))
        (fits_later d e k (typ tl t) r le fits) (values xs e, refl, stand_all xs ta e good)),
  )
  meets tail (EProj i e u) n tl g t td d names k r it h suits fits = (
    has_type tail (EProj i e u) n g t h,
    h.1.0,
    h.1.1,
    meets_one e (meets false e) (λ ta v. KProj i v) n tl g (TTuple h.1.0) (typ tl t) td d names k r h.1.2 suits fits,
  )
  meets tail (EArith op x y) n tl g t td d names k r it h suits fits = (
    has_type tail (EArith op x y) n g t h,
    meets_two x y (meets false x) (meets false y) (KArith op) n tl g TInt TInt (typ tl t) td d names k r h.1 h.2
        suits fits,
  )
  meets tail (EIf c a b u) n tl g t td d names k r it h suits fits = (
    has_type tail (EIf c a b u) n g t h,
    bounds_at tail c a b (meets false c) (meets true a) (meets true b) n tl g t u td d names k r it h.0 h.1 h.2
        h.3 suits fits,
  )
  meets tail (ELet a b) n tl g t td d names k r it h suits fits =
      let s = h.0 in (
        has_type tail (ELet a b) n g t h,
        s,
        meets false a n tl g s td d names (f.Bind (λ ta d1 x. f.cps b ta d1 tl (x ∷ names) k))
            (Bind tl s (let_form (λ ta d1 x m1. cps (bare b) (scope n tl (MoreTys s g) (x ∷ names)) t ta d1 r m1))) refl
            h.1
            suits (
              (λ ta. refl),
              λ ta e1 x le good. meets tail b n tl (MoreTys s g) t ta e1 (x ∷ names) k r it h.2
                  (good, suits_later g names d e1 le suits) (fits_later d e1 k (typ tl t) r le fits),
            ),
      )
  meets tail (EPack hid e s) n tl g t td d names k r it h suits fits = (
    has_type tail (EPack hid e s) n g t h,
    h.0,
    h.1,
    h.2,
    meets_one e (meets false e) (packing tl hid s) n tl g (put 0 hid h.0) (typ tl t) td d names k r h.5 suits fits,
  )
  meets tail (EOpen a b u) n tl g t td d names k r it h suits fits = (
    has_type tail (EOpen a b u) n g t h,
    u,
    meets false a n tl g (TSome u) td d names
        (f.Bind (λ ta d1 x. KLet (KUnpack (value x d1)) (f.cps b (suc ta) (suc d1) (ta ∷ tl) (Level d1 ∷ names) k)))
        (Bind tl (TSome u)
        (open_form (λ ta d1 m1. cps (bare b) (scope (n + 1) (ta ∷ tl) (in_open u g) (Level d1 ∷ names)) (shift 1 0 t)
        (suc ta) (suc d1) r m1))) refl h.1 suits (
          (λ ta. refl),
          λ ta e1 x le good. (
            value x e1,
            f.cps b (suc ta) (suc e1) (ta ∷ tl) (Level e1 ∷ names) k,
            is_it x e1 good,
            refl,
            meets tail b (n + 1) (ta ∷ tl) (in_open u g) (shift 1 0 t) (suc ta) (suc e1) (Level e1 ∷ names) k r it h.2
                (omega arith, suits_raised g names (suc e1) (suits_later g names d (suc e1) (omega (arith, le)) suits))
                (fits_same (suc e1) k (typ tl t) (typ (ta ∷ tl) (shift 1 0 t)) r (λ tb. sym (raised_at t ta tb tl))
                (fits_later d (suc e1) k (typ tl t) r (omega (arith, le)) fits)),
          ),
        ),
  )
  meets tail (ERef e u) n tl g t td d names k r it h suits fits = (
    has_type tail (ERef e u) n g t h,
    h.1.0,
    h.1.1,
    meets_one e (meets false e) (λ ta v. KCell v) n tl g h.1.0 (typ tl t) td d names k r h.1.2 suits fits,
  )
  meets tail (EDeref e u) n tl g t td d names k r it h suits fits = (
    has_type tail (EDeref e u) n g t h,
    meets_one e (meets false e) (λ ta v. KGet v) n tl g (TRef t) (typ tl t) td d names k r h.1 suits fits,
  )
  meets tail (EAssign x y) n tl g t td d names k r it h suits fits = (
    has_type tail (EAssign x y) n g t h,
    h.0,
    h.1,
    meets_two x y (meets false x) (meets false y) KSet n tl g (TRef h.0) h.0 (typ tl t) td d names k r h.2 h.3 suits
        fits,
  )

  meets_all : (es : Noteds) (n : ℕ) (tl : List ℕ) (g ts : Tys) (td d : ℕ) (names : List Atom) (done : List Atom)
      (F : Forms) (make : ℕ → ℕ → List Atom → KTm) →
      AllAnnotated es n g ts → Suits g names d → FitsAll d F done make →
      cps_all (bare_all es) (scope n tl g names) ts td d F (f.cps_all es td d tl names done make)
  meets_all NoNoteds n tl g ts td d names done F make h suits fits =
      (h, subst (λ (xs : List Atom). F td d NoThings (make td d xs)) (append-nil done) (fits td d [] (omega arith) tt))
  meets_all (MoreNoteds e es) n tl g ts td d names done F make h suits fits = (
    h.0,
    h.1,
    h.2,
    meets false e n tl g h.0 td d names (f.Bind (λ ta d1 a. f.cps_all es ta d1 tl names (done ++ a ∷ []) make))
        (Bind tl h.0
        (λ ta d1 x m1. cps_all (bare_all es) (scope n tl g names) h.1 ta d1 (λ tb d2 xs m2.
        F tb d2 (MoreThings x xs) m2) m1))
        refl h.3 suits (
          (λ ta. refl),
          λ ta e1 a le good. meets_all es n tl g h.1 ta e1 names (done ++ a ∷ [])
              (λ tb d2 xs m2. F tb d2 (MoreThings (Plain a) xs) m2) make h.4 (suits_later g names d e1 le suits)
              (λ tb e2 xs le2 good2.
              subst (λ (ys : List Atom). F tb e2 (MoreThings (Plain a) (things xs)) (make tb e2 ys))
              (sym (append_assoc done (a ∷ []) xs))
              (fits tb e2 (a ∷ xs) (omega (arith, le, le2)) (later a e1 e2 le2 good, good2))),
        ),
  )

pub meets_program : (e : Noted) → Annotated false e 0 NoTys TInt → cps_program (bare e) (cps_of e)
meets_program e h =
    meets false e 0 [] NoTys TInt 0 0 [] f.halting (Bind [] TInt halting) refl h tt
    ((λ ta. refl), λ ta e1 a le good. (value a e1, is_it a e1 good, refl))
