-- Conversion to continuation-passing style. Source names are kept by their levels: the level of a name is the number
-- of names outside it. A place has so many type names and so many names around it.
use Rattle.std.specs.Prelude.{ℕ, ℤ, zero, suc, ◌-◌, List, [], ◌∷◌, ◌++◌}
use Rattle.calc_core.specs.Ends.{under}
use Rattle.f_terms.specs.Ty.{Ty, TInt, TVar, TArrow, TAll, TTuple, TSome, TRef, Tys, NoTys, MoreTys}
use Rattle.k_terms.specs.K.{KTy, TKInt, TKVar, TKTuple, TKCode, TKExists, TKRef, KTys, NoKTys, MoreKTys, KVal, KVar}
use Rattle.k_terms.specs.K.{KInt}
use Rattle.k_terms.specs.K.{KTuple, KCode, KVals, NoKVals, MoreKVals, KDecl, KName, KProj, KArith, KPack, KUnpack}
use Rattle.k_terms.specs.K.{KCell, KGet, KSet, KTm, KLet, KCall, KIf, KHalt}
use Rattle.f_terms.specs.Noted.{Noted, EVar, ENum, EFix, EApp, EGen, EInst, ETuple, EProj, EArith, EIf, ELet, EPack}
use Rattle.f_terms.specs.Noted.{EOpen, ERef, EDeref, EAssign, Noteds, NoNoteds, MoreNoteds}

-- the type of what takes a value of the type t
abbrev pub taking : KTy → KTy
taking t = TKCode 0 (MoreKTys t NoKTys)

-- the type K t, where r says which type name stands for each of the source's
abbrev mutual
  pub kty : (ℕ → ℕ) → Ty → KTy
  kty r TInt = TKInt
  kty r (TVar i) = TKVar (r i)
  kty r (TArrow a b) = TKCode 0 (MoreKTys (kty r a) (MoreKTys (taking (kty r b)) NoKTys))
  kty r (TAll t) = TKCode 1 (MoreKTys (taking (kty (under 1 r) t)) NoKTys)
  kty r (TTuple ts) = TKTuple (all_kty r ts)
  kty r (TSome t) = TKExists (kty (under 1 r) t)
  kty r (TRef t) = TKRef (kty r t)

  pub all_kty : (ℕ → ℕ) → Tys → KTys
  all_kty r NoTys = NoKTys
  all_kty r (MoreTys t ts) = MoreKTys (kty r t) (all_kty r ts)

-- the type names of the source stand by their levels too, since an `open` names a type for all that comes after it
abbrev pub type_level : List ℕ → ℕ → ℕ
type_level [] i = 0
type_level (l ∷ tl) zero = l
type_level (l ∷ tl) (suc i) = type_level tl i

abbrev pub spot : ℕ → List ℕ → ℕ → ℕ
spot td tl i = td - suc (type_level tl i)

-- the type K t at a place with td type names around it, where those of the source have the levels tl
abbrev pub kat : ℕ → List ℕ → Ty → KTy
kat td tl t = kty (spot td tl) t

abbrev pub kcat : ℕ → List ℕ → Ty → KTy
kcat td tl t = taking (kat td tl t)

-- what stands in place: a name by its level, or an integer
pub data Atom : Type 0 where
  Level : (l : ℕ) → Atom
  Literal : (n : ℤ) → Atom

-- the value at a place with d names around it
abbrev pub value : Atom → ℕ → KVal
value (Level l) d = KVar (d - suc l)
value (Literal n) d = KInt n

abbrev pub values : List Atom → ℕ → KVals
values [] d = NoKVals
values (a ∷ as') d = MoreKVals (value a d) (values as' d)

-- k: a rest `x. M`, which gives M at a place and for what stands for x; or the name of a level
pub data Rest : Type 0 where
  Bind : (form : ℕ → ℕ → Atom → KTm) → Rest
  Pass : (level : ℕ) → Rest

abbrev pub deliver : Rest → ℕ → ℕ → Atom → KTm
deliver (Bind form) td d a = form td d a
deliver (Pass l) td d a = KCall (value (Level l) d) NoKTys (MoreKVals (value a d) NoKVals)

-- what a declaration names is delivered
abbrev pub declare : KDecl → Rest → ℕ → ℕ → KTm
declare x k td d = KLet x (deliver k td (suc d) (Level d))

abbrev pub name : KVal → Rest → ℕ → ℕ → KTm
name v k td d = declare (KName v) k td d

-- k as a value: it is one, or it becomes the code that takes x
abbrev pub as_value : KTy → Rest → ℕ → ℕ → KVal
as_value t (Pass l) td d = value (Level l) d
as_value t (Bind form) td d = KCode 0 (MoreKTys t NoKTys) (form td (suc (suc d)) (Level (suc d)))

-- k as a value that is bound once
abbrev pub bound_once : KTy → Rest → ℕ → ℕ → (ℕ → ℕ → KTm) → KTm
bound_once t (Pass l) td d body = body d l
bound_once t (Bind form) td d body = KLet (KName (as_value t (Bind form) td d)) (body (suc d) d)

-- what stands for a source name
abbrev pub atom_at : List Atom → ℕ → Atom
atom_at [] i = Level 0
atom_at (a ∷ names) zero = a
atom_at (a ∷ names) (suc i) = atom_at names i

-- what is done with the last part: a call, a call with a type, a declaration of it, of two parts, a package, a tuple
abbrev pub to_call : List ℕ → Atom → Ty → Rest → Rest
to_call tl f t k = Bind
    (λ td d x. KCall (value f d) NoKTys
    (MoreKVals (value x d) (MoreKVals (as_value (kat td tl t) k td d) NoKVals)))

abbrev pub to_inst : List ℕ → Ty → Ty → Rest → Rest
to_inst tl s t k = Bind
    (λ td d f. KCall (value f d) (MoreKTys (kat td tl s) NoKTys) (MoreKVals (as_value (kat td tl t) k td d) NoKVals))

abbrev pub to_one : (ℕ → KVal → KDecl) → Rest → Rest
to_one make k = Bind (λ td d e. declare (make td (value e d)) k td d)

abbrev pub to_two : (KVal → KVal → KDecl) → Atom → Rest → Rest
to_two make a k = Bind (λ td d b. declare (make (value a d) (value b d)) k td d)

abbrev pub packing : List ℕ → Ty → Ty → ℕ → KVal → KDecl
packing tl h s td v = KPack (kat td tl h) v (kat td tl s)

abbrev pub to_tuple : Rest → ℕ → ℕ → List Atom → KTm
to_tuple k td d as' = name (KTuple (values as' d)) k td d

-- [e]k at a place with td type names and d names around it, where the source's type names have the levels tl, and
-- these stand for its names
abbrev mutual
  pub cps : Noted → ℕ → ℕ → List ℕ → List Atom → Rest → KTm
  cps (EVar i) td d tl names k = deliver k td d (atom_at names i)
  cps (ENum n) td d tl names k = deliver k td d (Literal n)
  cps (EFix arg res e) td d tl names k =
      name (KCode 0 (MoreKTys (kat td tl arg) (MoreKTys (kcat td tl res) NoKTys)) (cps e td (suc (suc (suc d))) tl
      (Level (suc d) ∷ Level d ∷ names) (Pass (suc (suc d))))) k td d
  cps (EGen e t) td d tl names k =
      name (KCode 1 (MoreKTys (kcat (suc td) (td ∷ tl) t) NoKTys) (cps e (suc td) (suc (suc d)) (td ∷ tl) names
      (Pass (suc d)))) k td d
  cps (EApp f x t) td d tl names k =
      cps f td d tl names (Bind (λ td1 d1 fa. cps x td1 d1 tl names (to_call tl fa t k)))
  cps (EInst e s t) td d tl names k = cps e td d tl names (to_inst tl s t k)
  cps (ETuple es t) td d tl names k = cps_all es td d tl names [] (to_tuple k)
  cps (EProj i e t) td d tl names k = cps e td d tl names (to_one (λ td1 v. KProj i v) k)
  cps (EArith op a b) td d tl names k =
      cps a td d tl names (Bind (λ td1 d1 aa. cps b td1 d1 tl names (to_two (KArith op) aa k)))
  cps (EIf c a b t) td d tl names k =
      bound_once (kat td tl t) k td d
      (λ d1 l. cps c td d1 tl names (Bind
      (λ td2 d2 ca. KIf (value ca d2) (cps a td2 d2 tl names (Pass l)) (cps b td2 d2 tl names (Pass l)))))
  cps (ELet a b) td d tl names k = cps a td d tl names (Bind (λ td1 d1 x. cps b td1 d1 tl (x ∷ names) k))
  cps (EPack h e s) td d tl names k = cps e td d tl names (to_one (packing tl h s) k)
  cps (EOpen a b t) td d tl names k =
      cps a td d tl names (Bind
      (λ td1 d1 x. KLet (KUnpack (value x d1)) (cps b (suc td1) (suc d1) (td1 ∷ tl) (Level d1 ∷ names) k)))
  cps (ERef e t) td d tl names k = cps e td d tl names (to_one (λ td1 v. KCell v) k)
  cps (EDeref e t) td d tl names k = cps e td d tl names (to_one (λ td1 v. KGet v) k)
  cps (EAssign a b) td d tl names k =
      cps a td d tl names (Bind (λ td1 d1 aa. cps b td1 d1 tl names (to_two KSet aa k)))

  -- the fields of a tuple, after those that are done
  pub cps_all : Noteds → ℕ → ℕ → List ℕ → List Atom → List Atom → (ℕ → ℕ → List Atom → KTm) → KTm
  cps_all NoNoteds td d tl names done form = form td d done
  cps_all (MoreNoteds e es) td d tl names done form =
      cps e td d tl names (Bind (λ td1 d1 a. cps_all es td1 d1 tl names (done ++ a ∷ []) form))

-- the rest of a program: x. halt x
abbrev pub halting : Rest
halting = Bind (λ td d x. KHalt (value x d))

abbrev pub cps_of : Noted → KTm
cps_of e = cps e 0 0 [] [] halting
