-- The translation to continuation-passing style, as a relation between typed terms.
use Rattle.f_terms.specs.Typing.{raised, in_fix, in_open}
use Rattle.k_laws.specs.Cps.{kat, kcat, Atom, Level, Literal, packing}
use Rattle.std.specs.Prelude.{ℤ, ◌≡◌, ℕ, zero, suc, ◌+◌, List, [], ◌∷◌, ◌⊎◌, Some}
use Rattle.f_terms.specs.Ty.{Ty, TInt, TArrow, TAll, TTuple, TSome, TRef, Tys, NoTys, MoreTys, shift, put}
use Rattle.f_terms.specs.Tm.{Term, MVar, MNum, MFix, MApp, MGen, MInst, MTuple, MProj, MArith, MIf0, MLet, MPack}
use Rattle.f_terms.specs.Tm.{MOpen, MRef, MDeref, MAssign, Terms, NoTerms, MoreTerms}
use Rattle.f_terms.specs.Typing.{field_ty, HasType}
use Rattle.k_terms.specs.K.{NoKTys, MoreKTys, KVal, KVar, KInt, KTuple, KCode, KVals, NoKVals, MoreKVals, KDecl}
use Rattle.k_terms.specs.K.{KName, KProj, KArith, KUnpack, KCell, KGet, KSet, KTm, KLet, KCall, KIf, KHalt}

-- what is delivered: an atom, or which values stand for it, at a place with so many type names and so many names in
-- scope
pub data Thing : Type 1 where
  Plain : (a : Atom) → Thing
  Made : (values : ℕ → ℕ → KVal → Type 0) → Thing

pub data Things : Type 1 where
  NoThings : Things
  MoreThings : (x : Thing) → (xs : Things) → Things

-- the name that has so many names outside it, or the integer
abbrev pub is_atom : Atom → ℕ → KVal → Type 0
is_atom (Level l) depth v = (i : ℕ) × (v ≡ KVar i) × (i + suc l ≡ depth)
is_atom (Literal n) depth v = v ≡ KInt n

abbrev pub stands : Thing → ℕ → ℕ → KVal → Type 0
stands (Plain a) td depth v = is_atom a depth v
stands (Made values) td depth v = values td depth v

abbrev pub named : ℕ → Thing
named l = Plain (Level l)

abbrev pub number : ℤ → Thing
number n = Plain (Literal n)

abbrev pub stand : Things → ℕ → ℕ → KVals → Type 0
stand NoThings td depth vs = vs ≡ NoKVals
stand (MoreThings x xs) td depth vs = (v : KVal) × (vs' : KVals) × (vs ≡ MoreKVals v vs') × stands x td depth v
    × stand xs td depth vs'

abbrev pub tuple_of : Things → Thing
tuple_of xs = Made (λ td depth v. (vs : KVals) × (v ≡ KTuple vs) × stand xs td depth vs)

-- the terms that a rest `x. M` gives at a place, for what stands for x
abbrev pub Form : Type 1
Form = ℕ → ℕ → Thing → KTm → Type 0

abbrev pub Forms : Type 1
Forms = ℕ → ℕ → Things → KTm → Type 0

-- k: a rest for a value of type t, whose type names have these levels, or the value of a name
pub data AnyRest : Type 1 where
  Bind : (tl : List ℕ) → (t : Ty) → (form : Form) → AnyRest
  Pass : (level : ℕ) → AnyRest

-- x stands in place, or has a name
abbrev pub in_place_or_named : Form → Form
in_place_or_named form td depth x m =
    form td depth x m
    ⊎ ((v : KVal) × (rest : KTm) × stands x td depth v × (m ≡ KLet (KName v) rest)
    × form td (suc depth) (named depth) rest)

abbrev pub to_rest : AnyRest → Form
to_rest (Bind tl t form) td depth x m = form td depth x m
to_rest (Pass l) td depth x m = (k : KVal) × (v : KVal) × is_atom (Level l) depth k × stands x td depth v
    × (m ≡ KCall k NoKTys (MoreKVals v NoKVals))

abbrev pub deliver : AnyRest → Form
deliver r = in_place_or_named (to_rest r)

-- k as a value: its name, or the code that takes x
abbrev pub as_value : AnyRest → Thing
as_value (Pass l) = named l
as_value (Bind tl t form) = Made
    (λ td depth v. (body : KTm) × (v ≡ KCode 0 (MoreKTys (kat td tl t) NoKTys) body)
    × form td (suc (suc depth)) (named (suc depth)) body)

-- k as a value that is bound once
abbrev pub bound_once : AnyRest → ℕ → ℕ → (ℕ → ℕ → KTm → Type 0) → KTm → Type 0
bound_once (Pass l) td depth body m = body depth l m
bound_once (Bind tl t form) td depth body m =
    (v : KVal) × (rest : KTm) × stands (as_value (Bind tl t form)) td depth v × (m ≡ KLet (KName v) rest)
    × body (suc depth) depth rest

-- what stands for a source variable
abbrev pub atom_of : List Atom → ℕ → Atom → Type 0
atom_of [] i a = ⊥
atom_of (k ∷ names) zero a = k ≡ a
atom_of (k ∷ names) (suc i) a = atom_of names i a

-- the forms at which a call and a declaration are made
abbrev pub call_now : Thing → Thing → Form
call_now fv xv td depth kv m = (f' x' k' : KVal) × stands fv td depth f' × stands xv td depth x' × stands kv td depth k'
    × (m ≡ KCall f' NoKTys (MoreKVals x' (MoreKVals k' NoKVals)))

abbrev pub call_form : AnyRest → Thing → Form
call_form k fv td depth xv m = in_place_or_named (call_now fv xv) td depth (as_value k) m

abbrev pub inst_now : List ℕ → Ty → Thing → Form
inst_now tl t ev td depth kv m = (e' k' : KVal) × stands ev td depth e' × stands kv td depth k'
    × (m ≡ KCall e' (MoreKTys (kat td tl t) NoKTys) (MoreKVals k' NoKVals))

abbrev pub inst_form : AnyRest → List ℕ → Ty → Form
inst_form k tl t td depth ev m = in_place_or_named (inst_now tl t ev) td depth (as_value k) m

-- one declaration of two parts, or of one; what it names is delivered
abbrev pub two_form : AnyRest → (KVal → KVal → KDecl) → Thing → Form
two_form k make av td depth bv m = (a' b' : KVal) × (rest : KTm) × stands av td depth a' × stands bv td depth b'
    × (m ≡ KLet (make a' b') rest) × deliver k td (suc depth) (named depth) rest

abbrev pub one_form : AnyRest → (ℕ → KVal → KDecl) → Form
one_form k make td depth ev m = (e' : KVal) × (rest : KTm) × stands ev td depth e'
    × (m ≡ KLet (make td e') rest) × deliver k td (suc depth) (named depth) rest

-- a variable or an integer stands in place, anything else is named
abbrev pub let_form : (ℕ → ℕ → Atom → KTm → Type 0) → Form
let_form body td depth (Plain a) m = body td depth a m
let_form body td depth (Made values) m = (v : KVal) × (rest : KTm) × values td depth v × (m ≡ KLet (KName v) rest)
    × body td (suc depth) (Level depth) rest

-- what is unpacked has a name, and its type has one
abbrev pub open_form : (ℕ → ℕ → KTm → Type 0) → Form
open_form body td depth x m = (v : KVal) × (rest : KTm) × stands x td depth v × (m ≡ KLet (KUnpack v) rest)
    × body td depth rest

-- what is in scope of a part of the source: so many type names, of these levels, and names of these types, for which
-- these atoms stand
pub record Scope : Type 0 where
  pub type_names : ℕ
  pub levels : List ℕ
  pub types : Tys
  pub atoms : List Atom

abbrev pub scope : ℕ → List ℕ → Tys → List Atom → Scope
scope n levels types atoms = record { type_names = n; levels = levels; types = types; atoms = atoms }

-- in a function at level f: itself, and its argument behind that
abbrev pub in_function : (arg res : Ty) (f : ℕ) → Scope → Scope
in_function arg res f s =
    scope s.type_names s.levels (in_fix arg res s.types) (Level (suc f) ∷ Level f ∷ s.atoms)

-- under a type name at level l; and with the value at a level that hides a type
abbrev pub under_type : ℕ → Scope → Scope
under_type l s = scope (s.type_names + 1) (l ∷ s.levels) (raised s.types) s.atoms

abbrev pub with_hidden : (l level : ℕ) (u : Ty) → Scope → Scope
with_hidden l level u s = scope (s.type_names + 1) (l ∷ s.levels) (in_open u s.types) (Level level ∷ s.atoms)

-- with a name of type u, for which the atom a stands
abbrev pub with_name : Ty → Atom → Scope → Scope
with_name u a s = scope s.type_names s.levels (MoreTys u s.types) (a ∷ s.atoms)

abbrev pub IsOf : Term → Scope → Ty → Type 0
IsOf e s t = HasType e s.type_names s.types t

-- [e]k for e of type t in a scope, at a place with td type names and depth names
abbrev mutual
  pub cps : Term → Scope → Ty → (td depth : ℕ) → AnyRest → KTm → Type 0
  cps (MVar i) s t td depth k m = IsOf (MVar i) s t × (a : Atom) × atom_of s.atoms i a × deliver k td depth (Plain a) m
  cps (MNum i) s t td depth k m = IsOf (MNum i) s t × deliver k td depth (number i) m
  cps (MFix arg res e) s t td depth k m =
      IsOf (MFix arg res e) s t
      × deliver k td depth (Made
      (λ ta at v. (body : KTm)
      × (v ≡ KCode 0 (MoreKTys (kat ta s.levels arg) (MoreKTys (kcat ta s.levels res) NoKTys)) body)
      × cps e (in_function arg res at s) res ta (suc (suc (suc at))) (Pass (suc (suc at))) body)) m
  cps (MGen e) s t td depth k m =
      IsOf (MGen e) s t × (u : Ty) × (t ≡ TAll u)
      × deliver k td depth (Made
      (λ ta at v. (body : KTm) × (v ≡ KCode 1 (MoreKTys (kcat (suc ta) (ta ∷ s.levels) u) NoKTys) body)
      × cps e (under_type ta s) u (suc ta) (suc (suc at)) (Pass (suc at)) body)) m
  cps (MApp f x) s t td depth k m =
      IsOf (MApp f x) s t × (u : Ty)
      × cps f s (TArrow u t) td depth (Bind s.levels (TArrow u t)
      (λ ta d1 fv m1. cps x s u ta d1 (Bind s.levels u (call_form k fv)) m1)) m
  cps (MInst e u) s t td depth k m =
      IsOf (MInst e u) s t × (b : Ty) × (t ≡ put 0 u b)
      × cps e s (TAll b) td depth (Bind s.levels (TAll b) (inst_form k s.levels u)) m
  cps (MTuple es) s t td depth k m =
      IsOf (MTuple es) s t × (ts : Tys) × (t ≡ TTuple ts)
      × cps_all es s ts td depth (λ ta d xs m. deliver k ta d (tuple_of xs) m) m
  cps (MProj i e) s t td depth k m =
      IsOf (MProj i e) s t × (ts : Tys) × (field_ty ts i ≡ Some t)
      × cps e s (TTuple ts) td depth (Bind s.levels (TTuple ts) (one_form k (λ ta v. KProj i v))) m
  cps (MArith op a b) s t td depth k m =
      IsOf (MArith op a b) s t
      × cps a s TInt td depth (Bind s.levels TInt
      (λ ta d1 av m1. cps b s TInt ta d1 (Bind s.levels TInt (two_form k (KArith op) av)) m1)) m
  cps (MIf0 c a b) s t td depth k m =
      IsOf (MIf0 c a b) s t
      × bound_once k td depth
      (λ d1 l m1. cps c s TInt td d1 (Bind s.levels TInt (λ ta d2 cv m2. (c' : KVal) × (ma mb : KTm)
      × stands cv ta d2 c' × (m2 ≡ KIf c' ma mb) × cps a s t ta d2 (Pass l) ma × cps b s t ta d2 (Pass l) mb)) m1) m
  cps (MLet a b) s t td depth k m =
      IsOf (MLet a b) s t × (u : Ty)
      × cps a s u td depth (Bind s.levels u (let_form (λ ta d x m1. cps b (with_name u x s) t ta d k m1))) m
  cps (MPack h e u) s t td depth k m =
      IsOf (MPack h e u) s t × (v : Ty) × (u ≡ TSome v) × (t ≡ u)
      × cps e s (put 0 h v) td depth (Bind s.levels (put 0 h v) (one_form k (packing s.levels h u))) m
  cps (MOpen a b) s t td depth k m =
      IsOf (MOpen a b) s t × (u : Ty)
      × cps a s (TSome u) td depth (Bind s.levels (TSome u) (open_form
      (λ ta d m1. cps b (with_hidden ta d u s) (shift 1 0 t) (suc ta) (suc d) k m1))) m
  cps (MRef e) s t td depth k m =
      IsOf (MRef e) s t × (u : Ty) × (t ≡ TRef u)
      × cps e s u td depth (Bind s.levels u (one_form k (λ ta v. KCell v))) m
  cps (MDeref e) s t td depth k m =
      IsOf (MDeref e) s t × cps e s (TRef t) td depth (Bind s.levels (TRef t) (one_form k (λ ta v. KGet v))) m
  cps (MAssign a b) s t td depth k m =
      IsOf (MAssign a b) s t × (u : Ty) × (t ≡ TTuple NoTys)
      × cps a s (TRef u) td depth (Bind s.levels (TRef u)
      (λ ta d1 av m1. cps b s u ta d1 (Bind s.levels u (two_form k KSet av)) m1)) m

  pub cps_all : Terms → Scope → Tys → (td depth : ℕ) → Forms → KTm → Type 0
  cps_all NoTerms s ts td depth form m = (ts ≡ NoTys) × form td depth NoThings m
  cps_all (MoreTerms e es) s ts td depth form m =
      (t : Ty) × (ts' : Tys) × (ts ≡ MoreTys t ts')
      × cps e s t td depth (Bind s.levels t
      (λ ta d1 x m1. cps_all es s ts' ta d1 (λ tb d2 xs m2. form tb d2 (MoreThings x xs) m2) m1)) m

-- the rest of a program: x. halt x
abbrev pub halting : Form
halting td depth x m = (v : KVal) × stands x td depth v × (m ≡ KHalt v)

abbrev pub cps_program : Term → KTm → Type 0
cps_program e m = cps e (scope 0 [] NoTys []) TInt 0 0 (Bind [] TInt halting) m
