-- Typing of allocated programs: the type of a value is computed, and the rest is checked.
use Rattle.std.specs.Prelude.{◌≡◌, ℕ, zero, suc, List, [], ◌∷◌, true, false, Bool, Option, Some, None, slice_get, map}
use Rattle.a_terms.specs.Tree.{ATy, AInt, AVar, ATuple, ACode, AExists, ATys, NoATys, MoreATys, AFields, NoAFields}
use Rattle.a_terms.specs.Tree.{MoreAFields, AVal, Var, Num, Lab, Data, Apply, Pack, ADecl, Value, Proj, Arith, Unpack}
use Rattle.a_terms.specs.Tree.{Malloc, Init, ATm, Let, Call, If0, Halt, ABlk, AConst, AConsts, AProg, ashift, aput}
use Rattle.a_terms.specs.Tree.{aput_types, ABelow, ABelow-types}

-- code applied to types, the first name first
abbrev pub aapply : ATy → ATys → Option ATy
aapply s NoATys = Some s
aapply (ACode (suc n) us) (MoreATys t ts) = aapply (ACode n (aput_types n (ashift n 0 t) us)) ts
aapply _ _ = None

abbrev pub afield_type : AFields → ℕ → Option ATy
afield_type NoAFields i = None
afield_type (MoreAFields t f fs) zero = Some t
afield_type (MoreAFields t f fs) (suc i) = afield_type fs i

abbrev pub afield_flag : AFields → ℕ → Bool
afield_flag NoAFields i = false
afield_flag (MoreAFields t f fs) zero = f
afield_flag (MoreAFields t f fs) (suc i) = afield_flag fs i

abbrev pub afilled : AFields → ℕ → AFields
afilled NoAFields i = NoAFields
afilled (MoreAFields t f fs) zero = MoreAFields t true fs
afilled (MoreAFields t f fs) (suc i) = MoreAFields t f (afilled fs i)

-- fields of these types, each with this flag
abbrev pub aflagged : Bool → ATys → AFields
aflagged flag NoATys = NoAFields
aflagged flag (MoreATys t ts) = MoreAFields t flag (aflagged flag ts)

-- none is initialised
abbrev pub aunset : ATys → AFields
aunset ts = aflagged false ts

-- all are
abbrev pub aset : ATys → AFields
aset ts = aflagged true ts

abbrev pub code_type : Option ABlk → Option ATy
code_type None = None
code_type (Some b) = Some (ACode b.owes b.args)

-- the fields of a data tuple, all initialised
abbrev pub data_fields : AConsts → AFields
data_fields [] = NoAFields
data_fields (c ∷ cs) = MoreAFields c.kind true (data_fields cs)

abbrev pub data_type : Option AConsts → Option ATy
data_type None = None
data_type (Some x) = Some (ATuple (data_fields x))

abbrev pub applied : Option ATy → ATys → Option ATy
applied None ts = None
applied (Some s) ts = aapply s ts

-- the type of a value, where the types of the variables are g
abbrev pub type_of : AProg → List ATy → AVal → Option ATy
type_of p g (Var n) = slice_get g n
type_of p g (Num i) = Some AInt
type_of p g (Lab l) = code_type (slice_get p.blocks l)
type_of p g (Data n) = data_type (slice_get p.tuples n)
type_of p g (Apply v ts) = applied (type_of p g v) ts
type_of p g (Pack h v s) = Some s

-- what a value's typing checks besides
abbrev pub Fine : AProg → ℕ → List ATy → AVal → Type 0
Fine p k g (Apply v ts) = Fine p k g v × ABelow-types k ts
Fine p k g (Pack h v s) =
    (u : ATy) × Fine p k g v × ABelow k h × ABelow k s × (s ≡ AExists u) × (type_of p g v ≡ Some (aput 0 h u))
Fine p k g _ = Unit {0}

-- under k type variables
pub record Has (p : AProg) (k : ℕ) (g : List ATy) (v : AVal) (t : ATy) : Type 0 where
  pub fine : Fine p k g v
  pub is : type_of p g v ≡ Some t

abbrev pub or_int : Option ATy → ATy
or_int None = AInt
or_int (Some t) = t

abbrev pub field_of : ℕ → Option ATy → ATy
field_of i None = AInt
field_of i (Some AInt) = AInt
field_of i (Some (AVar n)) = AInt
field_of zero (Some (ATuple fs)) = AInt
field_of (suc i) (Some (ATuple fs)) = or_int (afield_type fs i)
field_of i (Some (ACode n ts)) = AInt
field_of i (Some (AExists t)) = AInt

abbrev pub body_of : Option ATy → ATy
body_of None = AInt
body_of (Some AInt) = AInt
body_of (Some (AVar n)) = AInt
body_of (Some (ATuple fs)) = AInt
body_of (Some (ACode n ts)) = AInt
body_of (Some (AExists t)) = t

abbrev pub filled_of : ℕ → Option ATy → ATy
filled_of i None = AInt
filled_of i (Some AInt) = AInt
filled_of i (Some (AVar n)) = AInt
filled_of zero (Some (ATuple fs)) = AInt
filled_of (suc i) (Some (ATuple fs)) = ATuple (afilled fs i)
filled_of i (Some (ACode n ts)) = AInt
filled_of i (Some (AExists t)) = AInt

-- the types of the variables after a declaration
abbrev pub declared : AProg → List ATy → ADecl → List ATy
declared p g (Value v) = or_int (type_of p g v) ∷ g
declared p g (Proj i v) = field_of i (type_of p g v) ∷ g
declared p g (Arith o v w) = AInt ∷ g
declared p g (Unpack v) = body_of (type_of p g v) ∷ map (ashift 1 0) g
declared p g (Malloc ts) = ATuple (aunset ts) ∷ g
declared p g (Init v i w) = filled_of i (type_of p g v) ∷ g

abbrev pub more_vars : ADecl → ℕ → ℕ
more_vars (Value v) k = k
more_vars (Proj i v) k = k
more_vars (Arith o v w) k = k
more_vars (Unpack v) k = suc k
more_vars (Malloc ts) k = k
more_vars (Init v i w) k = k

abbrev pub TypedDecl : AProg → ℕ → List ATy → ADecl → Type 0
TypedDecl p k g (Value v) = (t : ATy) × Has p k g v t
TypedDecl p k g (Proj i v) =
    (fs : AFields) × (j : ℕ) × (t : ATy) × Has p k g v (ATuple fs) × (i ≡ suc j) × (afield_type fs j ≡ Some t)
    × (afield_flag fs j ≡ true)
TypedDecl p k g (Arith o v w) = Has p k g v AInt × Has p k g w AInt
TypedDecl p k g (Unpack v) = (t : ATy) × Has p k g v (AExists t)
TypedDecl p k g (Malloc ts) = ABelow-types k ts
TypedDecl p k g (Init v i w) =
    (fs : AFields) × (j : ℕ) × (t : ATy) × Has p k g v (ATuple fs) × Has p k g w t × (i ≡ suc j)
    × (afield_type fs j ≡ Some t)

abbrev pub All-have : AProg → ℕ → List ATy → List AVal → ATys → Type 0
All-have p k g [] NoATys = Unit {0}
All-have p k g [] (MoreATys t ts) = ⊥
All-have p k g (v ∷ vs) NoATys = ⊥
All-have p k g (v ∷ vs) (MoreATys t ts) = Has p k g v t × All-have p k g vs ts

abbrev pub TypedTerm : AProg → ℕ → List ATy → ATm → Type 0
TypedTerm p k g (Let x e) = TypedDecl p k g x × TypedTerm p (more_vars x k) (declared p g x) e
TypedTerm p k g (Call v ts vs) =
    (s : ATy) × (us : ATys) × Has p k g v s × ABelow-types k ts × (aapply s ts ≡ Some (ACode 0 us))
    × All-have p k g vs us
TypedTerm p k g (If0 v a b) = Has p k g v AInt × TypedTerm p k g a × TypedTerm p k g b
TypedTerm p k g (Halt v) = Has p k g v AInt

abbrev pub types_of : ATys → List ATy → List ATy
types_of NoATys g = g
types_of (MoreATys t ts) g = types_of ts (t ∷ g)

-- blocks under the types that they owe and their arguments
abbrev pub TypedBlocks : AProg → List ABlk → Type 0
TypedBlocks p [] = Unit {0}
TypedBlocks p (b ∷ bs) = (ABelow-types b.owes b.args × TypedTerm p b.owes (types_of b.args []) b.body) × TypedBlocks p
    bs

-- no pack in it
abbrev pub Unpacked : AVal → Type 0
Unpacked (Apply v ts) = Unpacked v
Unpacked (Pack h v s) = ⊥
Unpacked _ = Unit {0}

-- no pack inside a pack
abbrev pub Flat : AVal → Type 0
Flat (Apply v ts) = Flat v
Flat (Pack h v s) = Unpacked v
Flat _ = Unit {0}

-- a data tuple's values are typed where neither variables nor type variables are in scope
abbrev pub TypedConst : AProg → AConst → Type 0
TypedConst p c = Has p 0 [] c.value c.kind × ABelow 0 c.kind × Flat c.value

abbrev pub TypedData : AProg → AConsts → Type 0
TypedData p [] = Unit {0}
TypedData p (c ∷ cs) = TypedConst p c × TypedData p cs

abbrev pub TypedTuples : AProg → List AConsts → Type 0
TypedTuples p [] = Unit {0}
TypedTuples p (x ∷ xs) = TypedData p x × TypedTuples p xs

pub record TypedProgram (p : AProg) (main : ATm) : Type 0 where
  pub blocks : TypedBlocks p p.blocks
  pub tuples : TypedTuples p p.tuples
  pub main_ok : TypedTerm p 0 [] main
