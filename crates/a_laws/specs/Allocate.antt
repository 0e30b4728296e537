-- Allocation: tuples of constants go to the data; each other tuple becomes a malloc that is filled field by field.
use Rattle.std.specs.Prelude.{pos, ℕ, suc, ◌-◌, ◌+◌, ◌&&◌, not, nat_lt, List, [], ◌∷◌, ◌++◌, Option, Some, None, Bool}
use Rattle.std.specs.Prelude.{true, false}
use Rattle.std.specs.Prelude.{map, slice_get}
use Rattle.a_terms.specs.Meaning.{pick}
use Rattle.a_terms.specs.Tree.{ABlk, AConsts, AProg, ACode, ADecl, AExists, AFields, AInt, ATm, ATuple, ATy, ATys, AVal}
use Rattle.a_terms.specs.Tree.{AVar, Apply, Arith, Call, Data, Halt, If0, Init, Lab, Let, Malloc, MoreAFields, MoreATys}
use Rattle.a_terms.specs.Tree.{NoAFields, NoATys, Num, Pack, Proj, Unpack, Value, Var, ashift}
use Rattle.a_terms.specs.Typing.{aapply, aset, body_of, field_of, or_int, types_of}
use Rattle.c_terms.specs.C.{CTy, CTys, MoreCTys, NoCTys, TCCode, TCInt, TCRef, TCExists, TCTuple, TCVar}
use Rattle.h_terms.specs.H.{HApply, HArith, HBlk, HBlks, HCall, HCell, HDecl, HGet, HHalt, HIf, HInt, HLabel, HLet}
use Rattle.h_terms.specs.H.{HName, HPack, HProj, HSet, HTm, HTuple, HUnpack, HVal, HVals, HVar, MoreHVals, NoHVals}
use Rattle.h_terms.specs.H.{block_at}

-- all fields of a tuple's type are initialised
abbrev mutual
  pub atype : CTy → ATy
  atype TCInt = AInt
  atype (TCVar i) = AVar i
  atype (TCTuple ts) = ATuple (aset (atypes ts))
  atype (TCCode n ts) = ACode n (atypes ts)
  atype (TCExists t) = AExists (atype t)
  atype (TCRef t) = ATuple (MoreAFields (atype t) true NoAFields)

  pub atypes : CTys → ATys
  atypes NoCTys = NoATys
  atypes (MoreCTys t ts) = MoreATys (atype t) (atypes ts)

-- the type of the code at a label
abbrev pub h_code : Option HBlk → ATy
h_code None = AInt
h_code (Some k) = ACode k.owes (atypes k.args)

-- the type of a value's allocation, where g are those of the variables; any type where it has none
abbrev mutual
  pub v_type : HBlks → List ATy → HVal → ATy
  v_type ks g (HVar i) = or_int (slice_get g i)
  v_type ks g (HInt n) = AInt
  v_type ks g (HLabel l) = h_code (block_at ks l)
  v_type ks g (HTuple vs) = ATuple (aset (v_types ks g vs))
  v_type ks g (HApply v ts) = or_int (aapply (v_type ks g v) (atypes ts))
  v_type ks g (HPack h v s) = atype s

  pub v_types : HBlks → List ATy → HVals → ATys
  v_types ks g NoHVals = NoATys
  v_types ks g (MoreHVals v vs) = MoreATys (v_type ks g v) (v_types ks g vs)

-- the types of the variables after a declaration
abbrev pub d_types : HBlks → List ATy → HDecl → List ATy
d_types ks g (HName v) = v_type ks g v ∷ g
d_types ks g (HProj i v) = field_of i (Some (v_type ks g v)) ∷ g
d_types ks g (HArith op v w) = AInt ∷ g
d_types ks g (HUnpack v) = body_of (Some (v_type ks g v)) ∷ map (ashift 1 0) g
d_types ks g (HCell v) = ATuple (MoreAFields (v_type ks g v) true NoAFields) ∷ g
d_types ks g (HGet v) = field_of 1 (Some (v_type ks g v)) ∷ g
d_types ks g (HSet v w) = ATuple NoAFields ∷ g

-- whether a type has no more than n free names
abbrev mutual
  pub closed : ℕ → ATy → Bool
  closed n AInt = true
  closed n (AVar i) = nat_lt i n
  closed n (ATuple fs) = fields_closed n fs
  closed n (ACode m ts) = all_closed (n + m) ts
  closed n (AExists t) = closed (n + 1) t

  pub all_closed : ℕ → ATys → Bool
  all_closed n NoATys = true
  all_closed n (MoreATys t ts) = closed n t && all_closed n ts

  pub fields_closed : ℕ → AFields → Bool
  fields_closed n NoAFields = true
  fields_closed n (MoreAFields t f fs) = closed n t && fields_closed n fs

-- what is known of a variable of the hoisted term: its level, and the value of the constant that it names
pub record Known : Type 0 where
  pub level : ℕ
  pub constant : Option AVal

abbrev pub plain : ℕ → Known
plain d = record { level = d; constant = None }

abbrev pub named : Option Known → Option AVal
named None = None
named (Some k) = k.constant

abbrev pub level_of : Option Known → Option ℕ
level_of None = None
level_of (Some k) = Some k.level

abbrev pub is_some : Option AVal → Bool
is_some None = false
is_some (Some c) = true

abbrev pub or_zero : Option AVal → AVal
or_zero None = Num (pos 0)
or_zero (Some c) = c

abbrev pub is_pack : AVal → Bool
is_pack (Apply v ts) = is_pack v
is_pack (Pack h v s) = true
is_pack _ = false

-- a pack, or a variable that names one
abbrev pub packs : List Known → HVal → Bool
packs ls (HVar i) = is_pack (or_zero (named (slice_get ls i)))
packs ls (HPack h v s) = true
packs ls _ = false

abbrev pub is_label : HVal → Bool
is_label (HLabel l) = true
is_label _ = false

-- what counts as a constant: an integer; a label, alone or applied to closed types; a variable with a constant behind
-- it; a tuple that holds only constants; a pack with closed types whose content is a constant, and neither a pack nor a
-- variable with one behind it
abbrev mutual
  pub is_const : List Known → HVal → Bool
  is_const ls (HVar i) = is_some (named (slice_get ls i))
  is_const ls (HInt n) = true
  is_const ls (HLabel l) = true
  is_const ls (HTuple vs) = are_const ls vs
  is_const ls (HApply v ts) = is_label v && all_closed 0 (atypes ts)
  is_const ls (HPack h v s) = is_const ls v && (not (packs ls v) && (closed 0 (atype h) && closed 0 (atype s)))

  pub are_const : List Known → HVals → Bool
  are_const ls NoHVals = true
  are_const ls (MoreHVals v vs) = is_const ls v && are_const ls vs

abbrev pub one_more : Bool → ℕ → ℕ
one_more true n = suc n
one_more false n = n

-- the number of the next data tuple after those of a tree, which are numbered from b on: each after those inside it
abbrev mutual
  pub n_v : List Known → ℕ → HVal → ℕ
  n_v ls b (HVar i) = b
  n_v ls b (HInt n) = b
  n_v ls b (HLabel l) = b
  n_v ls b (HTuple vs) = one_more (are_const ls vs) (n_vs ls b vs)
  n_v ls b (HApply v ts) = n_v ls b v
  n_v ls b (HPack h v s) = n_v ls b v

  pub n_vs : List Known → ℕ → HVals → ℕ
  n_vs ls b NoHVals = b
  n_vs ls b (MoreHVals v vs) = n_vs ls (n_v ls b v) vs

-- the value that stands for a constant wherever it is: a variable is written out
abbrev pub const_of : List Known → ℕ → HVal → AVal
const_of ls b (HVar i) = or_zero (named (slice_get ls i))
const_of ls b (HInt n) = Num n
const_of ls b (HLabel l) = Lab l
const_of ls b (HTuple vs) = Data (n_vs ls b vs)
const_of ls b (HApply v ts) = Apply (const_of ls b v) (atypes ts)
const_of ls b (HPack h v s) = Pack (atype h) (const_of ls b v) (atype s)

-- the data tuple of a tuple of constants
abbrev pub datum_of : HBlks → List ATy → List Known → ℕ → HVals → AConsts
datum_of ks g ls b NoHVals = []
datum_of ks g ls b (MoreHVals v vs) =
    record { value = const_of ls b v; kind = v_type ks g v } ∷ datum_of ks g ls (n_v ls b v) vs

-- the data tuples of a tree, in the order of their numbers
abbrev mutual
  pub data_v : HBlks → List ATy → List Known → ℕ → HVal → List AConsts
  data_v ks g ls b (HVar i) = []
  data_v ks g ls b (HInt n) = []
  data_v ks g ls b (HLabel l) = []
  data_v ks g ls b (HTuple vs) = data_vs ks g ls b vs ++ pick (are_const ls vs) (datum_of ks g ls b vs ∷ []) []
  data_v ks g ls b (HApply v ts) = data_v ks g ls b v
  data_v ks g ls b (HPack h v s) = data_v ks g ls b v

  pub data_vs : HBlks → List ATy → List Known → ℕ → HVals → List AConsts
  data_vs ks g ls b NoHVals = []
  data_vs ks g ls b (MoreHVals v vs) = data_v ks g ls b v ++ data_vs ks g ls (n_v ls b v) vs

abbrev pub n_d : List Known → ℕ → HDecl → ℕ
n_d ls b (HName v) = n_v ls b v
n_d ls b (HProj i v) = n_v ls b v
n_d ls b (HArith op v w) = n_v ls (n_v ls b v) w
n_d ls b (HUnpack v) = n_v ls b v
n_d ls b (HCell v) = n_v ls b v
n_d ls b (HGet v) = n_v ls b v
n_d ls b (HSet v w) = n_v ls (n_v ls b v) w

abbrev pub data_d : HBlks → List ATy → List Known → ℕ → HDecl → List AConsts
data_d ks g ls b (HName v) = data_v ks g ls b v
data_d ks g ls b (HProj i v) = data_v ks g ls b v
data_d ks g ls b (HArith op v w) = data_v ks g ls b v ++ data_v ks g ls (n_v ls b v) w
data_d ks g ls b (HUnpack v) = data_v ks g ls b v
data_d ks g ls b (HCell v) = data_v ks g ls b v
data_d ks g ls b (HGet v) = data_v ks g ls b v
data_d ks g ls b (HSet v w) = data_v ks g ls b v ++ data_v ks g ls (n_v ls b v) w

-- the level of a tuple whose malloc has level l: each initialisation names it anew
abbrev pub final : ℕ → HVals → ℕ
final l NoHVals = l
final l (MoreHVals v vs) = final (suc l) vs

-- how many variables there are after a tree's tuples, if d were there before
abbrev mutual
  pub v_next : List Known → ℕ → HVal → ℕ
  v_next ls d (HVar i) = d
  v_next ls d (HInt n) = d
  v_next ls d (HLabel l) = d
  v_next ls d (HTuple vs) = pick (are_const ls vs) d (suc (final (vs_next ls d vs) vs))
  v_next ls d (HApply v ts) = v_next ls d v
  v_next ls d (HPack h v s) = v_next ls d v

  pub vs_next : List Known → ℕ → HVals → ℕ
  vs_next ls d NoHVals = d
  vs_next ls d (MoreHVals v vs) = vs_next ls (v_next ls d v) vs

-- a cell's malloc and an assignment's initialisation name one more
abbrev pub d_next : List Known → ℕ → HDecl → ℕ
d_next ls d (HName v) = v_next ls d v
d_next ls d (HProj i v) = v_next ls d v
d_next ls d (HArith op v w) = v_next ls (v_next ls d v) w
d_next ls d (HUnpack v) = v_next ls d v
d_next ls d (HCell v) = suc (v_next ls d v)
d_next ls d (HGet v) = v_next ls d v
d_next ls d (HSet v w) = suc (v_next ls (v_next ls d v) w)

-- the variable of a level under d variables
abbrev pub var_of : ℕ → Option ℕ → AVal
var_of d None = Num (pos 0)
var_of d (Some l) = Var (d - suc l)

-- what is left of a value under d variables, if its tuples were made from depth e on, and its data are numbered from b
-- on
abbrev pub val : List Known → ℕ → ℕ → ℕ → HVal → AVal
val ls b e d (HVar i) = var_of d (level_of (slice_get ls i))
val ls b e d (HInt n) = Num n
val ls b e d (HLabel l) = Lab l
val ls b e d (HTuple vs) = pick (are_const ls vs) (Data (n_vs ls b vs)) (Var (d - suc (final (vs_next ls e vs) vs)))
val ls b e d (HApply v ts) = Apply (val ls b e d v) (atypes ts)
val ls b e d (HPack h v s) = Pack (atype h) (val ls b e d v) (atype s)

abbrev pub vals : List Known → ℕ → ℕ → ℕ → HVals → List AVal
vals ls b e d NoHVals = []
vals ls b e d (MoreHVals v vs) = val ls b e d v ∷ vals ls (n_v ls b v) (v_next ls e v) d vs

-- the initialisations from field i on, where the tuple has level l
abbrev pub fill : List Known → ℕ → ℕ → ℕ → ℕ → HVals → ATm → ATm
fill ls b e l i NoHVals rest = rest
fill ls b e l i (MoreHVals v vs) rest =
    Let (Init (Var 0) i (val ls b e (suc l) v)) (fill ls (n_v ls b v) (v_next ls e v) (suc l) (suc i) vs rest)

-- a tree's tuples are made, and then the rest
abbrev mutual
  pub pre_v : HBlks → List ATy → List Known → ℕ → ℕ → HVal → ATm → ATm
  pre_v ks g ls b d (HVar i) rest = rest
  pre_v ks g ls b d (HInt n) rest = rest
  pre_v ks g ls b d (HLabel l) rest = rest
  pre_v ks g ls b d (HTuple vs) rest =
      pick (are_const ls vs) rest
      (pre_vs ks g ls b d vs (Let (Malloc (v_types ks g vs)) (fill ls b d (vs_next ls d vs) 1 vs rest)))
  pre_v ks g ls b d (HApply v ts) rest = pre_v ks g ls b d v rest
  pre_v ks g ls b d (HPack h v s) rest = pre_v ks g ls b d v rest

  pub pre_vs : HBlks → List ATy → List Known → ℕ → ℕ → HVals → ATm → ATm
  pre_vs ks g ls b d NoHVals rest = rest
  pre_vs ks g ls b d (MoreHVals v vs) rest =
      pre_v ks g ls b d v (pre_vs ks g ls (n_v ls b v) (v_next ls d v) vs rest)

abbrev pub pre_d : HBlks → List ATy → List Known → ℕ → ℕ → HDecl → ATm → ATm
pre_d ks g ls b d (HName v) rest = pre_v ks g ls b d v rest
pre_d ks g ls b d (HProj i v) rest = pre_v ks g ls b d v rest
pre_d ks g ls b d (HArith op v w) rest = pre_v ks g ls b d v (pre_v ks g ls (n_v ls b v) (v_next ls d v) w rest)
pre_d ks g ls b d (HUnpack v) rest = pre_v ks g ls b d v rest
pre_d ks g ls b d (HCell v) rest = pre_v ks g ls b d v (Let (Malloc (MoreATys (v_type ks g v) NoATys)) rest)
pre_d ks g ls b d (HGet v) rest = pre_v ks g ls b d v rest
pre_d ks g ls b d (HSet v w) rest =
    let d1 = v_next ls d v in
    let d2 = v_next ls d1 w in
    let set = Init (val ls b d d2 v) 1 (val ls (n_v ls b v) d1 d2 w) in
    pre_v ks g ls b d v (pre_v ks g ls (n_v ls b v) d1 w (Let set rest))

abbrev pub dcl : List Known → ℕ → ℕ → HDecl → ADecl
dcl ls b d (HName v) = Value (val ls b d (v_next ls d v) v)
dcl ls b d (HProj i v) = Proj i (val ls b d (v_next ls d v) v)
dcl ls b d (HArith op v w) =
    let d1 = v_next ls d v in
    let d2 = v_next ls d1 w in
    Arith op (val ls b d d2 v) (val ls (n_v ls b v) d1 d2 w)
dcl ls b d (HUnpack v) = Unpack (val ls b d (v_next ls d v) v)
dcl ls b d (HCell v) = Init (Var 0) 1 (val ls b d (suc (v_next ls d v)) v)
dcl ls b d (HGet v) = Proj 1 (val ls b d (v_next ls d v) v)
dcl ls b d (HSet v w) = Malloc NoATys

-- the constant that a declaration names
abbrev pub d_const : List Known → ℕ → HDecl → Option AVal
d_const ls b (HName v) = pick (is_const ls v) (Some (const_of ls b v)) None
d_const ls b _ = None

abbrev pub known_of : List Known → ℕ → ℕ → HDecl → Known
known_of ls b d e = record { level = d_next ls d e; constant = d_const ls b e }

-- the number of the next data tuple after those of a term
abbrev pub n_t : List Known → ℕ → ℕ → HTm → ℕ
n_t ls b d (HLet e t) = n_t (known_of ls b d e ∷ ls) (n_d ls b e) (suc (d_next ls d e)) t
n_t ls b d (HCall f ts vs) = n_vs ls (n_v ls b f) vs
n_t ls b d (HIf v t u) = n_t ls (n_t ls (n_v ls b v) (v_next ls d v) t) (v_next ls d v) u
n_t ls b d (HHalt v) = n_v ls b v

abbrev pub data_t : HBlks → List ATy → List Known → ℕ → ℕ → HTm → List AConsts
data_t ks g ls b d (HLet e t) =
    data_d ks g ls b e ++ data_t ks (d_types ks g e) (known_of ls b d e ∷ ls) (n_d ls b e) (suc (d_next ls d e)) t
data_t ks g ls b d (HCall f ts vs) = data_v ks g ls b f ++ data_vs ks g ls (n_v ls b f) vs
data_t ks g ls b d (HIf v t u) =
    let b1 = n_v ls b v in
    let d1 = v_next ls d v in
    data_v ks g ls b v ++ (data_t ks g ls b1 d1 t ++ data_t ks g ls (n_t ls b1 d1 t) d1 u)
data_t ks g ls b d (HHalt v) = data_v ks g ls b v

abbrev pub alloc_t : HBlks → List ATy → List Known → ℕ → ℕ → HTm → ATm
alloc_t ks g ls b d (HLet e t) =
    pre_d ks g ls b d e (Let (dcl ls b d e)
    (alloc_t ks (d_types ks g e) (known_of ls b d e ∷ ls) (n_d ls b e) (suc (d_next ls d e)) t))
alloc_t ks g ls b d (HCall f ts vs) =
    let b1 = n_v ls b f in
    let d1 = v_next ls d f in
    let d2 = vs_next ls d1 vs in
    pre_v ks g ls b d f (pre_vs ks g ls b1 d1 vs (Call (val ls b d d2 f) (atypes ts) (vals ls b1 d1 d2 vs)))
alloc_t ks g ls b d (HIf v t u) =
    let b1 = n_v ls b v in
    let d1 = v_next ls d v in
    pre_v ks g ls b d v (If0 (val ls b d d1 v) (alloc_t ks g ls b1 d1 t) (alloc_t ks g ls (n_t ls b1 d1 t) d1 u))
alloc_t ks g ls b d (HHalt v) = pre_v ks g ls b d v (Halt (val ls b d (v_next ls d v) v))

-- the arguments have the first levels, and none names a constant
abbrev pub arg_depth : ℕ → CTys → ℕ
arg_depth d NoCTys = d
arg_depth d (MoreCTys t ts) = arg_depth (suc d) ts

abbrev pub arg_levels : ℕ → List Known → CTys → List Known
arg_levels d ls NoCTys = ls
arg_levels d ls (MoreCTys t ts) = arg_levels (suc d) (plain d ∷ ls) ts

abbrev pub alloc_block : HBlks → ℕ → HBlk → ABlk
alloc_block ks b k = record {
  owes = k.owes;
  args = atypes k.args;
  body = alloc_t ks (types_of (atypes k.args) []) (arg_levels 0 [] k.args) b (arg_depth 0 k.args) k.body;
}

abbrev pub n_block : ℕ → HBlk → ℕ
n_block b k = n_t (arg_levels 0 [] k.args) b (arg_depth 0 k.args) k.body

abbrev pub data_block : HBlks → ℕ → HBlk → List AConsts
data_block ks b k = data_t ks (types_of (atypes k.args) []) (arg_levels 0 [] k.args) b (arg_depth 0 k.args) k.body

abbrev pub alloc_all : HBlks → ℕ → HBlks → List ABlk
alloc_all ks b [] = []
alloc_all ks b (x ∷ xs) = alloc_block ks b x ∷ alloc_all ks (n_block b x) xs

abbrev pub n_all : ℕ → HBlks → ℕ
n_all b [] = b
n_all b (x ∷ xs) = n_all (n_block b x) xs

abbrev pub data_all : HBlks → ℕ → HBlks → List AConsts
data_all ks b [] = []
data_all ks b (x ∷ xs) = data_block ks b x ++ data_all ks (n_block b x) xs

-- a whole program: the data of the blocks, block after block, and then those of the main term
abbrev pub alloc_main : HBlks → HTm → ATm
alloc_main ks t = alloc_t ks [] [] (n_all 0 ks) 0 t

abbrev pub alloc_data : HBlks → HTm → List AConsts
alloc_data ks t = data_all ks 0 ks ++ data_t ks [] [] (n_all 0 ks) 0 t

abbrev pub alloc_prog : HBlks → HTm → AProg
alloc_prog ks t = record { blocks = alloc_all ks 0 ks; tuples = alloc_data ks t }
