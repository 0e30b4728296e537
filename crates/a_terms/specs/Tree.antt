-- Programs of the allocated calculus as plain trees, and the walks over their type variables.
use Rattle.std.specs.Prelude.{ℕ, zero, suc, ◌+◌, ℤ, Bool, List}
use Rattle.idx_core.specs.Over.{Over, Each, shifted, putted, BelowAt, AnyDepth}
use Rattle.idx_core.specs.declared.arith.Op.{Op}

mutual
  -- a variable is the number of binders between it and its own
  pub data ATy : Type 0 where
    AInt : ATy
    AVar : (i : ℕ) → ATy
    ATuple : (fields : AFields) → ATy
    ACode : (owes : ℕ) (args : ATys) → ATy
    AExists : (t : ATy) → ATy

  pub data ATys : Type 0 where
    NoATys : ATys
    MoreATys : (t : ATy) (types : ATys) → ATys

  pub data AFields : Type 0 where
    NoAFields : AFields
    MoreAFields : (t : ATy) (flag : Bool) (fields : AFields) → AFields

pub data AVal : Type 0 where
  Var : (n : ℕ) → AVal
  Num : (i : ℤ) → AVal
  Lab : (l : ℕ) → AVal
  -- a data tuple, by its number
  Data : (n : ℕ) → AVal
  Apply : (v : AVal) (types : ATys) → AVal
  Pack : (hidden : ATy) (inner : AVal) (shape : ATy) → AVal

pub data ADecl : Type 0 where
  Value : (v : AVal) → ADecl
  -- fields of programs are numbered from 1
  Proj : (field : ℕ) (v : AVal) → ADecl
  Arith : (op : Op) (v w : AVal) → ADecl
  Unpack : (v : AVal) → ADecl
  Malloc : (types : ATys) → ADecl
  Init : (v : AVal) (field : ℕ) (w : AVal) → ADecl

pub data ATm : Type 0 where
  Let : (x : ADecl) (rest : ATm) → ATm
  Call : (v : AVal) (types : ATys) (args : List AVal) → ATm
  If0 : (v : AVal) (zero_part other : ATm) → ATm
  Halt : (v : AVal) → ATm

-- a block of code: how many types it owes, the types of its arguments, its body
pub record ABlk : Type 0 where
  pub owes : ℕ
  pub args : ATys
  pub body : ATm

-- a field of a data tuple: its value and its type
pub record AConst : Type 0 where
  pub value : AVal
  pub kind : ATy

abbrev pub AConsts : Type 0
AConsts = List AConst

-- the blocks and the data tuples of a program
pub record AProg : Type 0 where
  pub blocks : List ABlk
  pub tuples : List AConsts

abbrev pub arity : ATys → ℕ
arity NoATys = zero
arity (MoreATys t ts) = suc (arity ts)

-- the tree with each variable i at depth d replaced by f d i; code binds the types that it owes, and `some` binds one
abbrev mutual
  pub over : Over ATy ATy
  over f d AInt = AInt
  over f d (AVar i) = f d i
  over f d (ATuple fields) = ATuple (over_fields f d fields)
  over f d (ACode owes args) = ACode owes (over_types f (d + owes) args)
  over f d (AExists t) = AExists (over f (d + 1) t)

  pub over_types : Over ATy ATys
  over_types f d NoATys = NoATys
  over_types f d (MoreATys t ts) = MoreATys (over f d t) (over_types f d ts)

  pub over_fields : Over ATy AFields
  over_fields f d NoAFields = NoAFields
  over_fields f d (MoreAFields t flag fields) = MoreAFields (over f d t) flag (over_fields f d fields)

-- each variable i at depth d has V d i, and each depth below a binder has B d
abbrev mutual
  pub each : Each ATy
  each V B d AInt = Unit {0}
  each V B d (AVar i) = V d i
  each V B d (ATuple fields) = each_fields V B d fields
  each V B d (ACode owes args) = B (d + owes) × each_types V B (d + owes) args
  each V B d (AExists t) = B (d + 1) × each V B (d + 1) t

  pub each_types : Each ATys
  each_types V B d NoATys = Unit {0}
  each_types V B d (MoreATys t ts) = each V B d t × each_types V B d ts

  pub each_fields : Each AFields
  each_fields V B d NoAFields = Unit {0}
  each_fields V B d (MoreAFields t flag fields) = each V B d t × each_fields V B d fields

abbrev pub ashift : ℕ → ℕ → ATy → ATy
ashift k c = over (shifted AVar k) c

abbrev pub ashift_types : ℕ → ℕ → ATys → ATys
ashift_types k c = over_types (shifted AVar k) c

abbrev pub ashift_fields : ℕ → ℕ → AFields → AFields
ashift_fields k c = over_fields (shifted AVar k) c

abbrev pub aput : ℕ → ATy → ATy → ATy
aput c s = over (putted AVar over c s) c

abbrev pub aput_types : ℕ → ATy → ATys → ATys
aput_types c s = over_types (putted AVar over c s) c

abbrev pub aput_fields : ℕ → ATy → AFields → AFields
aput_fields c s = over_fields (putted AVar over c s) c

-- each free index is less than n
abbrev pub ABelow : ℕ → ATy → Type 0
ABelow n = each BelowAt AnyDepth n

abbrev pub ABelow-types : ℕ → ATys → Type 0
ABelow-types n = each_types BelowAt AnyDepth n

abbrev pub ABelow-fields : ℕ → AFields → Type 0
ABelow-fields n = each_fields BelowAt AnyDepth n
