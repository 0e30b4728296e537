-- Types of the assembly language as plain trees, and the walks over their variables.
use Rattle.std.specs.Prelude.{ℕ, ◌+◌, Bool, List, [], ◌∷◌, map}
use Rattle.idx_core.specs.Over.{Over, Each, shifted, putted, IsWord, ShiftFitsAt, PutFitsAt, BelowAt, AnyDepth}

mutual
  -- a variable is the number of binders between it and its own
  pub data Ty : Type 0 where
    IntTy : Ty
    VarTy : (i : ℕ) → Ty
    CodeTy : (owes : ℕ) (file : TFile) → Ty
    ExistsTy : (t : Ty) → Ty
    TupleTy : (fields : TFields) → Ty

  -- a register file type: registers and their types
  pub data TFile : Type 0 where
    NoRegs : TFile
    MoreRegs : (r : ℕ) (t : Ty) (file : TFile) → TFile

  -- the fields of a tuple: types, and flags that say which are initialised
  pub data TFields : Type 0 where
    NoFields : TFields
    MoreFields : (t : Ty) (flag : Bool) (fields : TFields) → TFields

-- the tree with each variable i at depth d replaced by f d i; code binds the types that it owes, and `some` binds one
abbrev mutual
  pub over : Over Ty Ty
  over f d IntTy = IntTy
  over f d (VarTy i) = f d i
  over f d (CodeTy owes file) = CodeTy owes (over_file f (d + owes) file)
  over f d (ExistsTy t) = ExistsTy (over f (d + 1) t)
  over f d (TupleTy fields) = TupleTy (over_fields f d fields)

  pub over_file : Over Ty TFile
  over_file f d NoRegs = NoRegs
  over_file f d (MoreRegs r t file) = MoreRegs r (over f d t) (over_file f d file)

  pub over_fields : Over Ty TFields
  over_fields f d NoFields = NoFields
  over_fields f d (MoreFields t flag fields) = MoreFields (over f d t) flag (over_fields f d fields)

-- each variable i at depth d has V d i, and each depth below a binder has B d
abbrev mutual
  pub each : Each Ty
  each V B d IntTy = Unit {0}
  each V B d (VarTy i) = V d i
  each V B d (CodeTy owes file) = B (d + owes) × each_file V B (d + owes) file
  each V B d (ExistsTy t) = B (d + 1) × each V B (d + 1) t
  each V B d (TupleTy fields) = each_fields V B d fields

  pub each_file : Each TFile
  each_file V B d NoRegs = Unit {0}
  each_file V B d (MoreRegs r t file) = each V B d t × each_file V B d file

  pub each_fields : Each TFields
  each_fields V B d NoFields = Unit {0}
  each_fields V B d (MoreFields t flag fields) = each V B d t × each_fields V B d fields

-- free indices from c on grow by k
abbrev pub shift : ℕ → ℕ → Ty → Ty
shift k c = over (shifted VarTy k) c

abbrev pub shift_file : ℕ → ℕ → TFile → TFile
shift_file k c = over_file (shifted VarTy k) c

abbrev pub shift_fields : ℕ → ℕ → TFields → TFields
shift_fields k c = over_fields (shifted VarTy k) c

-- s for the free index c, shifted by the binders that it passes, and each free index above c lowered by 1
abbrev pub put : ℕ → Ty → Ty → Ty
put c s = over (putted VarTy over c s) c

abbrev pub put_file : ℕ → Ty → TFile → TFile
put_file c s = over_file (putted VarTy over c s) c

abbrev pub put_fields : ℕ → Ty → TFields → TFields
put_fields c s = over_fields (putted VarTy over c s) c

-- the put for c where the walk stands at depth d
abbrev pub put_from : ℕ → Ty → ℕ → Ty → Ty
put_from c s = over (putted VarTy over c s)

abbrev pub put_file_from : ℕ → Ty → ℕ → TFile → TFile
put_file_from c s = over_file (putted VarTy over c s)

abbrev pub put_fields_from : ℕ → Ty → ℕ → TFields → TFields
put_fields_from c s = over_fields (putted VarTy over c s)

-- each sum that the shift, or the put at depth d, forms is a u64
abbrev pub ShiftFits : ℕ → ℕ → Ty → Type 0
ShiftFits k c = each (ShiftFitsAt k) IsWord c

abbrev pub PutFits : ℕ → Ty → ℕ → Ty → Type 0
PutFits c s d = each (PutFitsAt each c s) IsWord d

-- each free index is less than n
abbrev pub Below : ℕ → Ty → Type 0
Below n = each BelowAt AnyDepth n

abbrev pub BelowFile : ℕ → TFile → Type 0
BelowFile n = each_file BelowAt AnyDepth n

abbrev pub BelowFields : ℕ → TFields → Type 0
BelowFields n = each_fields BelowAt AnyDepth n

-- the walks over a list of types
abbrev pub over_types : Over Ty (List Ty)
over_types f d ts = map (over f d) ts

abbrev pub each_types : Each (List Ty)
each_types V B d [] = Unit {0}
each_types V B d (t ∷ ts) = each V B d t × each_types V B d ts

abbrev pub BelowTypes : ℕ → List Ty → Type 0
BelowTypes n = each_types BelowAt AnyDepth n

-- a file and fields of a list
abbrev pub regs : List (ℕ × Ty) → TFile
regs [] = NoRegs
regs (x ∷ xs) = MoreRegs x.0 x.1 (regs xs)

abbrev pub flagged : List (Ty × Bool) → TFields
flagged [] = NoFields
flagged (x ∷ xs) = MoreFields x.0 x.1 (flagged xs)
