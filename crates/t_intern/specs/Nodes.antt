-- Types by the numbers of their parts, and the types that such a list stands for.
use Rattle.std.specs.Prelude.{ℕ, ◌<◌, ◌+◌, Bool, List, [], ◌∷◌, ◌++◌, slice_index_or}
use Rattle.t_types.specs.Tree.{Ty, IntTy, VarTy, CodeTy, ExistsTy, TupleTy}
use Rattle.t_types.specs.Tree.{TFile, NoRegs, MoreRegs, TFields, NoFields, MoreFields}

pub data Node : Type 0 where
  IntNode : Node
  VarNode : (i : ℕ) → Node
  CodeNode : (owes : ℕ) (regs : List (ℕ × ℕ)) → Node
  ExistsNode : (t : ℕ) → Node
  TupleNode : (fields : List (ℕ × Bool)) → Node

-- the type of a number
abbrev pub at : List Ty → ℕ → Ty
at ts n = slice_index_or ts n IntTy

abbrev pub regs_at : List Ty → List (ℕ × ℕ) → TFile
regs_at ts [] = NoRegs
regs_at ts (x ∷ xs) = MoreRegs x.0 (at ts x.1) (regs_at ts xs)

abbrev pub fields_at : List Ty → List (ℕ × Bool) → TFields
fields_at ts [] = NoFields
fields_at ts (x ∷ xs) = MoreFields (at ts x.0) x.1 (fields_at ts xs)

-- the type whose parts have these numbers
abbrev pub type_at : List Ty → Node → Ty
type_at ts IntNode = IntTy
type_at ts (VarNode i) = VarTy i
type_at ts (CodeNode owes regs) = CodeTy owes (regs_at ts regs)
type_at ts (ExistsNode t) = ExistsTy (at ts t)
type_at ts (TupleNode fields) = TupleTy (fields_at ts fields)

-- the numbers of parts are less than n
abbrev pub RegsBelow : ℕ → List (ℕ × ℕ) → Type 0
RegsBelow n [] = Unit {0}
RegsBelow n (x ∷ xs) = (x.1 < n) × RegsBelow n xs

abbrev pub FieldsBelow : ℕ → List (ℕ × Bool) → Type 0
FieldsBelow n [] = Unit {0}
FieldsBelow n (x ∷ xs) = (x.0 < n) × FieldsBelow n xs

abbrev pub PartsBelow : ℕ → Node → Type 0
PartsBelow n IntNode = Unit {0}
PartsBelow n (VarNode i) = Unit {0}
PartsBelow n (CodeNode owes regs) = RegsBelow n regs
PartsBelow n (ExistsNode t) = t < n
PartsBelow n (TupleNode fields) = FieldsBelow n fields

-- the types of a list of nodes, after those of ts
abbrev pub types_of : List Ty → List Node → List Ty
types_of ts [] = ts
types_of ts (x ∷ xs) = types_of (ts ++ type_at ts x ∷ []) xs

-- parts before wholes, where the list stands after n others
abbrev pub PartsFirst : ℕ → List Node → Type 0
PartsFirst n [] = Unit {0}
PartsFirst n (x ∷ xs) = PartsBelow n x × PartsFirst (n + 1) xs
