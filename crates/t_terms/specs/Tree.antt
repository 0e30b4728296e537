-- Programs of the assembly language as plain trees, without places in a text, and the walks over their type variables.
use Rattle.std.specs.Prelude.{ℕ, ℤ, ◌+◌, List}
use Rattle.idx_core.specs.Over.{Over, Each, shifted, putted}
use Rattle.idx_core.specs.declared.arith.Op.{Op}
use Rattle.t_types.specs.Tree.{Ty, VarTy, TFile, over, over_file, over_types, each, each_types}

-- a register, an integer, or a label: the number of a block, or of a data tuple
pub data TBase : Type 0 where
  Reg : (r : ℕ) → TBase
  Int : (i : ℤ) → TBase
  Label : (l : ℕ) → TBase
  Data : (d : ℕ) → TBase

-- a small value: a base applied to types, or an existential package
pub data TValue : Type 0 where
  Plain : (base : TBase) (types : List Ty) → TValue
  Pack : (hidden : Ty) (inner : TValue) (shape : Ty) → TValue

pub data TInstr : Type 0 where
  Arith : (op : Op) (rd rs : ℕ) (v : TValue) → TInstr
  Bnz : (r : ℕ) (v : TValue) → TInstr
  Ld : (rd rs field : ℕ) → TInstr
  Malloc : (rd : ℕ) (types : List Ty) → TInstr
  Mov : (rd : ℕ) (v : TValue) → TInstr
  St : (rd field rs : ℕ) → TInstr
  Unpack : (rd : ℕ) (v : TValue) → TInstr

pub data TEnd : Type 0 where
  Jmp : (v : TValue) → TEnd
  Halt : TEnd

-- an instruction sequence; what follows an unpack is under one more type variable
pub data TSeq : Type 0 where
  Then : (i : TInstr) (rest : TSeq) → TSeq
  Ends : (e : TEnd) → TSeq

-- a block binds the types that it owes in its file and its sequence
pub record TBlock : Type 0 where
  pub owes : ℕ
  pub file : TFile
  pub code : TSeq

-- a field of a data tuple: its value, and the type that is written for it
pub record TDatum : Type 0 where
  pub value : TValue
  pub ty : Ty

-- a tuple that stands in the heap from the start
abbrev pub TData : Type 0
TData = List TDatum

-- a program: its blocks, and the tuples of its heap; both are numbered from 0, each by itself
pub record TProg : Type 0 where
  pub blocks : List TBlock
  pub heap : List TData

-- the number of type names in the rest after an instruction, where there are d before it
abbrev pub names_after : TInstr → ℕ → ℕ
names_after (Unpack rd v) d = d + 1
names_after _ d = d

-- the tree with each type variable i at depth d replaced by f d i
abbrev pub over_value : Over Ty TValue
over_value f d (Plain b ts) = Plain b (over_types f d ts)
over_value f d (Pack t v s) = Pack (over f d t) (over_value f d v) (over f d s)

abbrev pub over_instr : Over Ty TInstr
over_instr f d (Arith op rd rs v) = Arith op rd rs (over_value f d v)
over_instr f d (Bnz r v) = Bnz r (over_value f d v)
over_instr f d (Ld rd rs field) = Ld rd rs field
over_instr f d (Malloc rd ts) = Malloc rd (over_types f d ts)
over_instr f d (Mov rd v) = Mov rd (over_value f d v)
over_instr f d (St rd field rs) = St rd field rs
over_instr f d (Unpack rd v) = Unpack rd (over_value f d v)

abbrev pub over_end : Over Ty TEnd
over_end f d (Jmp v) = Jmp (over_value f d v)
over_end f d Halt = Halt

abbrev pub over_seq : Over Ty TSeq
over_seq f d (Then i rest) = Then (over_instr f d i) (over_seq f (names_after i d) rest)
over_seq f d (Ends e) = Ends (over_end f d e)

abbrev pub over_block : Over Ty TBlock
over_block f d b = record {
  owes = b.owes;
  file = over_file f (d + b.owes) b.file;
  code = over_seq f (d + b.owes) b.code;
}

-- each type variable i at depth d has V d i, and each depth below a binder has B d
abbrev pub each_value : Each TValue
each_value V B d (Plain b ts) = each_types V B d ts
each_value V B d (Pack t v s) = each V B d t × each_value V B d v × each V B d s

abbrev pub each_instr : Each TInstr
each_instr V B d (Arith op rd rs v) = each_value V B d v
each_instr V B d (Bnz r v) = each_value V B d v
each_instr V B d (Ld rd rs field) = Unit {0}
each_instr V B d (Malloc rd ts) = each_types V B d ts
each_instr V B d (Mov rd v) = each_value V B d v
each_instr V B d (St rd field rs) = Unit {0}
each_instr V B d (Unpack rd v) = each_value V B d v

abbrev pub each_end : Each TEnd
each_end V B d (Jmp v) = each_value V B d v
each_end V B d Halt = Unit {0}

-- k added to each free type index that is at least c
abbrev pub shift_value : ℕ → ℕ → TValue → TValue
shift_value k c = over_value (shifted VarTy k) c

abbrev pub shift_instr : ℕ → ℕ → TInstr → TInstr
shift_instr k c = over_instr (shifted VarTy k) c

abbrev pub shift_block : ℕ → ℕ → TBlock → TBlock
shift_block k c = over_block (shifted VarTy k) c

-- s for the free type index c, and each free type index above it lowered by 1
abbrev pub put_value : ℕ → Ty → TValue → TValue
put_value c s = over_value (putted VarTy over c s) c

abbrev pub put_instr : ℕ → Ty → TInstr → TInstr
put_instr c s = over_instr (putted VarTy over c s) c

abbrev pub put_end : ℕ → Ty → TEnd → TEnd
put_end c s = over_end (putted VarTy over c s) c

abbrev pub put_seq : ℕ → Ty → TSeq → TSeq
put_seq c s = over_seq (putted VarTy over c s) c

abbrev pub put_block : ℕ → Ty → TBlock → TBlock
put_block c s = over_block (putted VarTy over c s) c
