-- How many constructs are open at once in the text of a program, whatever text stands for it: brackets `<`, `[` and `{`
-- up to their closing ones, and `some` up to the end of its type.
use Rattle.std.specs.Prelude.{ℕ, ◌+◌, max, List, [], ◌∷◌}
use Rattle.t_types.specs.Tree.{Ty, IntTy, VarTy, CodeTy, ExistsTy, TupleTy, TFile, NoRegs, MoreRegs, TFields, NoFields}
use Rattle.t_types.specs.Tree.{MoreFields}
use Rattle.t_terms.specs.Tree.{TValue, Plain, Pack, TInstr, Arith, Bnz, Ld, Malloc, Mov, St, Unpack, TEnd, Jmp, Halt}
use Rattle.t_terms.specs.Tree.{TSeq, Then, Ends, TBlock, TDatum, TData, TProg}

abbrev mutual
  pub type_nesting : Ty → ℕ
  type_nesting IntTy = 0
  type_nesting (VarTy i) = 0
  -- the brackets around its names, or the braces of its file
  type_nesting (CodeTy owes file) = 1 + regs_nesting file
  type_nesting (ExistsTy t) = 1 + type_nesting t
  type_nesting (TupleTy fields) = 1 + fields_nesting fields

  pub regs_nesting : TFile → ℕ
  regs_nesting NoRegs = 0
  regs_nesting (MoreRegs r t file) = max (type_nesting t) (regs_nesting file)

  pub fields_nesting : TFields → ℕ
  fields_nesting NoFields = 0
  fields_nesting (MoreFields t flag fields) = max (type_nesting t) (fields_nesting fields)

abbrev pub types_nesting : List Ty → ℕ
types_nesting [] = 0
types_nesting (t ∷ ts) = max (type_nesting t) (types_nesting ts)

abbrev pub value_nesting : TValue → ℕ
value_nesting (Plain b []) = 0
value_nesting (Plain b (t ∷ ts)) = 1 + types_nesting (t ∷ ts)
-- the hidden type and the value stand in brackets, and the type of the package after them
value_nesting (Pack t v s) = max (1 + max (type_nesting t) (value_nesting v)) (type_nesting s)

abbrev pub instr_nesting : TInstr → ℕ
instr_nesting (Arith op rd rs v) = value_nesting v
instr_nesting (Bnz r v) = value_nesting v
instr_nesting (Ld rd rs i) = 1
instr_nesting (Malloc rd ts) = 1 + types_nesting ts
instr_nesting (Mov rd v) = value_nesting v
instr_nesting (St rd i rs) = 1
instr_nesting (Unpack rd v) = max 1 (value_nesting v)

abbrev pub end_nesting : TEnd → ℕ
end_nesting (Jmp v) = value_nesting v
end_nesting Halt = 1

abbrev pub seq_nesting : TSeq → ℕ
seq_nesting (Then i rest) = max (instr_nesting i) (seq_nesting rest)
seq_nesting (Ends e) = end_nesting e

abbrev pub block_nesting : TBlock → ℕ
block_nesting b = max (1 + regs_nesting b.file) (seq_nesting b.code)

abbrev pub blocks_nesting : List TBlock → ℕ
blocks_nesting [] = 0
blocks_nesting (b ∷ bs) = max (block_nesting b) (blocks_nesting bs)

abbrev pub datum_nesting : TDatum → ℕ
datum_nesting x = max (value_nesting x.value) (type_nesting x.ty)

abbrev pub data_nesting : TData → ℕ
data_nesting [] = 0
data_nesting (x ∷ xs) = max (datum_nesting x) (data_nesting xs)

-- a data tuple stands in angle brackets
abbrev pub heap_nesting : List TData → ℕ
heap_nesting [] = 0
heap_nesting (x ∷ xs) = max (1 + data_nesting x) (heap_nesting xs)

abbrev pub nesting : TProg → ℕ
nesting P = max (blocks_nesting P.blocks) (heap_nesting P.heap)

-- how many constructs may be open at a token of a text
abbrev pub most_open : ℕ
most_open = 2000
