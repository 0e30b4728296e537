-- The reach of a program: the greatest reach of a type that is written in it, or that its typing gives to a value or to
-- a register.
use Rattle.std.specs.Prelude.{ℕ, max, List, [], ◌∷◌}
use Rattle.t_types.specs.Tree.{TFile, NoRegs}
use Rattle.t_terms.specs.Tree.{TValue, Plain, Pack, TInstr, Arith, Bnz, Ld, Malloc, Mov, St, Unpack, Jmp, Halt, TSeq}
use Rattle.t_terms.specs.Tree.{Then, Ends, TBlock, TDatum, TData, TProg}
use Rattle.t_terms.specs.Reach.{type_reach, regs_reach, types_reach}
use Rattle.t_spill_rules.specs.Spill.{type_of, next}

-- the types that are written in a value
abbrev pub value_reach : TValue → ℕ
value_reach (Plain b ts) = types_reach ts
value_reach (Pack t v s) = max (type_reach t) (max (value_reach v) (type_reach s))

-- the types that are written in an instruction, or that its typing gives to its value
abbrev pub instr_reach : TProg → TFile → TInstr → ℕ
instr_reach P x (Arith op rd rs v) = max (value_reach v) (type_reach (type_of P x v))
instr_reach P x (Bnz r v) = max (value_reach v) (type_reach (type_of P x v))
instr_reach P x (Ld rd rs i) = 0
instr_reach P x (Malloc rd ts) = types_reach ts
instr_reach P x (Mov rd v) = max (value_reach v) (type_reach (type_of P x v))
instr_reach P x (St rd i rs) = 0
instr_reach P x (Unpack rd v) = max (value_reach v) (type_reach (type_of P x v))

-- and those of the registers after it
abbrev pub seq_reach : TProg → TFile → TSeq → ℕ
seq_reach P x (Then i rest) = max (instr_reach P x i) (max (regs_reach (next P x i)) (seq_reach P (next P x i) rest))
seq_reach P x (Ends (Jmp v)) = max (value_reach v) (type_reach (type_of P x v))
seq_reach P x (Ends Halt) = 0

abbrev pub blocks_reach : TProg → List TBlock → ℕ
blocks_reach P [] = 0
blocks_reach P (b ∷ bs) = max (max (regs_reach b.file) (seq_reach P b.file b.code)) (blocks_reach P bs)

-- those of data: written in values, given to them, and written for fields
abbrev pub datum_reach : TProg → TDatum → ℕ
datum_reach P x = max (value_reach x.value) (max (type_reach (type_of P NoRegs x.value)) (type_reach x.ty))

abbrev pub data_reach : TProg → TData → ℕ
data_reach P [] = 0
data_reach P (x ∷ xs) = max (datum_reach P x) (data_reach P xs)

abbrev pub heap_reach : TProg → List TData → ℕ
heap_reach P [] = 0
heap_reach P (x ∷ xs) = max (data_reach P x) (heap_reach P xs)

abbrev pub reach : TProg → ℕ
reach P = max (blocks_reach P P.blocks) (heap_reach P P.heap)
