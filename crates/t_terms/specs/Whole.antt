-- The invariant of programs.
use Rattle.std.specs.Prelude.{ℕ, ◌<◌, ◌≤◌, ℤ, pos, negsuc, List, [], ◌∷◌, length}
use Rattle.std.specs.Coded.{le_prop, Unit-prop}
use Rattle.t_types.specs.WellFormed.{max_number, max_names, IsRegister, WellFormed, WellFormedFile, WellFormedTypes}
use Rattle.t_types.specs.WellFormed.{well_formed_prop, regs_above_prop, types_prop}
use Rattle.t_terms.specs.Tree.{TBase, Reg, Int, Label, Data, TValue, Plain, Pack, TInstr, Arith, Bnz, Ld, Malloc, Mov}
use Rattle.t_terms.specs.Tree.{St, Unpack, TEnd, Jmp, Halt, TSeq, Then, Ends, TBlock, TDatum, TData, TProg, names_after}
use Rattle.t_terms.specs.Values.{InstrValues, SeqValues, BlocksValues, DataValues, HeapValues, ProgramValues}

-- in a program of p blocks and q data tuples, under n type names: labels, registers, fields and type indices are in
-- range
abbrev pub WellFormedBase : ℕ → ℕ → TBase → Type 0
WellFormedBase p q (Reg r) = IsRegister r
WellFormedBase p q (Int i) = Unit {0}
WellFormedBase p q (Label l) = l < p
WellFormedBase p q (Data d) = d < q

abbrev pub WellFormedValue : ℕ → ℕ → ℕ → TValue → Type 0
WellFormedValue p q n (Plain b ts) = WellFormedBase p q b × WellFormedTypes n ts
WellFormedValue p q n (Pack t v s) = WellFormed n t × WellFormedValue p q n v × WellFormed n s

abbrev pub WellFormedInstr : ℕ → ℕ → ℕ → TInstr → Type 0
WellFormedInstr p q n (Arith op rd rs v) = IsRegister rd × IsRegister rs × WellFormedValue p q n v
WellFormedInstr p q n (Bnz r v) = IsRegister r × WellFormedValue p q n v
WellFormedInstr p q n (Ld rd rs i) = IsRegister rd × IsRegister rs × (i ≤ max_number)
WellFormedInstr p q n (Malloc rd ts) = IsRegister rd × WellFormedTypes n ts
WellFormedInstr p q n (Mov rd v) = IsRegister rd × WellFormedValue p q n v
WellFormedInstr p q n (St rd i rs) = IsRegister rd × (i ≤ max_number) × IsRegister rs
WellFormedInstr p q n (Unpack rd v) = IsRegister rd × WellFormedValue p q n v

abbrev pub WellFormedEnd : ℕ → ℕ → ℕ → TEnd → Type 0
WellFormedEnd p q n (Jmp v) = WellFormedValue p q n v
WellFormedEnd p q n Halt = Unit {0}

-- not too many type names are bound around a place
abbrev pub WellFormedSeq : ℕ → ℕ → ℕ → TSeq → Type 0
WellFormedSeq p q n (Then i rest) =
    WellFormedInstr p q n i × (names_after i n ≤ max_names) × WellFormedSeq p q (names_after i n) rest
WellFormedSeq p q n (Ends e) = WellFormedEnd p q n e

abbrev pub WellFormedBlock : ℕ → ℕ → TBlock → Type 0
WellFormedBlock p q b = (b.owes ≤ max_names) × WellFormedFile b.owes b.file × WellFormedSeq p q b.owes b.code

abbrev pub WellFormedBlocks : ℕ → ℕ → List TBlock → Type 0
WellFormedBlocks p q [] = Unit {0}
WellFormedBlocks p q (b ∷ bs) = WellFormedBlock p q b × WellFormedBlocks p q bs

-- the value names no register
abbrev pub HasNoRegister : TValue → Type 0
HasNoRegister (Plain (Reg r) ts) = ⊥
HasNoRegister (Pack t v s) = HasNoRegister v
HasNoRegister _ = Unit {0}

-- a field of a data tuple: a closed type, and a value under no type names that names no register
abbrev pub WellFormedDatum : ℕ → ℕ → TDatum → Type 0
WellFormedDatum p q x = WellFormedValue p q 0 x.value × HasNoRegister x.value × WellFormed 0 x.ty

abbrev pub WellFormedData : ℕ → ℕ → TData → Type 0
WellFormedData p q [] = Unit {0}
WellFormedData p q (x ∷ xs) = WellFormedDatum p q x × WellFormedData p q xs

abbrev pub WellFormedHeap : ℕ → ℕ → List TData → Type 0
WellFormedHeap p q [] = Unit {0}
WellFormedHeap p q (x ∷ xs) = WellFormedData p q x × WellFormedHeap p q xs

-- the program has a block, and each block and each data tuple is well formed in it; nothing is asked of its integers
abbrev pub WellFormedProgram : TProg → Type 0
WellFormedProgram P =
    (1 ≤ length P.blocks) × WellFormedBlocks (length P.blocks) (length P.heap) P.blocks
    × WellFormedHeap (length P.blocks) (length P.heap) P.heap

-- the integer has 64 bits: it is from -(max_number + 1) to max_number
abbrev pub IntFits : ℤ → Type 0
IntFits (pos n) = n ≤ max_number
IntFits (negsuc n) = n ≤ max_number

-- so has that of a base or a value, where it is one
abbrev pub BaseFits : TBase → Type 0
BaseFits (Int i) = IntFits i
BaseFits _ = Unit {0}

abbrev pub ValueFits : TValue → Type 0
ValueFits (Plain b ts) = BaseFits b
ValueFits (Pack t v s) = ValueFits v

-- The invariant: the program is well formed, and its integers have 64 bits. Typing and meaning hold of a well-formed
-- program with any integers.
abbrev pub Whole : TProg → Type 0
Whole P = WellFormedProgram P × ProgramValues ValueFits P

-- there is one proof of it at most
base_prop : (p q : ℕ) (b : TBase) → IsProp (WellFormedBase p q b)
base_prop p q (Reg r) = hlevel le_prop
base_prop p q (Int i) = Unit-prop
base_prop p q (Label l) = le_prop
base_prop p q (Data d) = le_prop

value_prop : (p q n : ℕ) (v : TValue) → IsProp (WellFormedValue p q n v)
value_prop p q n (Plain b ts) = let x = base_prop p q b in let y = types_prop n ts in hlevel (x, y)
value_prop p q n (Pack t v s) = let x = well_formed_prop n t in let y = value_prop p q n v in let z =
    well_formed_prop n s in hlevel (x, y, z)

instr_prop : (p q n : ℕ) (i : TInstr) → IsProp (WellFormedInstr p q n i)
instr_prop p q n (Arith op rd rs v) = let x = value_prop p q n v in hlevel (le_prop, x)
instr_prop p q n (Bnz r v) = let x = value_prop p q n v in hlevel (le_prop, x)
instr_prop p q n (Ld rd rs i) = hlevel le_prop
instr_prop p q n (Malloc rd ts) = let x = types_prop n ts in hlevel (le_prop, x)
instr_prop p q n (Mov rd v) = let x = value_prop p q n v in hlevel (le_prop, x)
instr_prop p q n (St rd i rs) = hlevel le_prop
instr_prop p q n (Unpack rd v) = let x = value_prop p q n v in hlevel (le_prop, x)

end_prop : (p q n : ℕ) (e : TEnd) → IsProp (WellFormedEnd p q n e)
end_prop p q n (Jmp v) = value_prop p q n v
end_prop p q n Halt = Unit-prop

seq_prop : (p q n : ℕ) (c : TSeq) → IsProp (WellFormedSeq p q n c)
seq_prop p q n (Then i rest) = let x = instr_prop p q n i in let y =
    seq_prop p q (names_after i n) rest in hlevel (le_prop, x, y)
seq_prop p q n (Ends e) = end_prop p q n e

block_prop : (p q : ℕ) (b : TBlock) → IsProp (WellFormedBlock p q b)
block_prop p q b = let x = regs_above_prop 0 b.owes b.file in let y =
    seq_prop p q b.owes b.code in hlevel (le_prop, x, y)

blocks_prop : (p q : ℕ) (bs : List TBlock) → IsProp (WellFormedBlocks p q bs)
blocks_prop p q [] = Unit-prop
blocks_prop p q (b ∷ bs) = let x = block_prop p q b in let y = blocks_prop p q bs in hlevel (x, y)

no_register_prop : (v : TValue) → IsProp (HasNoRegister v)
no_register_prop (Plain (Reg r) ts) = hlevel
no_register_prop (Plain (Int i) ts) = Unit-prop
no_register_prop (Plain (Label l) ts) = Unit-prop
no_register_prop (Plain (Data d) ts) = Unit-prop
no_register_prop (Pack t v s) = no_register_prop v

datum_prop : (p q : ℕ) (x : TDatum) → IsProp (WellFormedDatum p q x)
datum_prop p q x =
    let y = value_prop p q 0 x.value in let z = no_register_prop x.value in let w =
    well_formed_prop 0 x.ty in hlevel (y, z, w)

data_prop : (p q : ℕ) (xs : TData) → IsProp (WellFormedData p q xs)
data_prop p q [] = Unit-prop
data_prop p q (x ∷ xs) = let y = datum_prop p q x in let z = data_prop p q xs in hlevel (y, z)

heap_prop : (p q : ℕ) (xs : List TData) → IsProp (WellFormedHeap p q xs)
heap_prop p q [] = Unit-prop
heap_prop p q (x ∷ xs) = let y = data_prop p q x in let z = heap_prop p q xs in hlevel (y, z)

pub program_prop : (P : TProg) → IsProp (WellFormedProgram P)
program_prop P =
    let x = blocks_prop (length P.blocks) (length P.heap) P.blocks in
    let y = heap_prop (length P.blocks) (length P.heap) P.heap in
    hlevel (le_prop, x, y)

base_fits_prop : (b : TBase) → IsProp (BaseFits b)
base_fits_prop (Int (pos n)) = le_prop
base_fits_prop (Int (negsuc n)) = le_prop
base_fits_prop (Reg r) = Unit-prop
base_fits_prop (Label l) = Unit-prop
base_fits_prop (Data d) = Unit-prop

value_fits_prop : (v : TValue) → IsProp (ValueFits v)
value_fits_prop (Plain b ts) = base_fits_prop b
value_fits_prop (Pack t v s) = value_fits_prop v

module _ (S : TValue → Type 0) (one : (v : TValue) → IsProp (S v)) where
  instr_values_prop : (i : TInstr) → IsProp (InstrValues S i)
  instr_values_prop (Arith op rd rs v) = one v
  instr_values_prop (Bnz r v) = one v
  instr_values_prop (Ld rd rs i) = Unit-prop
  instr_values_prop (Malloc rd ts) = Unit-prop
  instr_values_prop (Mov rd v) = one v
  instr_values_prop (St rd i rs) = Unit-prop
  instr_values_prop (Unpack rd v) = one v

  seq_values_prop : (c : TSeq) → IsProp (SeqValues S c)
  seq_values_prop (Then i rest) = let x = instr_values_prop i in let y = seq_values_prop rest in hlevel (x, y)
  seq_values_prop (Ends (Jmp v)) = one v
  seq_values_prop (Ends Halt) = Unit-prop

  blocks_values_prop : (bs : List TBlock) → IsProp (BlocksValues S bs)
  blocks_values_prop [] = Unit-prop
  blocks_values_prop (b ∷ bs) = let x = seq_values_prop b.code in let y = blocks_values_prop bs in hlevel (x, y)

  data_values_prop : (xs : TData) → IsProp (DataValues S xs)
  data_values_prop [] = Unit-prop
  data_values_prop (x ∷ xs) = let y = one x.value in let z = data_values_prop xs in hlevel (y, z)

  heap_values_prop : (xs : List TData) → IsProp (HeapValues S xs)
  heap_values_prop [] = Unit-prop
  heap_values_prop (x ∷ xs) = let y = data_values_prop x in let z = heap_values_prop xs in hlevel (y, z)

  program_values_prop : (P : TProg) → IsProp (ProgramValues S P)
  program_values_prop P = let x = blocks_values_prop P.blocks in let y = heap_values_prop P.heap in hlevel (x, y)

pub whole_prop : (P : TProg) → IsProp (Whole P)
whole_prop P = let x = program_prop P in let y = program_values_prop ValueFits value_fits_prop P in hlevel (x, y)
