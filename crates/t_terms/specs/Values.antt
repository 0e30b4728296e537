-- Each value of a program has a property: those of instructions and ends, and those of data.
use Rattle.std.specs.Prelude.{List, [], ◌∷◌}
use Rattle.t_terms.specs.Tree.{TValue, TInstr, Arith, Bnz, Mov, Unpack, TEnd, Jmp, Halt, TSeq, Then, Ends, TBlock}
use Rattle.t_terms.specs.Tree.{TData, TProg}

abbrev pub InstrValues : (TValue → Type 0) → TInstr → Type 0
InstrValues S (Arith op rd rs v) = S v
InstrValues S (Bnz r v) = S v
InstrValues S (Mov rd v) = S v
InstrValues S (Unpack rd v) = S v
InstrValues S _ = Unit {0}

abbrev pub EndValues : (TValue → Type 0) → TEnd → Type 0
EndValues S (Jmp v) = S v
EndValues S Halt = Unit {0}

abbrev pub SeqValues : (TValue → Type 0) → TSeq → Type 0
SeqValues S (Then i rest) = InstrValues S i × SeqValues S rest
SeqValues S (Ends e) = EndValues S e

abbrev pub BlocksValues : (TValue → Type 0) → List TBlock → Type 0
BlocksValues S [] = Unit {0}
BlocksValues S (b ∷ bs) = SeqValues S b.code × BlocksValues S bs

abbrev pub DataValues : (TValue → Type 0) → TData → Type 0
DataValues S [] = Unit {0}
DataValues S (x ∷ xs) = S x.value × DataValues S xs

abbrev pub HeapValues : (TValue → Type 0) → List TData → Type 0
HeapValues S [] = Unit {0}
HeapValues S (x ∷ xs) = DataValues S x × HeapValues S xs

abbrev pub ProgramValues : (TValue → Type 0) → TProg → Type 0
ProgramValues S P = BlocksValues S P.blocks × HeapValues S P.heap
