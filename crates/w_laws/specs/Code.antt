-- Which word code is a translation of an erased program: the rules, instruction by instruction. Integers are their 64
-- bits, code is the address of its label, a tuple the address of its first field, behind one word with its size.
use Rattle.std.specs.Prelude.{◌≡◌, ℕ, zero, suc, ◌+◌, ◌*◌, ◌<◌, ◌^◌, List, [], ◌∷◌, ◌++◌, length, map, Some}
use Rattle.std.specs.Prelude.{slice_get}
use Rattle.std.specs.Int.{cast_unsigned, w64}
use Rattle.std.specs.Prelude.{FitsSigned}
use Rattle.idx_core.specs.declared.arith.Op.{Op}
use Rattle.idx_core.specs.declared.arith.Op.TheVariants.{Add, Sub, Mul}
use Rattle.t_terms.specs.Tree.{TBase, Reg, Int, Label, Data, TProg}
use Rattle.t_rules.specs.Erase.{EWord, EInt, EAddress, ELabel, EEmpty, EArith, EBnz, ELd, EMalloc, EMov, ESt}
use Rattle.t_rules.specs.Erase.{ESeq, EThen, EJmp, EHalt, erase_blocks, erase_heap}
use Rattle.w_terms.specs.Tree.{WInstr, WConst, WMove, WPlace, WArith, WLoad, WStore, WBranch, WSeq, WThen, WJump, WGoto}
use Rattle.w_terms.specs.Tree.{WProg}
use Rattle.w_terms.specs.declared.instr.WOp.{WOp}
use Rattle.w_terms.specs.declared.instr.WOp.TheVariants as O
use Rattle.w_terms.specs.declared.instr.WCond.TheVariants as C
use Rattle.w_terms.specs.declared.instr.WOperand.{WOperand}
use Rattle.w_terms.specs.declared.instr.WOperand.TheVariants as V
use Rattle.w_terms.specs.declared.program.WDatum.{WDatum}
use Rattle.w_terms.specs.declared.program.WDatum.TheVariants as D
use Rattle.w_rooms.specs.Numbers.{free_reg, limit_reg, need_reg, back_reg, temp_reg, reg, halt_label, room_label, entry}
use Rattle.w_rooms.specs.Numbers.{bytes}

-- where the data tuples stand: the first field of each, where the first word is at the address a
abbrev pub data_at : ℕ → List (List EWord) → ℕ → ℕ
data_at a [] d = a
data_at a (t ∷ ts) zero = a + 8
data_at a (t ∷ ts) (suc d) = data_at (a + bytes (length t)) ts d

-- the words of data, where at has the address of each tuple
abbrev pub datum : (ℕ → ℕ) → EWord → WDatum
datum at (EInt i) = D.Number (cast_unsigned w64 i)
datum at (EAddress a) = D.Number (at a)
datum at (ELabel l) = D.Label (entry l)
datum at EEmpty = D.Number 0

abbrev pub data_words : (ℕ → ℕ) → List (List EWord) → List WDatum
data_words at [] = []
data_words at (t ∷ ts) = D.Number (length t) ∷ (map (datum at) t ++ data_words at ts)

abbrev pub word_op_of : Op → WOp
word_op_of Add = O.Add
word_op_of Sub = O.Sub
word_op_of Mul = O.Mul

-- the operand of an operation; for what is no number, with which no accepted program computes, any may stand
abbrev pub IsOperand : TBase → WOperand → Type 0
IsOperand (Reg q) v = v ≡ V.Reg (reg q)
IsOperand (Int i) v = FitsSigned w64 i × (v ≡ V.Num (cast_unsigned w64 i))
IsOperand (Label l) v = Unit {0}
IsOperand (Data d) v = Unit {0}

-- a jump to a base; for what is no code, to which no accepted program jumps, any may stand
abbrev pub IsJump : TBase → WSeq → Type 0
IsJump (Reg q) c = c ≡ WGoto (reg q)
IsJump (Label l) c = c ≡ WJump (entry l)
IsJump (Int i) c = Unit {0}
IsJump (Data d) c = Unit {0}

-- The fields that a tuple of n fields has room for: one at least, so that its address is in front of its end.
abbrev pub room_for : ℕ → ℕ
room_for zero = 1
room_for (suc n) = suc n

-- the tuple of n fields that is taken from free memory, in front of k
abbrev pub taken : ℕ → ℕ → WSeq → WSeq
taken rd n k =
    WThen (WConst temp_reg n) (WThen (WStore free_reg 0 temp_reg) (WThen (WArith O.Add (reg rd) free_reg (V.Num 8))
    (WThen (WArith O.Add free_reg free_reg (V.Num (bytes (room_for n)))) k)))

-- A tuple of n fields: the block l takes it, and memory is asked for where too little is free.
abbrev pub asked : ℕ → ℕ → WSeq
asked l n =
    WThen (WArith O.Sub temp_reg limit_reg (V.Reg free_reg))
    (WThen (WBranch C.AtLeast temp_reg (V.Num (bytes (room_for n))) l)
    (WThen (WConst need_reg (bytes (room_for n))) (WThen (WPlace back_reg l) (WJump room_label))))

-- Where at has the addresses of the data tuples, of which there are so many, the program writes no register but the
-- first `many` ones, and the word code has these blocks.
module _ (at : ℕ → ℕ) (fixed many : ℕ) (blocks : List WSeq) where
  -- a base goes to a register
  abbrev pub IsMove : ℕ → TBase → WInstr → Type 0
  IsMove rd (Reg q) i = i ≡ WMove (reg rd) (reg q)
  IsMove rd (Int n) i = FitsSigned w64 n × (i ≡ WConst (reg rd) (cast_unsigned w64 n))
  IsMove rd (Label l) i = i ≡ WPlace (reg rd) (entry l)
  IsMove rd (Data d) i = (d < fixed) × (i ≡ WConst (reg rd) (at d))

  -- A branch to a base where register q is not 0, in front of k. One to the code in a register goes by a block more.
  -- To what is no code no accepted program branches.
  abbrev pub IsChoice : ℕ → TBase → WSeq → WSeq → Type 0
  IsChoice q (Label l) k c = c ≡ WThen (WBranch C.Differ (reg q) (V.Num 0) (entry l)) k
  IsChoice q (Reg r) k c =
      (n : ℕ) × (slice_get blocks n ≡ Some k)
      × (c ≡ WThen (WBranch C.Equal (reg q) (V.Num 0) n) (WGoto (reg r)))
  IsChoice q (Int i) k c = c ≡ WThen (WConst temp_reg 0) k
  IsChoice q (Data d) k c = c ≡ WThen (WConst temp_reg 0) k

  -- the word code is a translation of the erased sequence
  abbrev pub IsSeq : ESeq → WSeq → Type 0
  IsSeq (EThen (EArith op rd rs b) e) c =
      (k : WSeq) × (v : WOperand) × IsOperand b v × IsSeq e k
      × (c ≡ WThen (WArith (word_op_of op) (reg rd) (reg rs) v) k) × (rd < many)
  IsSeq (EThen (EBnz q b) e) c = (k : WSeq) × IsSeq e k × IsChoice q b k c
  IsSeq (EThen (ELd rd rs i) e) c =
      (k : WSeq) × IsSeq e k × (c ≡ WThen (WLoad (reg rd) (reg rs) (8 * i)) k) × (rd < many)
  IsSeq (EThen (EMalloc rd n) e) c =
      (k : WSeq) × (l : ℕ) × IsSeq e k × (n < 2 ^ 31) × (slice_get blocks l ≡ Some (taken rd n k)) × (c ≡ asked l n)
      × (rd < many)
  IsSeq (EThen (EMov rd b) e) c =
      (k : WSeq) × (i : WInstr) × IsMove rd b i × IsSeq e k × (c ≡ WThen i k) × (rd < many)
  IsSeq (EThen (ESt rd i rs) e) c = (k : WSeq) × IsSeq e k × (c ≡ WThen (WStore (reg rd) (8 * i) (reg rs)) k)
  IsSeq (EJmp b) c = IsJump b c
  IsSeq EHalt c = c ≡ WJump halt_label

  -- each block has its translation at its label
  abbrev pub AreBlocks : List ESeq → Type 0
  AreBlocks es = (l : ℕ) (e : ESeq) → slice_get es l ≡ Some e → (c : WSeq) × (slice_get blocks (entry l) ≡ Some c) ×
      IsSeq e c

-- The memory begins with words of the runtime: 31 that never change, one for each of so many registers, and one more.
abbrev pub still_words : ℕ
still_words = 31

abbrev pub own_words : ℕ → ℕ
own_words many = still_words + (many + 1)

-- where the data tuples of a program stand
abbrev pub places : TProg → WProg → ℕ → ℕ → ℕ
places P W many = data_at (W.base + 8 * own_words many) (erase_heap P)

-- the number of words of the data
abbrev pub data_size : List (List EWord) → ℕ
data_size [] = 0
data_size (t ∷ ts) = length t + 1 + data_size ts

-- The word code is a translation of the program, which writes no register but the first `many` ones: its blocks, and
-- its data behind the runtime's words.
pub record IsTranslation (P : TProg) (many : ℕ) (W : WProg) : Type 0 where
  pub blocks : AreBlocks (places P W many) (length P.heap) many W.blocks (erase_blocks P)
  pub own : List WDatum
  pub sized : length own ≡ own_words many
  pub image : W.image ≡ own ++ data_words (places P W many) (erase_heap P)
