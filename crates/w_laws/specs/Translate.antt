-- The translation as a function: code, and the blocks that are made beside it. Of these the first has the label `next`.
use Rattle.std.specs.Prelude.{ℕ, suc, ◌+◌, ◌*◌, ◌<◌, ◌^◌, List, [], ◌∷◌, ◌++◌, length}
use Rattle.std.specs.Prelude.{FitsSigned}
use Rattle.std.specs.Int.{cast_unsigned, w64}
use Rattle.t_terms.specs.Tree.{TBase, Reg, Int, Label, Data, TProg}
use Rattle.t_rules.specs.Erase.{EInstr, EArith, EBnz, ELd, EMalloc, EMov, ESt, ESeq, EThen, EJmp, EHalt, erase_blocks}
use Rattle.t_rules.specs.Erase.{erase_heap}
use Rattle.w_terms.specs.Tree.{WInstr, WConst, WMove, WPlace, WArith, WLoad, WStore, WBranch, WSeq, WThen, WJump, WGoto}
use Rattle.w_terms.specs.Tree.{WProg}
use Rattle.w_terms.specs.declared.instr.WCond.TheVariants as C
use Rattle.w_terms.specs.declared.instr.WOperand.{WOperand}
use Rattle.w_terms.specs.declared.instr.WOperand.TheVariants as V
use Rattle.w_terms.specs.declared.program.WDatum.{WDatum}
use Rattle.w_rooms.specs.Numbers.{reg, entry, temp_reg, halt_label}
use Rattle.w_laws.specs.Code.{word_op_of, taken, asked, data_at, data_words, own_words}

pub record Code : Type 0 where
  pub seq : WSeq
  pub more : List WSeq

abbrev pub before : WInstr → Code → Code
before i c = record { seq = WThen i c.seq; more = c.more }

abbrev pub operand_of : TBase → WOperand
operand_of (Reg q) = V.Reg (reg q)
operand_of (Int i) = V.Num (cast_unsigned w64 i)
operand_of (Label l) = V.Num 0
operand_of (Data d) = V.Num 0

abbrev pub move_of : (ℕ → ℕ) → ℕ → TBase → WInstr
move_of at rd (Reg q) = WMove (reg rd) (reg q)
move_of at rd (Int i) = WConst (reg rd) (cast_unsigned w64 i)
move_of at rd (Label l) = WPlace (reg rd) (entry l)
move_of at rd (Data d) = WConst (reg rd) (at d)

abbrev pub jump_of : TBase → WSeq
jump_of (Reg q) = WGoto (reg q)
jump_of (Label l) = WJump (entry l)
jump_of (Int i) = WJump halt_label
jump_of (Data d) = WJump halt_label

-- a branch where register q is not 0
abbrev pub choice : ℕ → TBase → ℕ → Code → Code
choice q (Label l) next c = before (WBranch C.Differ (reg q) (V.Num 0) (entry l)) c
choice q (Reg r) next c = record {
  seq = WThen (WBranch C.Equal (reg q) (V.Num 0) next) (WGoto (reg r));
  more = c.seq ∷ c.more;
}
choice q (Int i) next c = before (WConst temp_reg 0) c
choice q (Data d) next c = before (WConst temp_reg 0) c

abbrev pub tuple : ℕ → ℕ → ℕ → Code → Code
tuple rd n next c = record { seq = asked next n; more = taken rd n c.seq ∷ c.more }

-- an instruction in front of code; at has the addresses of the data tuples
abbrev pub stepped : (ℕ → ℕ) → ℕ → EInstr → Code → Code
stepped at next (EArith op rd rs b) c = before (WArith (word_op_of op) (reg rd) (reg rs) (operand_of b)) c
stepped at next (EBnz q b) c = choice q b next c
stepped at next (ELd rd rs i) c = before (WLoad (reg rd) (reg rs) (8 * i)) c
stepped at next (EMalloc rd n) c = tuple rd n next c
stepped at next (EMov rd b) c = before (move_of at rd b) c
stepped at next (ESt rd i rs) c = before (WStore (reg rd) (8 * i) (reg rs)) c

-- the label of the next block that is made beside the code, behind the instruction
abbrev pub after_choice : TBase → ℕ → ℕ
after_choice (Reg r) next = suc next
after_choice (Int i) next = next
after_choice (Label l) next = next
after_choice (Data d) next = next

abbrev pub after_instr : EInstr → ℕ → ℕ
after_instr (EBnz q b) next = after_choice b next
after_instr (EMalloc rd n) next = suc next
after_instr (EArith op rd rs b) next = next
after_instr (ELd rd rs i) next = next
after_instr (EMov rd b) next = next
after_instr (ESt rd i rs) next = next

-- a sequence
abbrev pub code_of : (ℕ → ℕ) → ℕ → ESeq → Code
code_of at next (EThen i e) = stepped at next i (code_of at (after_instr i next) e)
code_of at next (EJmp b) = record { seq = jump_of b; more = [] }
code_of at next EHalt = record { seq = WJump halt_label; more = [] }

-- the blocks of a program, and those that are made beside them
pub record Codes : Type 0 where
  pub firsts : List WSeq
  pub rest : List WSeq

abbrev pub joined : Code → Codes → Codes
joined c cs = record { firsts = c.seq ∷ cs.firsts; rest = c.more ++ cs.rest }

abbrev pub codes_of : (ℕ → ℕ) → ℕ → List ESeq → Codes
codes_of at next [] = record { firsts = []; rest = [] }
codes_of at next (e ∷ es) =
    joined (code_of at next e) (codes_of at (next + length (code_of at next e).more) es)

-- the blocks of the word code, behind those of the runtime
abbrev pub blocks_of : (ℕ → ℕ) → List WSeq → List ESeq → List WSeq
blocks_of at runtime es =
    runtime ++ ((codes_of at (entry (length es)) es).firsts ++ (codes_of at (entry (length es)) es).rest)

-- The word code of a program that writes no register but the first `many` ones, with the runtime's blocks and words,
-- where its memory is of so many words from base on.
abbrev pub translated : ℕ → ℕ → ℕ → List WSeq → List WDatum → TProg → WProg
translated base size many runtime own P = record {
  blocks = blocks_of (data_at (base + 8 * own_words many) (erase_heap P)) runtime (erase_blocks P);
  base = base;
  image = own ++ data_words (data_at (base + 8 * own_words many) (erase_heap P)) (erase_heap P);
  size = size;
}

-- What can be translated: integers have 64 bits, data that are named are there, a tuple has fewer than 2 ^ 31 fields,
-- and no register is written but the first `many` ones.
abbrev pub BaseFine : ℕ → TBase → Type 0
BaseFine fixed (Int i) = FitsSigned w64 i
BaseFine fixed (Data d) = d < fixed
BaseFine fixed (Reg q) = Unit {0}
BaseFine fixed (Label l) = Unit {0}

abbrev pub Fine : ℕ → ℕ → ESeq → Type 0
Fine fixed many (EThen (EArith op rd rs b) e) = (rd < many) × BaseFine fixed b × Fine fixed many e
Fine fixed many (EThen (EMov rd b) e) = (rd < many) × BaseFine fixed b × Fine fixed many e
Fine fixed many (EThen (EMalloc rd n) e) = (rd < many) × (n < 2 ^ 31) × Fine fixed many e
Fine fixed many (EThen (ELd rd rs i) e) = (rd < many) × Fine fixed many e
Fine fixed many (EThen (EBnz q b) e) = Fine fixed many e
Fine fixed many (EThen (ESt rd i rs) e) = Fine fixed many e
Fine fixed many (EJmp b) = Unit {0}
Fine fixed many EHalt = Unit {0}

abbrev pub AllFine : ℕ → ℕ → List ESeq → Type 0
AllFine fixed many [] = Unit {0}
AllFine fixed many (e ∷ es) = Fine fixed many e × AllFine fixed many es

-- What is asked of programs of the code: each tuple that is made has fewer than 2 ^ 31 fields, and no register is
-- written but the first `many` ones.
abbrev pub Small : ℕ → ESeq → Type 0
Small many (EThen (EMalloc rd n) e) = (rd < many) × (n < 2 ^ 31) × Small many e
Small many (EThen (EArith op rd rs b) e) = (rd < many) × Small many e
Small many (EThen (EMov rd b) e) = (rd < many) × Small many e
Small many (EThen (ELd rd rs i) e) = (rd < many) × Small many e
Small many (EThen (EBnz q b) e) = Small many e
Small many (EThen (ESt rd i rs) e) = Small many e
Small many (EJmp b) = Unit {0}
Small many EHalt = Unit {0}

abbrev pub AllSmall : ℕ → List ESeq → Type 0
AllSmall many [] = Unit {0}
AllSmall many (e ∷ es) = Small many e × AllSmall many es
