-- Programs of word code as plain trees.
use Rattle.std.specs.Prelude.{ℕ, List}
use Rattle.w_terms.specs.declared.instr.WOp.{WOp}
use Rattle.w_terms.specs.declared.instr.WCond.{WCond}
use Rattle.w_terms.specs.declared.instr.WOperand.{WOperand}
use Rattle.w_terms.specs.declared.program.WDatum.{WDatum}

-- The fields are those of the code: a register that takes the result, a first operand, and a second one that may be a
-- word. Registers and labels count from 0; `off` is in bytes.
pub data WInstr : Type 0 where
  WConst : (rd n : ℕ) → WInstr
  WMove : (rd rs : ℕ) → WInstr
  WPlace : (rd l : ℕ) → WInstr
  WArith : (op : WOp) (rd rs : ℕ) (v : WOperand) → WInstr
  WLoad : (rd ra off : ℕ) → WInstr
  WStore : (ra off rs : ℕ) → WInstr
  WBranch : (test : WCond) (rs : ℕ) (v : WOperand) (l : ℕ) → WInstr
  WWrite : (to ra rn : ℕ) → WInstr

-- an instruction sequence: it ends at a label, at the label whose address a register has, or with a status
pub data WSeq : Type 0 where
  WThen : (i : WInstr) (rest : WSeq) → WSeq
  WJump : (l : ℕ) → WSeq
  WGoto : (r : ℕ) → WSeq
  WExit : (status : ℕ) → WSeq

-- a program: its blocks, and its memory at the start: where it begins, its first words, and how many words it has
pub record WProg : Type 0 where
  pub blocks : List WSeq
  pub base : ℕ
  pub image : List WDatum
  pub size : ℕ
