-- Word code as text. Its registers are `w` and their number; a label is shown by the name of its block.
use Rattle.std.specs.Prelude.{ℕ, List, ◌++◌, codes, decimal}
use Rattle.x_listing.specs.Text.{number}
use Rattle.w_terms.specs.Tree.{WInstr, WConst, WMove, WPlace, WArith, WLoad, WStore, WBranch, WWrite, WSeq, WThen, WJump}
use Rattle.w_terms.specs.Tree.{WGoto, WExit}
use Rattle.w_terms.specs.declared.instr.WOp.{WOp}
use Rattle.w_terms.specs.declared.instr.WOp.TheVariants as O
use Rattle.w_terms.specs.declared.instr.WCond.{WCond}
use Rattle.w_terms.specs.declared.instr.WCond.TheVariants as C
use Rattle.w_terms.specs.declared.instr.WOperand.{WOperand}
use Rattle.w_terms.specs.declared.instr.WOperand.TheVariants as V

abbrev pub register : ℕ → List ℕ
register q = codes "w" ++ decimal q

abbrev pub operand : WOperand → List ℕ
operand (V.Reg q) = register q
operand (V.Num n) = number n

abbrev pub op : WOp → List ℕ
op O.Add = codes " + "
op O.Sub = codes " - "
op O.Mul = codes " * "
op O.And = codes " & "
op O.Or = codes " | "
op O.Shl = codes " << "
op O.Shr = codes " >> "

abbrev pub condition : WCond → List ℕ
condition C.Equal = codes " == "
condition C.Differ = codes " != "
condition C.Below = codes " < "
condition C.AtLeast = codes " >= "

-- a word of the memory, by the register of its address and an offset
abbrev pub cell : ℕ → ℕ → List ℕ
cell q off = codes "[" ++ (register q ++ (codes " + " ++ (number off ++ codes "]")))

-- what goes to a register
abbrev pub target : ℕ → List ℕ
target q = register q ++ codes " = "

-- two words and what stands between them
abbrev pub both : ℕ → List ℕ → WOperand → List ℕ
both q sign v = register q ++ (sign ++ operand v)

-- a branch, up to the name of its label
abbrev pub branch : WCond → ℕ → WOperand → List ℕ
branch t rs v = codes "if " ++ (both rs (condition t) v ++ codes " goto ")

-- the number of the output, the register of the address and that of the number of bytes
abbrev pub written : ℕ → ℕ → ℕ → List ℕ
written to ra rn = codes "write " ++ (number to ++ (codes ", " ++ (register ra ++ (codes ", " ++ register rn))))

module _ (name : ℕ → List ℕ) where
  abbrev pub instr : WInstr → List ℕ
  instr (WConst rd n) = target rd ++ number n
  instr (WMove rd rs) = target rd ++ register rs
  instr (WPlace rd l) = target rd ++ name l
  instr (WArith o rd rs v) = target rd ++ both rs (op o) v
  instr (WLoad rd ra off) = target rd ++ cell ra off
  instr (WStore ra off rs) = cell ra off ++ (codes " = " ++ register rs)
  instr (WBranch t rs v l) = branch t rs v ++ name l
  instr (WWrite to ra rn) = written to ra rn

  -- the end of a block
  abbrev pub last : WSeq → List ℕ
  last (WThen i c) = last c
  last (WJump l) = codes "goto " ++ name l
  last (WGoto q) = codes "goto " ++ register q
  last (WExit status) = codes "exit " ++ number status
