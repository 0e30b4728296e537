-- The plain trees of the program's values.
use Rattle.std.specs.Prelude.{List, [], ◌∷◌, map}
use Rattle.w_terms.specs.Tree.{WInstr, WConst, WMove, WPlace, WArith, WLoad, WStore, WBranch, WWrite, WSeq, WThen}
use Rattle.w_terms.specs.Tree.{WJump, WGoto, WExit, WProg}
use Rattle.w_terms.specs.declared.instr.WInstr.{WInstr as Instr}
use Rattle.w_terms.specs.declared.instr.WInstr.TheVariants as I
use Rattle.w_terms.specs.declared.instr.WEnd.{WEnd as End}
use Rattle.w_terms.specs.declared.instr.WEnd.TheVariants as E
use Rattle.w_terms.specs.declared.program.WBlock.{WBlock}
use Rattle.w_terms.specs.declared.program.WProgram.{WProgram}

abbrev pub instr : Instr → WInstr
instr (I.Const rd n) = WConst rd n
instr (I.Move rd rs) = WMove rd rs
instr (I.Place rd l) = WPlace rd l
instr (I.Arith op rd rs v) = WArith op rd rs v
instr (I.Load rd ra off) = WLoad rd ra off
instr (I.Store ra off rs) = WStore ra off rs
instr (I.Branch test rs v l) = WBranch test rs v l
instr (I.Write to ra rn) = WWrite to ra rn

abbrev pub end_of : End → WSeq
end_of (E.Jump l) = WJump l
end_of (E.Goto r) = WGoto r
end_of (E.Exit status) = WExit status

abbrev pub seq : List Instr → End → WSeq
seq [] e = end_of e
seq (i ∷ is) e = WThen (instr i) (seq is e)

abbrev pub block : WBlock → WSeq
block b = seq b.body.items b.end

abbrev pub program : WProgram → WProg
program p = record { blocks = map block p.blocks.items; base = p.base; image = p.image.items; size = p.size }
