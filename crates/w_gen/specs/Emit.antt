-- The code of a block that is half done.
use Rattle.std.specs.Prelude.{List, [], ◌∷◌, ◌++◌, map}
use Rattle.w_terms.specs.Tree.{WSeq, WThen}
use Rattle.w_terms.specs.Read.{instr, block}
use Rattle.w_terms.specs.declared.instr.WInstr.{WInstr}
use Rattle.w_laws.specs.Translate.{Code}
use Rattle.w_gen.specs.declared.emit.Work.{Work}

-- instructions in front of a sequence
abbrev pub prefixed : List WInstr → WSeq → WSeq
prefixed [] c = c
prefixed (i ∷ is) c = WThen (instr i) (prefixed is c)

-- all pieces of code, the first one first
abbrev pub pieces : Code → List WSeq
pieces c = c.seq ∷ c.more

-- the pieces that are done, and the code that is to come behind the instructions of the next one
abbrev pub onto : Work → Code → List WSeq
onto w c = map block w.pieces.items ++ (prefixed w.body.items c.seq ∷ c.more)
