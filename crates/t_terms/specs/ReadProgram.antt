-- The plain tree of a program: the tree with its places, without them.
use Rattle.t_terms.specs.Tree.{TProg}
use Rattle.t_terms.specs.Spanned.{SProg, plain_program}
use Rattle.t_terms.specs.Read.{spanned_parts}
use Rattle.t_terms.specs.declared.program.TProgram.{TProgram}

-- a program with its places, and without
abbrev pub spanned_program : TProgram → SProg
spanned_program p = spanned_parts p.blocks.items p.heap.items

abbrev pub program : TProgram → TProg
program p = plain_program (spanned_program p)
