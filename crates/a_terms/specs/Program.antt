-- The trees of a program.
use Rattle.a_terms.specs.Tree as a
use Rattle.a_terms.specs.NodeTrees.{a_prog, a_tree}
use Rattle.a_terms.specs.declared.program.AProgram.{AProgram}

-- the blocks and the data, each by its number
abbrev pub program_in : AProgram → a.AProg
program_in p = a_prog p.blocks.items p.tuples.items

-- the main term
abbrev pub main_in : AProgram → a.ATm
main_in p = a_tree p.main.items
