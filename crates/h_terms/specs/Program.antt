-- The trees of a program.
use Rattle.h_terms.specs.declared.program.HProgram.{HProgram}
use Rattle.h_terms.specs.H.{HBlks, HTm}
use Rattle.h_terms.specs.Nodes.{h_blocks, h_tree}

-- the blocks, by label
abbrev pub blocks_in : HProgram → HBlks
blocks_in p = h_blocks p.blocks.items

-- the main term
abbrev pub main_in : HProgram → HTm
main_in p = h_tree p.main.items
