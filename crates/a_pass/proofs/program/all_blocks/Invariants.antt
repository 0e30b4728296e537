use Rattle.std.proofs.Common.{take}
use Rattle.h_terms.specs.Nodes.{h_blocks}
use Rattle.a_pass.proofs.Blocks.{BlocksMade}
use Rattle.a_pass.proofs.program.all_blocks.Given as goal

abbrev pub invariant-loop-one : goal.invariant-loop-one
invariant-loop-one l = BlocksMade (h_blocks l.blocks) (take l.one-index l.blocks) l.made.items l.tuples.items
