use Rattle.std.proofs.Common.{◌++◌, drop}
use Rattle.page_core.proofs.Listed.{Left, listed}
use Rattle.h_terms.specs.Nodes.{h_blocks, HRows}
use Rattle.h_notation.proofs.ProgramTexts.{block_item}
use Rattle.h_notation.proofs.program.write_blocks.Given as goal

abbrev pub invariant-loop-label : goal.invariant-loop-label
invariant-loop-label l = record {
  rows : HRows (drop l.label l.blocks);
  written : Left (block_item l.of.typed (h_blocks l.of.blocks.now)) l.text.items l.label l.label l.blocks
      (l.initial.text.items ++ listed (block_item l.of.typed (h_blocks l.of.blocks.now)) 0 l.blocks);
}
