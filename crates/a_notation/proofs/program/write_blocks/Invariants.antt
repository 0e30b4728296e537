use Rattle.std.proofs.Common.{◌++◌, drop}
use Rattle.page_core.proofs.Listed.{Left, listed}
use Rattle.a_terms.specs.Arity.{ARows}
use Rattle.a_terms.specs.Program.{program_in}
use Rattle.a_notation.proofs.ProgramTexts.{block_item}
use Rattle.a_notation.proofs.program.write_blocks.Given as goal

abbrev pub invariant-loop-label : goal.invariant-loop-label
invariant-loop-label l = record {
  rows : ARows (drop l.label l.blocks);
  written : Left (block_item l.of.typed (program_in l.of.program.now)) l.text.items l.label l.label l.blocks
      (l.initial.text.items ++ listed (block_item l.of.typed (program_in l.of.program.now)) 0 l.blocks);
}
