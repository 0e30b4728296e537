use Rattle.a_terms.specs.Program.{program_in}
use Rattle.a_notation.proofs.ProgramTexts.{blocks_done}
use Rattle.a_notation.proofs.program.write_blocks.Goals as goal

pub returns : goal.returns
returns c =
    blocks_done c.args.of.typed (program_in c.args.of.program.now) c.args.blocks.now _ _ c.loop-label.label
    c.loop-label.invariant.written c.loop-label-test.false
