use Rattle.h_terms.specs.Nodes.{h_blocks}
use Rattle.h_notation.proofs.ProgramTexts.{blocks_done}
use Rattle.h_notation.proofs.program.write_blocks.Goals as goal

pub returns : goal.returns
returns c =
    blocks_done c.args.of.typed (h_blocks c.args.of.blocks.now) c.args.blocks.now _ _ c.loop-label.label
    c.loop-label.invariant.written c.loop-label-test.false
