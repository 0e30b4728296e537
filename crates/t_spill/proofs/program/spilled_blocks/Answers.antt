use Rattle.t_terms.specs.ReadProgram.{program}
use Rattle.t_spill.proofs.Parts.{block_ready, one_block, all_blocks}
use Rattle.t_spill.proofs.program.spilled_blocks.Goals as goal

pub spilled_block-requires-clause-ready : goal.spilled_block-requires-clause-ready
spilled_block-requires-clause-ready c =
    block_ready (program c.args.program.now) c.args.blocks.now c.loop-block.block-index c.block-item.result
    c.loop-block-test.true c.block-item.is c.requires.ready

pub loop-block-preserved : goal.loop-block-preserved
loop-block-preserved c =
    one_block c.args.split.low (program c.args.program.now) c.args.blocks.now c.loop-block.block-index
    c.block-item.result c.loop-block.made.items _ c.in_ok-block.block _ c.loop-block-test.true c.block-item.is
    c.in_ok-push-2.ensures.items c.in_ok-block.ensures c.loop-block.invariant

pub returns : goal.returns
returns c = all_blocks c.args.split.low
    (program c.args.program.now) c.args.blocks.now c.loop-block.made.items c.loop-block.block-index _
    c.loop-block-test.false c.loop-block.invariant
