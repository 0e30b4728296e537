use Rattle.std.proofs.Common.{◌∙◌}
use Rattle.a_terms.proofs.Weighed.{sum_next, sum_all, blocks_sum, block_sum}
use Rattle.a_terms.proofs.sizes.blocks_size.Goals as goal

pub loop-block-preserved : goal.loop-block-preserved
loop-block-preserved c =
    sum_next block_sum c.args.blocks.now c.loop-block.block-index c.block-item.result _ _ _ c.loop-block-test.true
    c.block-item.is c.in_ok-n.ensures c.in_ok-total.ensures c.loop-block.invariant

pub returns : goal.returns
returns c = sum_all block_sum c.args.blocks.now c.loop-block.block-index _ c.loop-block-test.false
    c.loop-block.invariant ∙ blocks_sum c.args.blocks.now
