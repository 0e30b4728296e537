use Rattle.t_writer.proofs.Coded.{blocking_more}
use Rattle.t_writer.proofs.blocks.write_blocks.Goals as goal

pub loop-i-preserved : goal.loop-i-preserved
loop-i-preserved c =
    blocking_more c.args.blocks.now c.loop-i.i _ _ c.loop-i.invariant _ c.index-blocks-i.is c.loop-i-test.true _
    c.in_ok-write_block.ensures
