use Rattle.x_pass.specs.Layout.{place_of}
use Rattle.x_pass.proofs.Measures.{all_short_now, all_short_next}
use Rattle.x_pass.proofs.Turns.{block_room, one_block}
use Rattle.x_pass.proofs.program.emit_blocks.Goals as goal

pub emit_block-requires-clause-room : goal.emit_block-requires-clause-room
emit_block-requires-clause-room c =
    block_room (place_of c.args.labels.now) c.args.base c.loop-block.block-index c.args.blocks.now c.block-item.result
    c.loop-block-test.true c.block-item.is c.loop-block.code.items c.args.code.now.items _ c.loop-block.invariant.bytes
    c.requires.room

pub emit_block-requires-clause-short : goal.emit_block-requires-clause-short
emit_block-requires-clause-short c =
    all_short_now c.loop-block.block-index c.args.blocks.now c.block-item.result c.loop-block-test.true
    c.block-item.is c.loop-block.invariant.short

pub loop-block-preserved : goal.loop-block-preserved
loop-block-preserved c = record {
  bytes = one_block (place_of c.args.labels.now) c.args.base c.loop-block.block-index c.args.blocks.now
      c.block-item.result c.loop-block-test.true c.block-item.is c.loop-block.code.items c.emit_block.new.code.items _
      c.in_ok-emit_block.ensures c.loop-block.invariant.bytes;
  short = all_short_next c.loop-block.block-index c.args.blocks.now c.loop-block.invariant.short;
}
