use Rattle.x_pass.specs.Layout.{place_of}
use Rattle.x_pass.proofs.Measures.{all_short_now, all_short_next}
use Rattle.x_listing.specs.Read.{notes_of}
use Rattle.x_listing.proofs.Turns.{more_blocks}
use Rattle.x_listing.proofs.page.write_blocks.Goals as goal

pub write_block-requires-clause-short : goal.write_block-requires-clause-short
write_block-requires-clause-short c =
    all_short_now c.loop-l.l c.args.blocks.now c.index-blocks-l.result c.loop-l-test.true c.index-blocks-l.is
    c.loop-l.invariant.short

pub loop-l-preserved : goal.loop-l-preserved
loop-l-preserved c = record {
  lines = more_blocks (place_of c.args.labels.now) (notes_of c.args.notes.now) c.loop-l.l c.args.blocks.now _
      c.loop-l-test.true c.index-blocks-l.is c.loop-l.page.items _ _ c.in_ok-write_block.ensures
      c.loop-l.invariant.lines;
  short = all_short_next c.loop-l.l c.args.blocks.now c.loop-l.invariant.short;
}
