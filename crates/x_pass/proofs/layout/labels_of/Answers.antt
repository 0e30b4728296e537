use Rattle.std.proofs.Common.{◌+◌, ap, ◌∙◌}
use Rattle.x_pass.proofs.Measures.{all_short_next, place_more}
use Rattle.x_pass.proofs.layout.labels_of.Goals as goal

pub loop-block-preserved : goal.loop-block-preserved
loop-block-preserved c =
    let more = place_more c.loop-block.block-index c.args.blocks.now c.block-item.result c.args.base c.loop-block.end
    c.in_ok-end.end c.loop-block.places.items _ c.loop-block-test.true c.block-item.is
    (c.in_ok-end.ensures ∙ ap (λ k. c.loop-block.end + k) c.in_ok-size.ensures) c.in_ok-push.ensures.items
    c.loop-block.invariant.places c.loop-block.invariant.end in
    record {
      places = more.0;
      end = more.1;
      short = all_short_next c.loop-block.block-index c.args.blocks.now c.loop-block.invariant.short;
    }
