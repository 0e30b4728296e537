use Rattle.t_text.specs.Kept.{tokens_of}
use Rattle.std.proofs.Common.{refl, ◌∙◌}
use Rattle.t_reader.proofs.Turning.{turn_start, block_turned, data_turned, turned}
use Rattle.t_reader.proofs.reader.parts_by_heads.Goals.{in-Block+in_ok-made-in-Block+in_ok-push-in-Block}
use Rattle.t_reader.proofs.reader.parts_by_heads.Goals.{in-Data+in_ok-made-in-Data+in_ok-push-in-Data}
use Rattle.t_reader.proofs.reader.parts_by_heads.Goals as goal

pub loop-head-init : goal.loop-head-init
loop-head-init c =
    rw (c.new-blocks.ensures.items, c.new-heap.ensures.items) (turn_start c.args.text.now c.args.labels.now
    (tokens_of c.args.tokens.now) c.args.heads.now c.in-Some.so_far c.in-Some.ensures)

pub loop-head-preserved : goal.loop-head-preserved
loop-head-preserved c =
    let l = c.loop-head in
    let text = c.args.text.now in
    let labels = c.args.labels.now in
    let tokens = (tokens_of c.args.tokens.now) in
    let heads = c.args.heads.now in
    let next = c.in_ok-item.field-0.so_far in
    let same = c.if-not-same_head.ensures refl ∙ c.head_of.ensures in
    elim c.match-item-4.branch [
      | in-Block+in_ok-made-in-Block+in_ok-push-in-Block w ↦
          rw (w.blocks-is, w.heap-is) (block_turned text labels tokens heads l.head-index l.so_far l.blocks.items
          l.heap.items l.invariant _ c.loop-head-test.true next w.in-Block.block
          (rw w.in-Block.is at c.in_ok-item.ensures) (rw w.in-Block.is at same) w.in_ok-made-in-Block.made _ _
          (w.len.ensures ∙ l.blocks.ok.0) w.in_ok-made-in-Block.ensures w.in_ok-push-in-Block.ensures.items)
      | in-Data+in_ok-made-in-Data+in_ok-push-in-Data w ↦
          rw (w.blocks-is, w.heap-is) (data_turned text labels tokens heads l.head-index l.so_far l.blocks.items
          l.heap.items l.invariant _ c.loop-head-test.true next w.in-Data.tuple
          (rw w.in-Data.is at c.in_ok-item.ensures) (rw w.in-Data.is at same) w.in_ok-made-in-Data.made _ _
          (w.len-number.ensures ∙ l.heap.ok.0) w.in_ok-made-in-Data.ensures w.in_ok-push-in-Data.ensures.items)
    ]

pub returns : goal.returns
returns c =
    let l = c.loop-head in
    λ same. turned c.args.text.now c.args.labels.now (tokens_of c.args.tokens.now) c.args.heads.now l.head-index
    l.so_far
    l.blocks.items l.heap.items c.loop-head-test.false l.invariant (c.if-not-is_all.ensures refl) same
