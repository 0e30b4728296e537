use Rattle.std.proofs.Common.{◌≡◌, [], length, refl, sym, ap, ◌∙◌, arith}
use Rattle.std.proofs.lemmas.List.{nil_from_length}
use Rattle.std.proofs.lemmas.Result.{err_from_is_err_and}
use Rattle.std.specs.Vec.Iter.{into_iter_items}
use Rattle.t_reader.proofs.Numbering.{items_start, block_stop, block_next, data_stop, data_next, items_whole}
use Rattle.t_reader.proofs.reader.parts_in.Goals as goal

pub loop-item-init : goal.loop-item-init
loop-item-init c =
    let i = c.into_iter-item-iterator.ensures.into_iter_gives in
    record {
      many = omega (arith, ap length i.0, i.1);
      left = rw (i.0, c.new-blocks.ensures.items, c.new-heap.ensures.items)
          (items_start c.args.text.now c.args.raw.items);
    }

pub returns-in_err-made-in-Block : goal.returns-in_err-made-in-Block
returns-in_err-made-in-Block c =
    let l = c.loop-item in
    let p = err_from_is_err_and c.from_residual-in_err-made-in-Block.result
    c.from_residual-in_err-made-in-Block.ensures.1 in
    rw (p.1, p.2)
    (block_stop c.args.text.now c.args.raw.items _ l.blocks.items l.heap.items l.invariant.left _
    (rw c.deref.ensures.value at c.in_ok-labels.ensures) c.in-Block.block (into_iter_items c.next.new.self)
    (c.in-Some.ensures.steps.0 ∙ rw c.in-Block.is refl) _
    (rw (c.len.ensures, l.blocks.ok.0) at c.in_err-made-in-Block.ensures))

pub loop-item-preserved-in-Continue-branch-3 : goal.loop-item-preserved-in-Continue-branch-3
loop-item-preserved-in-Continue-branch-3 c =
    let l = c.loop-item in
    let steps = c.in-Some.ensures.steps.0 in
    let fewer = c.in-Some.ensures.steps.1 in
    record {
      many = omega (arith, l.invariant.many, fewer, ap length steps);
      left = block_next c.args.text.now c.args.raw.items _ l.blocks.items l.heap.items l.invariant.left _
          (rw c.deref.ensures.value at c.in_ok-labels.ensures) c.in-Block.block (into_iter_items c.next.new.self)
          (steps ∙ rw c.in-Block.is refl) c.in_ok-made-in-Block.made _
          (rw (c.len.ensures, l.blocks.ok.0) at c.in_ok-made-in-Block.ensures) c.in_ok-push-in-Block.ensures.items;
    }

pub returns-in_err-made-in-Data : goal.returns-in_err-made-in-Data
returns-in_err-made-in-Data c =
    let l = c.loop-item in
    let p =
    err_from_is_err_and c.from_residual-in_err-made-in-Data.result c.from_residual-in_err-made-in-Data.ensures.1 in
    rw (p.1, p.2)
    (data_stop c.args.text.now c.args.raw.items _ l.blocks.items l.heap.items l.invariant.left _
    (rw c.deref.ensures.value at c.in_ok-labels.ensures) c.in-Data.tuple (into_iter_items c.next.new.self)
    (c.in-Some.ensures.steps.0 ∙ rw c.in-Data.is refl) _
    (rw (c.len-number.ensures, l.heap.ok.0) at c.in_err-made-in-Data.ensures))

pub loop-item-preserved : goal.loop-item-preserved
loop-item-preserved c =
    let l = c.loop-item in
    let steps = c.in-Some.ensures.steps.0 in
    let fewer = c.in-Some.ensures.steps.1 in
    record {
      many = omega (arith, l.invariant.many, fewer, ap length steps);
      left = data_next c.args.text.now c.args.raw.items _ l.blocks.items l.heap.items l.invariant.left _
          (rw c.deref.ensures.value at c.in_ok-labels.ensures) c.in-Data.tuple (into_iter_items c.next.new.self)
          (steps ∙ rw c.in-Data.is refl) c.in_ok-made-in-Data.made _
          (rw (c.len-number.ensures, l.heap.ok.0) at c.in_ok-made-in-Data.ensures) c.in_ok-push-in-Data.ensures.items;
    }

pub returns : goal.returns
returns c =
    let l = c.loop-item in
    let none : into_iter_items l.item-iterator ≡ [] =
    nil_from_length _ (sym l.invariant.many ∙ c.in-None.ensures.steps.0) in
    items_whole c.args.text.now c.args.raw.items l.blocks.items l.heap.items _ none l.invariant.left
