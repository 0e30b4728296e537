use Rattle.std.proofs.Common.{◌≡◌, [], length, sym, ap, ◌∙◌, arith}
use Rattle.std.proofs.lemmas.List.{nil_from_length}
use Rattle.std.specs.Vec.Iter.{into_iter_items}
use Rattle.listing.proofs.Passing.{blocks_start, blocks_next, blocks_end}
use Rattle.listing.proofs.program.blocks_to.Goals as goal

pub loop-block-init : goal.loop-block-init
loop-block-init c =
    let i = c.into_iter-block-iterator.ensures.into_iter_gives in
    record {
      many = omega (arith, ap length i.0, i.1);
      left = rw (i.0, c.in_ok-made.ensures.items) (blocks_start c.args.place c.args.blocks.items);
    }

pub loop-block-preserved : goal.loop-block-preserved
loop-block-preserved c =
    let l = c.loop-block in
    let steps = c.in-Some.ensures.steps.0 in
    let fewer = c.in-Some.ensures.steps.1 in
    record {
      many = omega (arith, l.invariant.many, fewer, ap length steps);
      left = blocks_next c.args.place c.args.blocks.items _ _ (into_iter_items c.next.new.self) l.made.items _ l.met
          c.in_ok-out.now c.in_ok-out.out l.invariant.left steps c.in_ok-out.ensures c.in_ok-push.ensures.items;
    }

pub returns : goal.returns
returns c =
    let l = c.loop-block in
    let none : into_iter_items l.block-iterator ≡ [] =
    nil_from_length _ (sym l.invariant.many ∙ c.in-None.ensures.steps.0) in
    blocks_end c.args.place c.args.blocks.items _ l.made.items l.met l.invariant.left none
