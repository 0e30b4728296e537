use Rattle.std.proofs.Common.{[], ◌∷◌, refl, sym, ◌∙◌, arith}
use Rattle.std.proofs.lemmas.Result.{err_from_is_err_and}
use Rattle.text_core.specs.Table.{Nt}
use Rattle.t_text.specs.GrammarTable.{table, LSomeItems, MakeNoItems, MakeNextItem, OfItems}
use Rattle.t_text.specs.Text.{most_open}
use Rattle.text_core.proofs.Going as step
use Rattle.t_shapes.proofs.Stepping.{start, by_call, by_do, stop_call}
use Rattle.t_shapes.specs.Reads.{item_owed, some_owed}
use Rattle.t_shapes.proofs.Itemed.{as_item, item_left, items_done, items_more, no_more}
use Rattle.t_text.specs.Kept.{tokens_of}
use Rattle.t_shapes.proofs.items.items.Goals as goal

pub loop-alloc-init : goal.loop-alloc-init
loop-alloc-init c =
    let ts = tokens_of c.args.tokens.now in
    let i = c.args.at in
    rw c.new-items.ensures.items (record {
      forward = omega arith;
      moved = λ e. absurd (cc);
      in_range = c.requires;
      same = by_do MakeNoItems (Nt LSomeItems ∷ []) [] (OfItems [] ∷ []) (start ts 0 i some_owed) (λ below. refl);
    })

pub item-requires : goal.item-requires
item-requires c =
    c.loop-alloc.invariant.in_range

pub returns-in_err-found : goal.returns-in_err-found
returns-in_err-found c =
    let ts = tokens_of c.args.tokens.now in
    let l = c.loop-alloc in
    let m = step.then_goes table most_open ts 0 l.invariant.same
    (as_item ts l.next l.has_block _ (sym c.wants_item.ensures ∙ c.loop-alloc-test.true)) in
    let p = err_from_is_err_and c.from_residual.result c.from_residual.ensures.1 in
    rw (p.1, p.2) (stop_call _ item_owed 0 (item_left ts l.next l.has_block) _ m (omega arith) c.in_err-found.ensures)

pub loop-alloc-smaller : goal.loop-alloc-smaller
loop-alloc-smaller c =
    let r = c.in_ok-found.ensures.reads in omega (arith, r.forward, r.in_range)

pub loop-alloc-preserved : goal.loop-alloc-preserved
loop-alloc-preserved c =
    let ts = tokens_of c.args.tokens.now in
    let l = c.loop-alloc in
    let m = step.then_goes table most_open ts 0 l.invariant.same
    (as_item ts l.next l.has_block _ (sym c.wants_item.ensures ∙ c.loop-alloc-test.true)) in
    let f = c.in_ok-found.ensures in
    rw (
      items_more l.items.items _ c.in_ok-found.found.item c.in_ok-push.ensures.items,
      c.with_block-has_block.ensures,
      f.kind,
    ) (record {
      forward = omega (arith, l.invariant.forward, f.reads.forward);
      moved = λ e. omega (arith, l.invariant.forward, f.reads.forward);
      in_range = f.reads.in_range;
      same = by_do MakeNextItem _ _ _ (by_call 0 (item_left ts l.next l.has_block) _ m (omega arith) f.reads.same)
          (λ below. refl);
    })

pub returns : goal.returns
returns c =
    let ts = tokens_of c.args.tokens.now in
    let l = c.loop-alloc in
    let d = items_done ts l.next l.has_block (sym c.wants_item.ensures ∙ c.loop-alloc-test.false) in
    record {
      forward = l.invariant.moved d.0;
      in_range = l.invariant.in_range;
      same = no_more (rw d.0 at l.invariant.same) d.1;
    }
