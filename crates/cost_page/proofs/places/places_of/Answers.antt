use Rattle.std.proofs.Common.{◌≡◌, ◌∙◌, ◌∷◌, ◌++◌, ◌+◌, List, ap, sym, subst, drop, length}
use Rattle.std.proofs.lemmas.List.{drop_more}
use Rattle.t_terms.specs.Read.{spanned, spanned_blocks}
use Rattle.t_terms.specs.declared.block.Block.{Block}
use Rattle.cost_page.specs.Places.{places}
use Rattle.cost_page.proofs.Walks.{put_block}
use Rattle.cost_page.proofs.places.places_of.Goals as goal

pub loop-block-preserved : goal.loop-block-preserved
loop-block-preserved c =
    let l = c.loop-block in
    let bs = c.args.blocks.now in
    let counts = c.args.counts.now in
    let i = l.block-index in
    let x = c.block-item.result in
    let next = drop_more bs i x c.loop-block-test.true
    ∙ ap (λ (y : Block). y ∷ drop (i + 1) bs) (sym c.block-item.is) in
    put_block counts l.made.items c.put_block.new.places.items (spanned x) (spanned_blocks (drop (i + 1) bs))
    (places counts 0 (spanned_blocks bs)) c.in_ok-put_block.ensures
    (subst (λ (ys : List Block). l.made.items ++ places counts (length l.made.items) (spanned_blocks ys)
    ≡ places counts 0 (spanned_blocks bs)) next l.invariant)
