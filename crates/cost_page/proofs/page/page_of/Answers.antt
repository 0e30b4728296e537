use Rattle.std.proofs.Common.{◌∙◌, [], List, ap}
use Rattle.t_terms.specs.Read.{spanned_blocks}
use Rattle.t_terms.specs.declared.block.Block.{Block}
use Rattle.cost_page.specs.Page.{most}
use Rattle.cost_page.specs.Places.{places}
use Rattle.cost_page.proofs.Walks.{made_page}
use Rattle.cost_page.proofs.page.page_of.Goals as goal

pub returns : goal.returns
returns c =
    let counts = c.args.made.now.counts.now in
    let made = c.in_ok-places.places.items in
    let all = c.in_ok-places.ensures
    ∙ ap (λ (bs : List Block). places counts 0 (spanned_blocks bs)) c.deref.ensures.value in
    made_page c.args.text.now c.args.made.now.steps c.args.made.now.index
    (places counts 0 (spanned_blocks c.args.program.now.blocks.items)) c.deref-3.result.now c.deref-4.result.now
    c.deref-5.result.now c.new-page.result.items c.write_row.new.page.items c.write_kinds.new.page.items
    c.write_totals.new.page.items c.write_most.new.page.items (c.deref-3.ensures.value ∙ all)
    (c.deref-4.ensures.value ∙ all)
    (c.deref-5.ensures.value ∙ c.in_ok-top.ensures ∙ ap (most []) (c.deref-2.ensures.value ∙ all))
    c.new-page.ensures.items c.in_ok-write_row.ensures c.in_ok-write_kinds.ensures c.in_ok-write_totals.ensures
    c.in_ok-write_most.ensures
