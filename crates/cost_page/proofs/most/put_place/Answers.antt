use Rattle.std.proofs.Common.{◌∙◌, ap}
use Rattle.cost_page.specs.Page.{rank}
use Rattle.cost_page.proofs.Walks.{placed_none, placed_some}
use Rattle.cost_page.proofs.most.put_place.Goals as goal

pub returns-then-place-eq0 : goal.returns-then-place-eq0
returns-then-place-eq0 c = placed_none c.args.top.now.items c.args.place.now c.if-place-eq0.true

pub returns : goal.returns
returns c =
    c.truncate.ensures.items
    ∙ placed_some c.args.top.now.items c.insert.new.self.items c.args.place.now c.rank-at.result c.if-place-eq0.false
    (c.rank-at.ensures.rank ∙ ap (rank c.args.place.now) c.deref.ensures.value) c.in_ok-insert.ensures.items
