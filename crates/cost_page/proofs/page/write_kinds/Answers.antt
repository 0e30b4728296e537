use Rattle.cost_page.specs.Page.{kinds}
use Rattle.cost_page.proofs.Walks.{kind_more}
use Rattle.cost_page.proofs.page.write_kinds.Goals as goal

pub loop-kind-preserved : goal.loop-kind-preserved
loop-kind-preserved c =
    kind_more c.args.places.now kinds c.loop-kind.kind-index _ c.loop-kind.page.items c.write_kind.new.page.items _
    c.loop-kind-test.true c.in_ok-write_kind.ensures c.loop-kind.invariant
