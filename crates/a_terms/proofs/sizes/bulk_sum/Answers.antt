use Rattle.std.proofs.Common.{◌∙◌}
use Rattle.a_terms.proofs.Weighed.{sum_next, sum_all, types_sum, type_bulk}
use Rattle.a_terms.proofs.sizes.bulk_sum.Goals as goal

pub loop-t-preserved : goal.loop-t-preserved
loop-t-preserved c =
    sum_next type_bulk c.args.ts.now c.loop-t.t-index c.t-item.result _ _ _ c.loop-t-test.true c.t-item.is
    c.in_ok-n.ensures c.in_ok-total.ensures c.loop-t.invariant

pub returns : goal.returns
returns c =
    sum_all type_bulk c.args.ts.now c.loop-t.t-index _ c.loop-t-test.false c.loop-t.invariant ∙ types_sum c.args.ts.now
