use Rattle.std.proofs.Common.{◌∙◌}
use Rattle.a_terms.proofs.Weighed.{sum_next, sum_all, values_sum, weighed}
use Rattle.a_terms.proofs.sizes.values_weight.Goals as goal

pub loop-v-preserved : goal.loop-v-preserved
loop-v-preserved c =
    sum_next weighed c.args.vs.now c.loop-v.v-index c.v-item.result _ _ _ c.loop-v-test.true c.v-item.is
    c.in_ok-n.ensures c.in_ok-total.ensures c.loop-v.invariant

pub returns : goal.returns
returns c =
    sum_all weighed c.args.vs.now c.loop-v.v-index _ c.loop-v-test.false c.loop-v.invariant ∙ values_sum c.args.vs.now
