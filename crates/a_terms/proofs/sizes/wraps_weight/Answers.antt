use Rattle.std.proofs.Common.{◌∙◌}
use Rattle.a_terms.specs.Weights.{wrap_weight}
use Rattle.a_terms.proofs.Weighed.{sum_next, sum_all, wraps_sum}
use Rattle.a_terms.proofs.sizes.wraps_weight.Goals as goal

pub loop-w-preserved : goal.loop-w-preserved
loop-w-preserved c =
    sum_next wrap_weight c.args.ws.now c.loop-w.w-index c.w-item.result _ _ _ c.loop-w-test.true c.w-item.is
    c.in_ok-n.ensures c.in_ok-total.ensures c.loop-w.invariant

pub returns : goal.returns
returns c = sum_all wrap_weight c.args.ws.now c.loop-w.w-index _ c.loop-w-test.false c.loop-w.invariant
    ∙ wraps_sum c.args.ws.now
