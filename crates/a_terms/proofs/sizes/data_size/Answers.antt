use Rattle.std.proofs.Common.{◌∙◌, ap}
use Rattle.a_terms.proofs.Weighed.{sum_next, sum_all, data_sum, tuple_sum}
use Rattle.a_terms.specs.Weights.{fields_size}
use Rattle.a_terms.proofs.sizes.data_size.Goals as goal

pub loop-tuple-preserved : goal.loop-tuple-preserved
loop-tuple-preserved c =
    sum_next tuple_sum c.args.tuples.now c.loop-tuple.tuple-index c.tuple-item.result _ _ _ c.loop-tuple-test.true
    c.tuple-item.is (c.in_ok-n.ensures ∙ ap fields_size c.deref.ensures.value) c.in_ok-total.ensures
    c.loop-tuple.invariant

pub returns : goal.returns
returns c = sum_all tuple_sum c.args.tuples.now c.loop-tuple.tuple-index _ c.loop-tuple-test.false
    c.loop-tuple.invariant ∙ data_sum c.args.tuples.now
