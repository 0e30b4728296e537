use Rattle.std.proofs.Common.{◌∙◌}
use Rattle.a_terms.proofs.Weighed.{sum_next, sum_all, fields_sum, field_sum}
use Rattle.a_terms.proofs.sizes.fields_size.Goals as goal

pub loop-field-preserved : goal.loop-field-preserved
loop-field-preserved c =
    sum_next field_sum c.args.fields.now c.loop-field.field-index c.field-item.result _ _ _ c.loop-field-test.true
    c.field-item.is c.in_ok-n.ensures c.in_ok-total.ensures c.loop-field.invariant

pub returns : goal.returns
returns c = sum_all field_sum c.args.fields.now c.loop-field.field-index _ c.loop-field-test.false
    c.loop-field.invariant ∙ fields_sum c.args.fields.now
