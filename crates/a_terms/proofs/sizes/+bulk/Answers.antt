use Rattle.std.proofs.Common.{ap, ◌∙◌, sym, arith}
use Rattle.a_terms.specs.Sizes.{bulk}
use Rattle.a_terms.specs.Read.{atree}
use Rattle.a_terms.specs.ReadLaws.{is_tuple}
use Rattle.a_terms.proofs.Weighed.{most_next, most_all, type_bulk, field_bulk, types_most, fields_most, code_bulk}
use Rattle.a_terms.proofs.sizes.+bulk.Goals as goal

pub bulk-returns-in_ok-n-in-Tuple : goal.bulk-returns-in_ok-n-in-Tuple
bulk-returns-in_ok-n-in-Tuple t c =
    c.in_ok-n-in-Tuple.ensures ∙ ap bulk (sym (is_tuple _ _ _ c.in-Tuple.is c.deref.ensures.value))

pub bulk-returns-in_ok-all-in-Code : goal.bulk-returns-in_ok-all-in-Code
bulk-returns-in_ok-all-in-Code t c =
    code_bulk _ c.in-Code.owes _ _ _ _ _ c.in-Code.is c.as_slice-args.ensures.value c.in_ok-most-in-Code.ensures
    c.in_ok-n-in-Code.ensures c.in_ok-all-in-Code.ensures

pub bulk-returns-in_ok-more-in-Exists : goal.bulk-returns-in_ok-more-in-Exists
bulk-returns-in_ok-more-in-Exists t c = c.in_ok-more-in-Exists.ensures
    ∙ omega (arith, c.in_ok-n-in-Exists.ensures, ap (λ x. bulk (atree x)) c.deref-in-Exists.ensures)
    ∙ ap (λ x. bulk (atree x)) (sym c.in-Exists.is)

pub bulk_types-loop-t-preserved : goal.bulk_types-loop-t-preserved
bulk_types-loop-t-preserved m c =
    most_next type_bulk c.args.ts.now c.loop-t.t-index c.t-item.result _ _ _ c.loop-t-test.true c.t-item.is
    c.in_ok-bulk.ensures c.max-most.ensures c.loop-t.invariant

pub bulk_types-returns : goal.bulk_types-returns
bulk_types-returns t c = most_all type_bulk c.args.ts.now c.loop-t.t-index _ c.loop-t-test.false c.loop-t.invariant
    ∙ types_most c.args.ts.now

pub bulk_fields-loop-field-preserved : goal.bulk_fields-loop-field-preserved
bulk_fields-loop-field-preserved m c =
    most_next field_bulk c.args.fields.now c.loop-field.field-index c.field-item.result _ _ _ c.loop-field-test.true
    c.field-item.is c.in_ok-bulk.ensures c.max-most.ensures c.loop-field.invariant

pub bulk_fields-returns : goal.bulk_fields-returns
bulk_fields-returns t c =
    most_all field_bulk c.args.fields.now c.loop-field.field-index _ c.loop-field-test.false c.loop-field.invariant
    ∙ fields_most c.args.fields.now
