use Rattle.std.proofs.Common.{ap, ◌∙◌, sym}
use Rattle.std.proofs.lemmas.List.{take_all}
use Rattle.idx_core.specs.Over.{shifted}
use Rattle.a_terms.specs.Tree.{ATuple, ACode, AExists, AVar, over, over_types, over_fields}
use Rattle.a_terms.specs.Read.{atree, atrees, afields}
use Rattle.a_terms.specs.ReadLaws.{a_tuple, a_code, is_tuple, is_code, all_push, fields_push, at_types, at_type}
use Rattle.a_terms.proofs.walks.+shifting.Goals as goal

pub shift_type-returns-in_ok-parts-in-Tuple : goal.shift_type-returns-in_ok-parts-in-Tuple
shift_type-returns-in_ok-parts-in-Tuple t c = a_tuple c.in_ok-parts-in-Tuple.parts
    ∙ ap ATuple c.in_ok-parts-in-Tuple.ensures
    ∙ ap (over (shifted AVar c.args.by) c.args.d) (sym (is_tuple _ _ _ c.in-Tuple.is c.deref.ensures.value))

pub shift_type-returns-in_ok-parts-in-Code : goal.shift_type-returns-in_ok-parts-in-Code
shift_type-returns-in_ok-parts-in-Code t c =
    a_code c.in-Code.owes c.in_ok-parts-in-Code.parts
    ∙ ap (ACode c.in-Code.owes)
    (c.in_ok-parts-in-Code.ensures ∙ at_types (shifted AVar c.args.by) _ _ _ c.in_ok-inner-in-Code.ensures)
    ∙ ap (over (shifted AVar c.args.by) c.args.d) (sym (is_code _ _ _ _ c.in-Code.is c.deref-in-Code.ensures.value))

pub shift_type-returns-in_ok-new-in-Exists : goal.shift_type-returns-in_ok-new-in-Exists
shift_type-returns-in_ok-new-in-Exists t c =
    ap (λ x. AExists (atree x)) c.in_ok-new-in-Exists.ensures.ok
    ∙ ap AExists
    (c.in_ok-inside-in-Exists.ensures ∙ at_type (shifted AVar c.args.by) _ _ _ c.in_ok-inner-in-Exists.ensures)
    ∙ ap (λ x. over (shifted AVar c.args.by) c.args.d (AExists (atree x))) c.deref-in-Exists.ensures
    ∙ ap (λ x. over (shifted AVar c.args.by) c.args.d (atree x)) (sym c.in-Exists.is)

pub shift_all-loop-t-preserved : goal.shift_all-loop-t-preserved
shift_all-loop-t-preserved m c =
    all_push _ _ _ _ c.args.ts.now c.loop-t.t-index c.t-item.result _ c.loop-t-test.true c.t-item.is
    c.in_ok-push.ensures.items c.in_ok-one.ensures c.loop-t.invariant

pub shift_all-returns : goal.shift_all-returns
shift_all-returns t c =
    c.loop-t.invariant
    ∙ ap (λ xs. over_types (shifted AVar c.args.by) c.args.d (atrees xs))
    (take_all c.loop-t.t-index c.args.ts.now c.loop-t-test.false)

pub shift_fields-loop-t-preserved : goal.shift_fields-loop-t-preserved
shift_fields-loop-t-preserved m c =
    fields_push _ _ _ _ c.args.ts.now c.loop-t.t-index c.t-item.result _ c.loop-t-test.true c.t-item.is
    c.in_ok-push.ensures.items c.in_ok-one.ensures c.loop-t.invariant

pub shift_fields-returns : goal.shift_fields-returns
shift_fields-returns t c =
    c.loop-t.invariant
    ∙ ap (λ xs. over_fields (shifted AVar c.args.by) c.args.d (afields xs))
    (take_all c.loop-t.t-index c.args.ts.now c.loop-t-test.false)
