use Rattle.std.proofs.Common.{ap, ◌∙◌, sym}
use Rattle.std.proofs.lemmas.List.{take_all}
use Rattle.idx_core.specs.Over.{putted}
use Rattle.a_terms.specs.Tree.{ATuple, ACode, AExists, AVar, over, over_types, over_fields}
use Rattle.a_terms.specs.Read.{atree, atrees, afields}
use Rattle.a_terms.specs.ReadLaws.{a_tuple, a_code, is_tuple, is_code, all_push, fields_push, at_types, at_type}
use Rattle.a_terms.proofs.walks.+putting.Goals as goal

pub put_type-returns-in_ok-parts-in-Tuple : goal.put_type-returns-in_ok-parts-in-Tuple
put_type-returns-in_ok-parts-in-Tuple t c = a_tuple c.in_ok-parts-in-Tuple.parts
    ∙ ap ATuple c.in_ok-parts-in-Tuple.ensures
    ∙ ap (over (putted AVar over c.args.c (atree c.args.s.now)) c.args.d)
    (sym (is_tuple _ _ _ c.in-Tuple.is c.deref.ensures.value))

pub put_type-returns-in_ok-parts-in-Code : goal.put_type-returns-in_ok-parts-in-Code
put_type-returns-in_ok-parts-in-Code t c =
    a_code c.in-Code.owes c.in_ok-parts-in-Code.parts
    ∙ ap (ACode c.in-Code.owes)
    (c.in_ok-parts-in-Code.ensures
    ∙ at_types (putted AVar over c.args.c (atree c.args.s.now)) _ _ _ c.in_ok-inner-in-Code.ensures)
    ∙ ap (over (putted AVar over c.args.c (atree c.args.s.now)) c.args.d)
    (sym (is_code _ _ _ _ c.in-Code.is c.deref-in-Code.ensures.value))

pub put_type-returns-in_ok-new-in-Exists : goal.put_type-returns-in_ok-new-in-Exists
put_type-returns-in_ok-new-in-Exists t c =
    ap (λ x. AExists (atree x)) c.in_ok-new-in-Exists.ensures.ok
    ∙ ap AExists
    (c.in_ok-inside-in-Exists.ensures
    ∙ at_type (putted AVar over c.args.c (atree c.args.s.now)) _ _ _ c.in_ok-inner-in-Exists.ensures)
    ∙ ap (λ x. over (putted AVar over c.args.c (atree c.args.s.now)) c.args.d (AExists (atree x)))
    c.deref-in-Exists.ensures ∙ ap (λ x. over (putted AVar over c.args.c (atree c.args.s.now)) c.args.d (atree x))
    (sym c.in-Exists.is)

pub put_all-loop-t-preserved : goal.put_all-loop-t-preserved
put_all-loop-t-preserved m c =
    all_push _ _ _ _ c.args.ts.now c.loop-t.t-index c.t-item.result _ c.loop-t-test.true c.t-item.is
    c.in_ok-push.ensures.items c.in_ok-one.ensures c.loop-t.invariant

pub put_all-returns : goal.put_all-returns
put_all-returns t c =
    c.loop-t.invariant ∙ ap (λ xs. over_types (putted AVar over c.args.c (atree c.args.s.now)) c.args.d (atrees xs))
    (take_all c.loop-t.t-index c.args.ts.now c.loop-t-test.false)

pub put_fields-loop-t-preserved : goal.put_fields-loop-t-preserved
put_fields-loop-t-preserved m c =
    fields_push _ _ _ _ c.args.ts.now c.loop-t.t-index c.t-item.result _ c.loop-t-test.true c.t-item.is
    c.in_ok-push.ensures.items c.in_ok-one.ensures c.loop-t.invariant

pub put_fields-returns : goal.put_fields-returns
put_fields-returns t c =
    c.loop-t.invariant ∙ ap (λ xs. over_fields (putted AVar over c.args.c (atree c.args.s.now)) c.args.d (afields xs))
    (take_all c.loop-t.t-index c.args.ts.now c.loop-t-test.false)
