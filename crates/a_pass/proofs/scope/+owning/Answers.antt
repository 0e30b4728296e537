use Rattle.std.proofs.Common.{ap, ◌∙◌, sym}
use Rattle.std.proofs.lemmas.List.{take_all}
use Rattle.a_terms.specs.Tree as a
use Rattle.a_terms.specs.Read.{afields}
use Rattle.a_terms.specs.Typing.{aset}
use Rattle.a_terms.specs.ReadLaws.{a_tuple}
use Rattle.a_pass.specs.Scope.{all_of, scope}
use Rattle.a_pass.proofs.TypeLists.{full_push, is_kinds}
use Rattle.a_pass.proofs.scope.+owning.Goals as goal

pub own-returns-in_ok-fields-in-Tuple : goal.own-returns-in_ok-fields-in-Tuple
own-returns-in_ok-fields-in-Tuple t c =
    let g = scope c.args.binders c.args.names.now in
    a_tuple c.in_ok-fields-in-Tuple.fields ∙ ap a.ATuple c.in_ok-fields-in-Tuple.ensures
    ∙ sym (is_kinds g _ _ _ c.in-Tuple.is c.deref.ensures.value)

pub own_fields-loop-kind-init : goal.own_fields-loop-kind-init
own_fields-loop-kind-init t c = ap afields c.in_ok-made.ensures.items

pub own_fields-loop-kind-preserved : goal.own_fields-loop-kind-preserved
own_fields-loop-kind-preserved m c =
    full_push (scope c.args.binders c.args.names.now) _ _ c.args.kinds.now c.loop-kind.kind-index c.kind-item.result _
    c.loop-kind-test.true c.kind-item.is c.in_ok-push.ensures.items c.in_ok-one.ensures c.loop-kind.invariant

pub own_fields-returns : goal.own_fields-returns
own_fields-returns t c =
    c.loop-kind.invariant ∙ ap (λ ks. aset (all_of (scope c.args.binders c.args.names.now) ks))
    (take_all c.loop-kind.kind-index c.args.kinds.now c.loop-kind-test.false)
