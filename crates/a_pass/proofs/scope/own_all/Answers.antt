use Rattle.std.proofs.Common.{ap, ◌∙◌}
use Rattle.std.proofs.lemmas.List.{take_all}
use Rattle.a_terms.specs.Read.{atrees}
use Rattle.a_pass.specs.Scope.{all_of, scope}
use Rattle.a_pass.proofs.TypeLists.{all_push}
use Rattle.a_pass.proofs.scope.own_all.Goals as goal

pub loop-kind-init : goal.loop-kind-init
loop-kind-init c = ap atrees c.in_ok-made.ensures.items

pub loop-kind-preserved : goal.loop-kind-preserved
loop-kind-preserved c =
    all_push (scope c.args.binders c.args.names.now) _ _ c.args.kinds.now c.loop-kind.kind-index c.kind-item.result _
    c.loop-kind-test.true c.kind-item.is c.in_ok-push.ensures.items c.in_ok-one.ensures c.loop-kind.invariant

pub returns : goal.returns
returns c =
    c.loop-kind.invariant ∙ ap (all_of (scope c.args.binders c.args.names.now)) (take_all c.loop-kind.kind-index
    c.args.kinds.now c.loop-kind-test.false)
