use Rattle.std.proofs.Common.{◌∙◌, ap}
use Rattle.std.proofs.lemmas.List.{take_all}
use Rattle.a_terms.specs.Tree as a
use Rattle.a_terms.specs.Typing.{data_fields}
use Rattle.a_terms.specs.NodeTrees.{a_consts}
use Rattle.a_terms.specs.ReadLaws.{a_tuple}
use Rattle.a_scope.proofs.Tuples.{full_push}
use Rattle.a_scope.proofs.value.full_tuple.Goals as goal

pub loop-c-preserved : goal.loop-c-preserved
loop-c-preserved c = full_push _ _ c.args.consts.now c.loop-c.c-index c.c-item.result _ c.loop-c-test.true
    c.c-item.is c.in_ok-push.ensures.items c.in_ok-one.ensures c.loop-c.invariant

pub returns : goal.returns
returns c = a_tuple _ ∙ ap a.ATuple (c.loop-c.invariant
    ∙ ap (λ xs. data_fields (a_consts xs)) (take_all c.loop-c.c-index c.args.consts.now c.loop-c-test.false))
