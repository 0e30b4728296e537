use Rattle.std.proofs.Common.{◌∙◌, ap}
use Rattle.std.proofs.lemmas.List.{take_all}
use Rattle.a_terms.specs.NodeTrees.{a_consts, a_data}
use Rattle.t_gen_rules.specs.Gen.{data_of, generated_heap}
use Rattle.t_emit.proofs.Tuples.{heap_push}
use Rattle.t_emit.proofs.constants.all_data.Goals as goal

pub loop-tuple-preserved : goal.loop-tuple-preserved
loop-tuple-preserved c =
    heap_push _ _ _ c.args.tuples.now c.loop-tuple.tuple-index c.tuple-item.result c.loop-tuple-test.true
    c.tuple-item.is c.in_ok-push.ensures.items
    (c.in_ok-fields.ensures ∙ ap (λ xs. data_of (a_consts xs)) c.deref.ensures.value) c.loop-tuple.invariant

pub returns : goal.returns
returns c = c.loop-tuple.invariant
    ∙ ap (λ xs. generated_heap (a_data xs))
    (take_all c.loop-tuple.tuple-index c.args.tuples.now c.loop-tuple-test.false)
