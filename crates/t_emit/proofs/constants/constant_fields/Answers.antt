use Rattle.std.proofs.Common.{◌∙◌, ap}
use Rattle.std.proofs.lemmas.List.{take_all}
use Rattle.a_terms.specs.NodeTrees.{a_consts}
use Rattle.t_gen_rules.specs.Gen.{data_of}
use Rattle.t_emit.proofs.Tuples.{const_push}
use Rattle.t_emit.proofs.constants.constant_fields.Goals as goal

pub loop-c-preserved : goal.loop-c-preserved
loop-c-preserved c =
    const_push _ _ _ c.args.consts.now c.loop-c.c-index c.c-item.result c.loop-c-test.true c.c-item.is
    c.in_ok-push.ensures.items c.in_ok-value.ensures c.in_ok-ty.ensures c.loop-c.invariant

pub returns : goal.returns
returns c = c.loop-c.invariant
    ∙ ap (λ xs. data_of (a_consts xs)) (take_all c.loop-c.c-index c.args.consts.now c.loop-c-test.false)
