use Rattle.std.proofs.Common.{ap, ◌∙◌, ◌++◌}
use Rattle.std.proofs.lemmas.List.{take_all}
use Rattle.t_types.specs.Read.{types}
use Rattle.t_gen_rules.specs.Gen.{tys}
use Rattle.a_terms.specs.Read.{atrees}
use Rattle.t_emit.proofs.Written.{types_push, types_none}
use Rattle.t_emit.proofs.types.written_onto.Goals as goal

pub loop-t-init : goal.loop-t-init
loop-t-init c = types_none (types c.args.before.items)

pub loop-t-preserved : goal.loop-t-preserved
loop-t-preserved c =
    types_push _ _ _ c.args.ts.now c.loop-t.t-index c.t-item.result _ c.loop-t-test.true c.t-item.is
    c.in_ok-push.ensures.items c.in_ok-one.ensures c.loop-t.invariant

pub returns : goal.returns
returns c = c.loop-t.invariant
    ∙ ap (λ xs. types c.args.before.items ++ tys (atrees xs))
    (take_all c.loop-t.t-index c.args.ts.now c.loop-t-test.false)
