use Rattle.std.proofs.Common.{◌∙◌, ap}
use Rattle.std.proofs.lemmas.List.{take_all}
use Rattle.a_terms.specs.Tree as a
use Rattle.a_terms.specs.Typing.{aflagged}
use Rattle.a_terms.specs.Read.{atrees}
use Rattle.a_terms.specs.ReadLaws.{a_tuple}
use Rattle.a_terms.proofs.Fields.{flagged_push}
use Rattle.a_terms.proofs.parts.flagged_tuple.Goals as goal

pub loop-t-preserved : goal.loop-t-preserved
loop-t-preserved c =
    flagged_push c.args.flag _ _ c.args.types.now c.loop-t.t-index c.t-item.result _ c.loop-t-test.true c.t-item.is
    c.in_ok-push.ensures.items c.in_ok-one.ensures c.loop-t.invariant

pub returns : goal.returns
returns c = a_tuple _
    ∙ ap a.ATuple
    (c.loop-t.invariant
    ∙ ap (λ xs. aflagged c.args.flag (atrees xs)) (take_all c.loop-t.t-index c.args.types.now c.loop-t-test.false))
