use Rattle.a_pass.proofs.Runs.{made_none, made_next, made_all}
use Rattle.a_pass.proofs.run.read.Goals as goal

pub loop-one-init : goal.loop-one-init
loop-one-init c =
    made_none _ _ _ _ _ _ _ _ _ c.none_read-run.ensures.values c.none_read-run.ensures.types
    c.none_read-run.ensures.depth

pub loop-one-preserved : goal.loop-one-preserved
loop-one-preserved c =
    made_next _ _ _ _ _ c.args.parts.now c.loop-one.one-index c.one-item.result _ _ _ _ _ _ _ _ _ _ _ _
    c.loop-one-test.true c.one-item.is c.loop-one.invariant c.in_ok-run.ensures

pub returns : goal.returns
returns c =
    made_all _ _ _ _ _ c.args.parts.now c.loop-one.one-index _ _ _ _ _ _ _ c.loop-one-test.false c.loop-one.invariant
