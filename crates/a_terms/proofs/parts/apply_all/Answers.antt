use Rattle.a_terms.proofs.Fields.{apply_next, apply_end}
use Rattle.a_terms.proofs.parts.apply_all.Goals as goal

pub loop-t-preserved : goal.loop-t-preserved
loop-t-preserved c =
    apply_next _ _ _ c.args.ts.now c.loop-t.t-index c.t-item.result c.loop-t-test.true c.t-item.is c.in_ok-made.ensures
    c.loop-t.invariant

pub returns : goal.returns
returns c = apply_end _ _ c.args.ts.now c.loop-t.t-index c.loop-t-test.false c.loop-t.invariant
