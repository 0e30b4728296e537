use Rattle.std.proofs.Common.{◌∙◌}
use Rattle.a_terms.specs.Read.{atree}
use Rattle.a_terms.specs.declared.types.AType.{AType}
use Rattle.a_laws.specs.Allocate.{closed}
use Rattle.a_pass.proofs.Every.{closed_every, every_all, every_next, every_not}
use Rattle.a_pass.proofs.constants.all_closed.Goals as goal

pub loop-t-preserved : goal.loop-t-preserved
loop-t-preserved c =
    every_next (λ (t : AType). closed 0 (atree t)) c.args.ts.now c.loop-t.t-index c.t-item.result c.loop-t-test.true
    c.t-item.is c.loop-t.invariant c.if-not-is_closed.ensures

pub returns-then-not-is_closed : goal.returns-then-not-is_closed
returns-then-not-is_closed c =
    every_not (λ (t : AType). closed 0 (atree t)) c.args.ts.now c.loop-t.t-index c.t-item.result c.loop-t-test.true
    c.t-item.is c.if-not-is_closed.ensures ∙ closed_every c.args.ts.now

pub returns : goal.returns
returns c = every_all (λ (t : AType). closed 0 (atree t)) c.args.ts.now c.loop-t.t-index c.loop-t-test.false
    c.loop-t.invariant ∙ closed_every c.args.ts.now
