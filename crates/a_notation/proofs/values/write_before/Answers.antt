use Rattle.std.proofs.Common.{arith}
use Rattle.a_notation.proofs.ValueTexts.{before_step}
use Rattle.a_notation.proofs.values.write_before.Goals as goal

pub loop-left-preserved : goal.loop-left-preserved
loop-left-preserved c = record {
  within = omega (arith, c.loop-left.invariant.within);
  written = before_step c.args.types c.args.wraps.now c.loop-left.left c.index-wraps-left.result _ _ _
      c.loop-left-test.true
      c.loop-left.invariant.within c.index-wraps-left.is c.loop-left.invariant.written c.in_ok-write_opening.ensures;
}
