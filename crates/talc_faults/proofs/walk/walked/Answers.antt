use Rattle.std.proofs.Common.{arith}
use Rattle.talc_faults.proofs.WalkLemmas.{goes_on}
use Rattle.talc_faults.specs.Walk.{walked}
use Rattle.talc_faults.proofs.walk.walked.Goals as goal

pub loop-at-preserved : goal.loop-at-preserved
loop-at-preserved c = record {
  bound = omega (arith, c.loop-at-test.true);
  same = goes_on c.args.text.now c.args.name.now c.loop-at.w c.step-w.result
      (walked c.args.text.now c.args.name.now c.args.wanted) c.loop-at.at c.loop-at-test.true c.step-w.ensures
      c.loop-at.invariant.same;
}
