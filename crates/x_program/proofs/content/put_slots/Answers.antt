use Rattle.std.proofs.Common.{arith}
use Rattle.x_file.proofs.Words.{one_more}
use Rattle.x_program.proofs.content.put_slots.Goals as goal

pub loop-preserved : goal.loop-preserved
loop-preserved c = record {
  bytes = one_more _ _ _ c.loop.counter c.loop.invariant.bytes c.in_ok-push.ensures.items;
  within = omega (arith, c.loop-test.true);
}
