use Rattle.std.proofs.Common.{arith, ap, ◌∙◌, ◌++◌, replicate, ◌≡◌}
use Rattle.x_listing.proofs.Turns.{one_sign}
use Rattle.x_listing.proofs.numbers.write_signs.Goals as goal

pub loop-preserved : goal.loop-preserved
loop-preserved c = record {
  text = one_sign _ _ _ c.loop.counter _ c.loop.invariant.text c.in_ok-push.ensures.items;
  within = omega (arith, c.loop-test.true);
}
