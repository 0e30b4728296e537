use Rattle.std.proofs.Common.{refl}
use Rattle.t_spill.proofs.Lasts.{one_placed}
use Rattle.t_spill.proofs.ahead.Ahead.of.Goals as goal

pub loop-i-preserved : goal.loop-i-preserved
loop-i-preserved c =
    let m = c.insert.new.self in
    let updates = c.in_ok-insert.ensures.updates in
    one_placed c.args.wants.now c.loop-i.i _ c.loop-i.last m c.loop-i-test.true refl updates c.loop-i.invariant
