use Rattle.t_spill.proofs.Tuples.{made_empty}
use Rattle.t_spill.proofs.shapes.unfilled.Goals as goal

pub returns : goal.returns
returns c = made_empty c.loop-t.made.items c.args.types.now c.loop-t.t-index c.loop-t.invariant c.loop-t-test.false
