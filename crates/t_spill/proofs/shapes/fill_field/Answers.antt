use Rattle.t_spill.proofs.Tuples.{fill_done}
use Rattle.t_spill.proofs.shapes.fill_field.Goals as goal

pub returns : goal.returns
returns c = fill_done c.loop-j.made.items c.args.fs.now c.loop-j.j c.args.i c.loop-j.invariant c.loop-j-test.false
