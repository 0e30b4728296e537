use Rattle.c_emit.proofs.Places.{level_in, level_out}
use Rattle.c_emit.proofs.vars.level_of.Goals as goal

pub returns-then-i-depth : goal.returns-then-i-depth
returns-then-i-depth c = level_in c.args.depth c.args.i c.if-i-depth.true

pub returns-else-i-depth : goal.returns-else-i-depth
returns-else-i-depth c = level_out c.args.depth c.args.i c.if-i-depth.false
