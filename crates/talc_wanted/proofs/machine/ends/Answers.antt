use Rattle.talc_wanted.proofs.Taking.{finish_top}
use Rattle.talc_wanted.proofs.machine.ends.Goals as goal

pub loop-sym-init : goal.loop-sym-init
loop-sym-init g c = finish_top g.G.Language.owes c.args.owed.now
