use Rattle.std.proofs.Common.{rules}
use Rattle.idx_core.proofs.Kept.{level_set}
use Rattle.idx_core.proofs.names.change_level.Goals as goal

pub returns-in-Some : goal.returns-in-Some
returns-in-Some c = λ _.
    level_set c.args.levels.now (c.get_mut.follows.lender c.args.level) c.args.name.now c.args.level
    ((c.get_mut.follows.holds c.args.level).3 (search rules))
