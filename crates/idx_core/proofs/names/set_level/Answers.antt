use Rattle.std.proofs.Common.{rules, ℕ, List, Vec, subst}
use Rattle.std.specs.BTreeMap.{BTreeMap}
use Rattle.std.specs.declared.alloc.Global.{Global}
use Rattle.idx_core.specs.Levels.{SetsLevel}
use Rattle.idx_core.specs.Bounds.{kept_level}
use Rattle.idx_core.proofs.Kept.{level_set}
use Rattle.idx_core.proofs.names.set_level.Goals as goal

pub returns-in-Some-clause-set : goal.returns-in-Some-clause-set
returns-in-Some-clause-set c =
    level_set c.args.levels.now (c.get_mut.follows.lender c.args.level) c.args.name.now c.args.level
    ((c.get_mut.follows.holds c.args.level).3 (search rules))

pub returns-clause-set : goal.returns-clause-set
returns-clause-set c =
    let new = kept_level c.insert.new.self in
    let name = c.in_ok-spelling.spelling.items in
    let set =
    level_set c.get_mut.follows.lender-at-none c.insert.new.self name c.args.level c.in_ok-insert.ensures.updates in
    subst (λ (x : List ℕ). SetsLevel (kept_level c.args.levels.now) new x c.args.level) c.in_ok-spelling.ensures.items
    (subst (λ (m : BTreeMap (Vec ℕ Global) ℕ). SetsLevel (kept_level m) new name c.args.level)
    c.get_mut.follows.holds-at-none set)
