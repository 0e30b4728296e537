use Rattle.std.proofs.Common.{◌≡◌, ◌++◌, drop}
use Rattle.c_rules.specs.Know as W
use Rattle.c_pass.specs.Read.{bounds}
use Rattle.c_pass.proofs.bounds.bound_levels.Given as goal

abbrev pub invariant-loop-l : goal.invariant-loop-l
invariant-loop-l l = l.out.items ++ W.bound_levels (bounds l.xs) (drop l.l-index l.levels) ≡ l.initial.out.items
    ++ W.bound_levels (bounds l.xs) l.levels
