use Rattle.std.proofs.Common.{◌≡◌, drop, ◌++◌}
use Rattle.c_rules.specs.Sweep as W
use Rattle.c_rules.proofs.levels.thin.Given as goal

abbrev pub invariant-loop-i : goal.invariant-loop-i
invariant-loop-i l = l.made.items ++ W.thin l.d (drop l.i l.levels) ≡ W.thin l.d l.levels
