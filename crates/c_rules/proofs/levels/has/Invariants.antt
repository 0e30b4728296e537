use Rattle.std.proofs.Common.{◌≡◌, drop}
use Rattle.c_rules.specs.Sweep as W
use Rattle.c_rules.proofs.levels.has.Given as goal

abbrev pub invariant-loop-x : goal.invariant-loop-x
invariant-loop-x l = W.has l.l (drop l.x-index l.levels) ≡ W.has l.l l.levels
