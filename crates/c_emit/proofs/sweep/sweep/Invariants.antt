use Rattle.std.proofs.Common.{◌≡◌, ◌≤◌, drop, length, map}
use Rattle.c_rules.specs.Sweep as W
use Rattle.k_terms.specs.Read.{knode}
use Rattle.c_emit.specs.Swept.{state}
use Rattle.c_emit.proofs.sweep.sweep.Given as goal

abbrev pub invariant-loop-left : goal.invariant-loop-left
invariant-loop-left l = record {
  inside : l.left ≤ length l.nodes;
  is : state l.walk ≡ W.sweep (map knode (drop l.left l.nodes));
}

abbrev pub decreases-loop-left : goal.decreases-loop-left
decreases-loop-left l = l.left
