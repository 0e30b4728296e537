use Rattle.std.proofs.Common.{◌≡◌, ◌≤◌, drop, length, map}
use Rattle.c_rules.specs.TSweep as T
use Rattle.k_terms.specs.Read.{knode}
use Rattle.c_emit.specs.Swept.{tstate}
use Rattle.c_emit.proofs.tsweep.tsweep.Given as goal

abbrev pub invariant-loop-left : goal.invariant-loop-left
invariant-loop-left l = record {
  inside : l.left ≤ length l.nodes;
  is : tstate l.walk ≡ T.tsweep (map knode (drop l.left l.nodes));
}

abbrev pub decreases-loop-left : goal.decreases-loop-left
decreases-loop-left l = l.left
