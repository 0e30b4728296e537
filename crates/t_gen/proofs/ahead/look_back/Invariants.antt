use Rattle.std.proofs.Common.{◌≤◌, [], length, drop}
use Rattle.a_terms.specs.NodeTrees.{a_onto}
use Rattle.a_terms.specs.Arity.{ARow}
use Rattle.t_gen.specs.Uses.{newest, back, AllHold, Told}
use Rattle.t_gen.proofs.ahead.look_back.Given as goal

abbrev pub invariant-loop-left : goal.invariant-loop-left
invariant-loop-left l = record {
  few : l.left ≤ length l.nodes;
  sets : AllHold (newest l.sets.items) (a_onto (drop l.left l.nodes) []);
  told : Told (drop l.left l.nodes) (back l.made.items);
  row : ARow (drop l.left l.nodes) (length l.sets.items);
}

abbrev pub decreases-loop-left : goal.decreases-loop-left
decreases-loop-left l = l.left
