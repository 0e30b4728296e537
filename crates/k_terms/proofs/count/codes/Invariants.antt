use Rattle.std.proofs.Common.{◌≡◌, ◌≤◌, take, count_by}
use Rattle.k_terms.specs.Counts.{code_node}
use Rattle.k_terms.proofs.count.codes.Given as goal

abbrev pub invariant-loop-node : goal.invariant-loop-node
invariant-loop-node l = record {
  few : l.count ≤ l.node-index;
  all : l.count ≡ count_by code_node (take l.node-index l.node-items);
}
