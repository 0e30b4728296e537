use Rattle.std.proofs.Common.{◌≡◌, take}
use Rattle.a_terms.proofs.Weighed.{sum_of}
use Rattle.a_terms.specs.Weights.{node_size}
use Rattle.a_terms.proofs.sizes.nodes_size.Given as goal

abbrev pub invariant-loop-node : goal.invariant-loop-node
invariant-loop-node l = l.total ≡ sum_of node_size (take l.node-index l.nodes)
