use Rattle.std.proofs.Common.{◌∙◌}
use Rattle.a_terms.proofs.Weighed.{sum_next, sum_all, nodes_sum}
use Rattle.a_terms.specs.Weights.{node_size}
use Rattle.a_terms.proofs.sizes.nodes_size.Goals as goal

pub loop-node-preserved : goal.loop-node-preserved
loop-node-preserved c =
    sum_next node_size c.args.nodes.now c.loop-node.node-index c.node-item.result _ _ _ c.loop-node-test.true
    c.node-item.is c.in_ok-n.ensures c.in_ok-total.ensures c.loop-node.invariant

pub returns : goal.returns
returns c = sum_all node_size c.args.nodes.now c.loop-node.node-index _ c.loop-node-test.false c.loop-node.invariant
    ∙ nodes_sum c.args.nodes.now
