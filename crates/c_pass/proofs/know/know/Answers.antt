use Rattle.std.proofs.Common.{◌∙◌, ◌+◌, ap, sym, drop, map}
use Rattle.k_terms.specs.Read.{knode}
use Rattle.c_pass.specs.Read.{total}
use Rattle.c_pass.proofs.know.know.Goals as goal
use Rattle.c_emit.proofs.Writes.{read_drop}

pub loop-node-preserved : goal.loop-node-preserved
loop-node-preserved c =
    c.in_ok-step.ensures (map knode (drop (c.loop-node.node-index + 1) c.args.nodes.now))
    ∙ ap (total c.loop-node.walk)
    (sym (read_drop c.args.nodes.now c.loop-node.node-index c.node-item.result c.loop-node-test.true
    c.node-item.is))
    ∙ c.loop-node.invariant
