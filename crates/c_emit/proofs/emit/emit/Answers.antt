use Rattle.std.proofs.Common.{◌∙◌, ◌+◌, ap, sym, drop, map}
use Rattle.k_terms.specs.Read.{knode}
use Rattle.c_emit.specs.Walked.{walked}
use Rattle.c_emit.proofs.Writes.{read_drop}
use Rattle.c_emit.proofs.emit.emit.Goals as goal

pub loop-node-preserved : goal.loop-node-preserved
loop-node-preserved c =
    c.in_ok-step.ensures (map knode (drop (c.loop-node.node-index + 1) c.args.nodes.now))
    ∙ ap (walked c.loop-node.walk)
    (sym (read_drop c.args.nodes.now c.loop-node.node-index c.node-item.result c.loop-node-test.true
    c.node-item.is))
    ∙ c.loop-node.invariant
