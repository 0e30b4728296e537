use Rattle.std.proofs.Common.{◌∙◌}
use Rattle.k_terms.specs.Whole.{term_of}
use Rattle.k_terms.proofs.Counted.{codes_are}
use Rattle.k_terms.proofs.count.codes.Goals as goal

pub returns : goal.returns
returns c =
    c.loop-node.invariant.all
    ∙ codes_are c.nodes-node-items.result.now c.loop-node.node-index (term_of c.args.program.now)
    c.nodes-node-items.ensures c.loop-node-test.false
