use Rattle.h_terms.specs.Nodes.{h_blocks, values}
use Rattle.a_pass.proofs.Stepping.{made_for}
use Rattle.a_pass.proofs.nodes.step.Goals as goal

pub returns : goal.returns
returns c =
    c.in_ok-form.ensures (h_blocks c.args.blocks.now) (values c.args.node.now) c.args.progress.now.nodes.items
    c.args.tuples.now.items _
    (made_for _ _ _ _ _ _ _ _ _ _ _ _ _ _ _ c.deref.ensures.value c.deref-2.ensures.value c.in_ok-run.ensures)
    c.requires.arity
