use Rattle.std.proofs.Common.{sym, subst, List, length}
use Rattle.h_terms.specs.Nodes.{h_blocks, HRow}
use Rattle.h_terms.specs.declared.node.HNode.{HNode}
use Rattle.a_pass.proofs.Blocks.{block_is, block_keeps}
use Rattle.a_pass.proofs.program.block.Goals as goal

pub body-requires : goal.body-requires
body-requires c = record { one = subst (λ (xs : List HNode). HRow xs 1) (sym c.deref-2.ensures.value) c.requires }

pub returns-clause-made : goal.returns-clause-made
returns-clause-made c =
    block_is (h_blocks c.args.blocks.now) (length c.args.tuples.now.items) c.args.one.now _ _ _ c.in_ok-args.args
    c.in_ok-made.made c.deref.ensures.value c.deref-2.ensures.value c.deref-3.ensures.value c.in_ok-made.ensures.tree
    c.in_ok-args.ensures

pub returns-clause-keeps : goal.returns-clause-keeps
returns-clause-keeps c =
    block_keeps (h_blocks c.args.blocks.now) (length c.args.tuples.now.items) c.args.one.now _ _ _ _
    c.deref.ensures.value c.deref-2.ensures.value c.in_ok-made.ensures.keeps
