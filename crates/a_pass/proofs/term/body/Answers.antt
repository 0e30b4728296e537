use Rattle.std.proofs.Common.{◌∙◌, ◌++◌, ap, length}
use Rattle.h_terms.specs.Nodes.{h_blocks, h_tree}
use Rattle.a_terms.specs.NodeTrees.{a_data}
use Rattle.a_pass.proofs.Walking.{body_is}
use Rattle.a_pass.proofs.term.body.Goals as goal

pub returns-clause-tree : goal.returns-clause-tree
returns-clause-tree c =
    c.in_ok-out.ensures.tree
    ∙ (body_is (h_blocks c.args.blocks.now) c.args.args.now c.in_ok-names.names.items (length c.args.tuples.now.items)
    (h_tree c.args.nodes.now) c.in_ok-names.ensures.knowns c.in_ok-names.ensures.scope c.in_ok-names.ensures.depth).0

pub returns-clause-keeps : goal.returns-clause-keeps
returns-clause-keeps c =
    c.in_ok-out.ensures.keeps
    ∙ ap (λ zs. a_data c.args.tuples.now.items ++ zs)
    (body_is (h_blocks c.args.blocks.now) c.args.args.now c.in_ok-names.names.items (length c.args.tuples.now.items)
    (h_tree c.args.nodes.now) c.in_ok-names.ensures.knowns c.in_ok-names.ensures.scope c.in_ok-names.ensures.depth).1
