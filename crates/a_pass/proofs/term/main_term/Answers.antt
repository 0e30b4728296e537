use Rattle.std.proofs.Common.{ap, ◌∙◌, ◌++◌, sym, subst, List, length}
use Rattle.a_laws.specs.Allocate.{alloc_t, data_t}
use Rattle.a_terms.specs.NodeTrees.{a_data}
use Rattle.h_terms.specs.Nodes.{h_blocks, h_tree}
use Rattle.a_pass.specs.declared.state.Name.{Name}
use Rattle.a_pass.specs.Scope.{Under, scope, knowns}
use Rattle.a_pass.proofs.term.main_term.Goals as goal

pub walk-requires : goal.walk-requires
walk-requires c = record { one = c.requires.one; bound = subst (Under 0) (sym c.new.ensures.items) tt }

pub returns-clause-tree : goal.returns-clause-tree
returns-clause-tree c =
    c.in_ok-out.ensures.tree
    ∙ ap (λ (ns : List Name). alloc_t (h_blocks c.args.blocks.now) (scope 0 ns) (knowns ns)
    (length c.args.tuples.now.items) (length ns) (h_tree c.args.nodes.now)) c.new.ensures.items

pub returns-clause-keeps : goal.returns-clause-keeps
returns-clause-keeps c = c.in_ok-out.ensures.keeps
    ∙ ap (λ (ns : List Name). a_data c.args.tuples.now.items ++ data_t (h_blocks c.args.blocks.now) (scope 0 ns)
    (knowns ns) (length c.args.tuples.now.items) (length ns) (h_tree c.args.nodes.now)) c.new.ensures.items
