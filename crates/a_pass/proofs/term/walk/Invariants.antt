use Rattle.std.proofs.Common.{◌∷◌, [], ◌++◌, drop, length}
use Rattle.a_laws.specs.Allocate.{alloc_t, data_t}
use Rattle.a_terms.specs.NodeTrees.{a_data}
use Rattle.h_terms.specs.Nodes.{h_blocks, h_tree}
use Rattle.a_pass.specs.Scope.{knowns, scope}
use Rattle.a_pass.proofs.Walking.{Walked}
use Rattle.a_pass.proofs.term.walk.Given as goal

abbrev pub invariant-loop-node : goal.invariant-loop-node
invariant-loop-node l =
    Walked (h_blocks l.blocks) (drop l.node-index l.nodes) l.progress.names.items l.progress.places.items
    l.progress.nodes.items l.tuples.items
    (alloc_t (h_blocks l.blocks) (scope 0 l.fn.names.items) (knowns l.fn.names.items) (length l.fn.tuples.items)
    (length l.fn.names.items) (h_tree l.nodes) ∷ [])
    (a_data l.fn.tuples.items ++ data_t (h_blocks l.blocks) (scope 0 l.fn.names.items) (knowns l.fn.names.items)
    (length l.fn.tuples.items) (length l.fn.names.items) (h_tree l.nodes))
