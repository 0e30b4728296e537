use Rattle.std.proofs.Common.{◌∷◌, []}
use Rattle.f_terms.specs.Stacked.{trees_of}
use Rattle.f_grammar.specs.Term.{tree_of}
use Rattle.f_parser.specs.Binding.{Bind, todos, stand, steps, Follows}
use Rattle.f_parser.proofs.binding.bind.Given as goal

abbrev pub invariant-loop-task : goal.invariant-loop-task
invariant-loop-task l =
    Follows l.text (stand (Bind (tree_of l.term) ∷ []) [] [] [])
    (stand (todos l.state.tasks.items) l.state.values l.state.types (trees_of l.state.stack))

abbrev pub decreases-loop-task : goal.decreases-loop-task
decreases-loop-task l = steps (todos l.state.tasks.items)
