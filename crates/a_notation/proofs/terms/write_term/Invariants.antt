use Rattle.std.proofs.Common.{◌++◌, length}
use Rattle.a_scope.specs.Scope.{scope}
use Rattle.a_terms.specs.NodeTrees.{a_tree}
use Rattle.a_terms.specs.Program.{program_in}
use Rattle.a_notation.specs.Notation.{term_text}
use Rattle.a_notation.proofs.ScopeTexts.{Writing}
use Rattle.a_notation.proofs.terms.write_term.Given as goal

abbrev pub invariant-loop-node : goal.invariant-loop-node
invariant-loop-node l =
    Writing l.of.typed (program_in l.of.program.now) l.nodes l.node-index l.walk.vars.items l.walk.scopes.items
    l.text.items
    (l.initial.text.items ++ term_text l.of.typed (program_in l.of.program.now) (scope l.types l.fn.vars.items) l.types
    (length l.fn.vars.items) 1 (a_tree l.nodes))
