use Rattle.std.proofs.Common.{◌++◌, length}
use Rattle.h_terms.specs.Nodes.{h_blocks, h_tree}
use Rattle.let_types.specs.Names.{scope}
use Rattle.h_notation.specs.Notation.{term_text}
use Rattle.h_notation.proofs.ScopeTexts.{Writing}
use Rattle.h_notation.proofs.terms.write_term.Given as goal

abbrev pub invariant-loop-node : goal.invariant-loop-node
invariant-loop-node l =
    Writing l.of.typed (h_blocks l.of.blocks.now) l.nodes l.node-index l.walk.names.items l.walk.scopes.items
    l.text.items
    (l.initial.text.items ++ term_text l.of.typed (h_blocks l.of.blocks.now) (scope l.types l.fn.names.items) l.types
    (length l.fn.names.items) 1 (h_tree l.nodes))
