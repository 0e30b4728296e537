-- The tree of a term whose names are not resolved.
use Rattle.std.specs.Prelude.{ℕ, length}
use Rattle.f_grammar.specs.Raw.{RawTm}
use Rattle.f_grammar.specs.Nodes.{tree_at}
use Rattle.f_grammar.specs.declared.raw.RawTerm.{RawTerm}

-- the number of nodes, the tree of node i, and that of the whole
abbrev pub count : RawTerm → ℕ
count t = length t.nodes.items

abbrev pub node_at : RawTerm → ℕ → RawTm
node_at t = tree_at t.nodes.items

abbrev pub tree_of : RawTerm → RawTm
tree_of t = node_at t t.root
