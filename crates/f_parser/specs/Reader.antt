-- How far the reading of a text has come.
use Rattle.std.specs.Prelude.{◌≡◌, ◌≤◌, ℕ, List}
use Rattle.f_grammar.specs.Raw.{RawTm, Piece, nodes}
use Rattle.f_grammar.specs.Text.{HasShape}

-- the checks up to that of the nodes pass, and this is the tree of the tokens
pub record HasTree (text : List ℕ) (tree : RawTm) : Type 0 where
  pub shape : Piece
  pub has_shape : HasShape text shape
  pub few_nodes : nodes shape.tree ≤ 100000
  pub is : tree ≡ shape.tree
