-- What the verdict of a table's machine says of a token list, in words of the table's grammar.
use Rattle.std.specs.Prelude.{◌≡◌, ℕ, List, [], ◌∷◌}
use Rattle.text_core.specs.Table.{Table, Verdict, Fine, Unexpected, Passed}
use Rattle.text_core.specs.Shapes.{Grammar, NonePasses, IsUnexpected, IsCutShort, IsPassed}

-- the grammar that a table is for
abbrev pub grammar_of : Table → Grammar
grammar_of g = record { Tok = g.Tok; Tree = g.Tree; Shape = g.Shape; opens = g.opens }

-- the tokens are a shape within the limit, and these are the values that it makes
pub record IsFine (g : Table) (limit : ℕ) (w : List g.Tok) (vs : List g.Val) : Type 0 where
  pub value : g.Tree
  pub shape : g.Shape w value
  pub is : vs ≡ g.tree value ∷ []
  pub within : NonePasses (grammar_of g) limit w

-- what a verdict says of the tokens
abbrev pub Says : (g : Table) → ℕ → List g.Tok → Verdict g → Type 0
Says g limit w (Fine vs) = IsFine g limit w vs
Says g limit w (Unexpected []) = IsCutShort (grammar_of g) limit w
Says g limit w (Unexpected (c ∷ z)) = (u : List g.Tok) × IsUnexpected (grammar_of g) limit w u c z
Says g limit w (Passed []) = ⊥
Says g limit w (Passed (c ∷ z)) = (u : List g.Tok) × IsPassed (grammar_of g) limit w u c z
