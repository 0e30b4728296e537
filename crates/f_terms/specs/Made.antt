-- What is made of parts.
use Rattle.std.specs.Prelude.{◌≡◌, ◌≢◌, ℕ, ◌+◌, ◌<◌, ◌⊎◌, List, [], ◌∷◌, ◌++◌}
use Rattle.std.specs.List.{All}
use Rattle.f_terms.specs.Tm.{Spn}
use Rattle.f_terms.specs.Shape.{children, shape_tree}
use Rattle.calc_core.specs.Roots.{without_all}
use Rattle.f_terms.specs.ReadTerm.{size_of, part, loose_parts, IsLoose}
use Rattle.f_terms.specs.declared.node.FShape.{FShape}
use Rattle.f_terms.specs.declared.node.FParts.{FParts}

-- part r is new, with this form; its children are its own, and the other parts are as before
pub record IsAdded (old new : FParts) (s : Spn) (shape : FShape) (r : ℕ) : Type 0 where
  pub last : r ≡ size_of old
  pub more : size_of new ≡ size_of old + 1
  pub tree : part new r ≡ shape_tree (part old) s shape
  pub same : (k : ℕ) → k < size_of old → part new k ≡ part old k
  pub left : loose_parts new ≡ without_all (children shape) (loose_parts old) ++ r ∷ []
  pub loose : IsLoose new r
  pub others : (k : ℕ) → IsLoose old k → All (λ j. j ≢ k) (children shape) → IsLoose new k
  pub alone : (k : ℕ) → IsLoose new k → (k ≡ r) ⊎ (IsLoose old k × All (λ j. j ≢ k) (children shape))

-- nothing is changed: the parts, their trees and what is nobody's child are those of the nodes
abbrev pub IsSame : (old new : FParts) → Type 0
IsSame old new = new.nodes.items ≡ old.nodes.items

-- these are the parts that are nobody's child
abbrev pub IsStack : FParts → List ℕ → Type 0
IsStack p ks = loose_parts p ≡ ks
