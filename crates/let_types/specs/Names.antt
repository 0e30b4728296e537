-- The types of the names in scope.
use Rattle.std.specs.Prelude.{◌≤◌, ℕ, ◌-◌, List, [], ◌∷◌, ◌++◌}
use Rattle.calc_core.specs.Read.{tree}
use Rattle.calc_core.specs.Walks.{shift}
use Rattle.c_terms.specs.C.{CTy}
use Rattle.let_types.specs.declared.named.Named.{Named}

-- a name's type where k type names are in scope
abbrev pub shown : ℕ → Named → CTy
shown k e = shift (k - e.types) 0 (tree e.ty)

-- the types of the names, the last one first
abbrev pub scope : ℕ → List Named → List CTy
scope k [] = []
scope k (e ∷ es) = scope k es ++ shown k e ∷ []

-- each type was noted where no more than k type names were in scope
abbrev pub Under : ℕ → List Named → Type 0
Under k [] = Unit {0}
Under k (e ∷ es) = (e.types ≤ k) × Under k es
