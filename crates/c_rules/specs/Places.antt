-- Where the variables of the source stand in the target.
use Rattle.std.specs.Prelude.{ℕ, zero, suc, Bool, true, false, List, [], ◌∷◌, Option, Some, None}
use Rattle.calc_core.specs.Ends.{after_one}

-- where each variable stands, innermost first: None where it is not at hand
abbrev pub Places : Type 0
Places = List (Option ℕ)

abbrev pub further_one : Option ℕ → Option ℕ
further_one None = None
further_one (Some i) = Some (suc i)

-- the places under one more name
abbrev pub further : Places → Places
further [] = []
further (p ∷ ps) = further_one p ∷ further ps

abbrev pub place : Places → ℕ → Option ℕ
place [] i = None
place (p ∷ ps) zero = p
place (p ∷ ps) (suc i) = place ps i

-- n places from o on, and then the others
abbrev pub from_on : ℕ → ℕ → Places → Places
from_on o zero ps = ps
from_on o (suc n) ps = Some o ∷ from_on (suc o) n ps

abbrev pub keep_one : Bool → ℕ → Option ℕ
keep_one true o = Some o
keep_one false o = None

-- the kept ones get places from o on
abbrev pub kept_places : ℕ → (ℕ → Bool) → Places → Places
kept_places o keep [] = []
kept_places o keep (p ∷ ps) = keep_one (keep 0) o ∷ kept_places (after_one (keep 0) o) (λ i. keep (suc i)) ps

-- how many are kept
abbrev pub kept_count : (ℕ → Bool) → Places → ℕ
kept_count keep [] = 0
kept_count keep (p ∷ ps) = after_one (keep 0) (kept_count (λ i. keep (suc i)) ps)
