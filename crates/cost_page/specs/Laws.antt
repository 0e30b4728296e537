-- Laws of the numbers on the page, before 64 bits cap them, and of the places that it shows.
use Rattle.std.specs.Prelude.{◌≡◌, ℕ, ◌≤◌, ◌==◌, ◌⊎◌, List, [], ◌∷◌, ◌++◌, length, filter, All, sum_by}
use Rattle.std.specs.Prelude.{IsPermutation}
use Rattle.cost_page.specs.Page.{weight, kinds, most}
use Rattle.cost_page.specs.declared.places.Kind.{Kind}
use Rattle.cost_page.specs.declared.places.Kind.TheVariants.{Halt}
use Rattle.cost_page.specs.declared.places.Place.{Place}
use Rattle.cost_page.specs.declared.totals.Measure.TheVariants.{Of}

-- the kinds that have a row, and the one that is never executed
abbrev pub every_kind : List Kind
every_kind = kinds ++ (Halt ∷ [])

-- the sums of all kinds together are what all places were executed
abbrev pub KindsAddUp : Type 0
KindsAddUp =
    (ps : List Place) → sum_by (λ k. sum_by (weight (Of k)) ps) every_kind ≡ sum_by (λ (p : Place). p.count) ps

-- no place was executed more often than one before it
abbrev pub Descending : List Place → Type 0
Descending [] = Unit {0}
Descending (p ∷ ps) = All (λ (q : Place). q.count ≤ p.count) ps × Descending ps

-- the place was not executed, or ten are shown, and none of them was executed less often
abbrev pub IsPassedOver : List Place → Place → Type 0
IsPassedOver top p = (p.count ≡ 0) ⊎ ((length top ≡ 10) × All (λ (q : Place). p.count ≤ q.count) top)

-- The places that are shown are at most ten, each was executed, and the most executed stand first. With the others,
-- which are passed over, they are all places, in another order.
pub record IsMost (ps top : List Place) : Type 0 where
  pub few : length top ≤ 10
  pub executed : All (λ (p : Place). 1 ≤ p.count) top
  pub descending : Descending top
  pub others : List Place
  pub all : IsPermutation ps (top ++ others)
  pub less : All (IsPassedOver top) others

-- the places that the page shows are those executed most
abbrev pub MostIsMost : Type 0
MostIsMost = (ps : List Place) → IsMost ps (most [] ps)

-- of places that were executed equally often, those that come first in the program are shown, in their order
abbrev pub FirstOfEquals : Type 0
FirstOfEquals =
    (ps : List Place) (n : ℕ) → 1 ≤ n →
    (others : List Place)
    × (filter (λ (p : Place). p.count == n) (most [] ps) ++ others ≡ filter (λ (p : Place). p.count == n) ps)
