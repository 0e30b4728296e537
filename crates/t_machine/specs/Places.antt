-- Places of registers.
use Rattle.std.specs.Prelude.{◌≡◌, ℕ, ◌<◌, List, length, Option, Some}
use Rattle.std.specs.Ordering.{nat_cmp}
use Rattle.std.specs.BTreeMap.{is_at}
use Rattle.std.specs.Map.{lookup}

-- registers, each with the place of its word
abbrev pub PlaceList : Type 0
PlaceList = List (ℕ × ℕ)

abbrev pub register_place : PlaceList → ℕ → Option ℕ
register_place m r = lookup (is_at (nat_cmp r)) m

-- each place is below the number of places, and no two registers have one place
abbrev pub ArePlaces : PlaceList → Type 0
ArePlaces m =
    ((r k : ℕ) → register_place m r ≡ Some k → k < length m)
    × ((r q k : ℕ) → register_place m r ≡ Some k → register_place m q ≡ Some k → r ≡ q)

-- each register that has a place in m has it in n too
abbrev pub Extends : PlaceList → PlaceList → Type 0
Extends m n = (r k : ℕ) → register_place m r ≡ Some k → register_place n r ≡ Some k
