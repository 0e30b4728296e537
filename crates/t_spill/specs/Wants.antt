-- Registers in front of others. What is wanted, told by last places.
use Rattle.std.specs.Prelude.{◌≡◌, ℕ, ◌+◌, ◌<◌, ◌^◌, nat_lt, List, [], ◌∷◌, drop, length}
use Rattle.std.specs.BTreeMap.{BTreeMap, get}
use Rattle.std.specs.Option.{unwrap_or}
use Rattle.std.specs.Ordering.{nat_cmp}
use Rattle.t_spill_rules.specs.Spill.{among}
use Rattle.t_spill.specs.declared.ahead.Ahead.{Ahead}

abbrev pub join : List ℕ → List ℕ → List ℕ
join [] rest = rest
join (q ∷ qs) rest = q ∷ join qs rest

-- one more than the last place of a register; 0 where it has none
abbrev pub last_of : BTreeMap ℕ ℕ → ℕ → ℕ
last_of m r = unwrap_or (get nat_cmp m r) 0

-- which registers are among these, and among those that are left where more of them are passed; each place is a number
-- of the machine
abbrev pub Tells : Ahead → List ℕ → Type 0
Tells a wants =
    (a.passed + length wants < 2 ^ 64)
    × ((n r : ℕ) → among r (drop n wants) ≡ nat_lt (a.passed + n) (last_of a.last r))
