-- Sets of registers.
use Rattle.std.specs.Prelude.{◌≡◌, ℕ, ◌+◌, ◌≤◌, ◌<◌, ◌^◌, ◌⊎◌, Bool, true, false, Some}
use Rattle.std.specs.Ordering.{nat_cmp}
use Rattle.std.specs.BTreeSet.{contains}
use Rattle.std.specs.BTreeMap.{BTreeMap, get}
use Rattle.t_gen.specs.declared.registers.Registers.{Registers}

-- the registers from 1 on of which h is false, but for the last one of 64 bits, are in one gap each, and the others in
-- none
pub record Gaps (g : BTreeMap ℕ ℕ) (h : ℕ → Bool) : Type 0 where
  pub ends : (a b : ℕ) → get nat_cmp g a ≡ Some b → (1 ≤ a) × (a < b) × (b < 2 ^ 64)
  pub only : (a b r : ℕ) → get nat_cmp g a ≡ Some b → a ≤ r → r < b → h r ≡ false
  pub found : (r : ℕ) → 1 ≤ r → r + 1 < 2 ^ 64 → h r ≡ false → (a : ℕ) × (b : ℕ) × (get nat_cmp g a ≡ Some b) × (a ≤ r)
      × (r < b)
  pub apart : (a b c d : ℕ) → get nat_cmp g a ≡ Some b → get nat_cmp g c ≡ Some d → a ≤ c → c < b → a ≡ c

-- the registers of which h is true hold something, and the others are in gaps
pub record Holds (s : Registers) (h : ℕ → Bool) : Type 0 where
  pub busy : (r : ℕ) → 1 ≤ r → contains nat_cmp s.busy r ≡ h r
  pub gaps : Gaps s.gaps h

-- h and i are the same but from a on and before b
abbrev pub Besides : ℕ → ℕ → (ℕ → Bool) → (ℕ → Bool) → Type 0
Besides a b h i = (r : ℕ) → 1 ≤ r → (r < a) ⊎ (b ≤ r) → h r ≡ i r

-- f is the first register from s on that h is not true of
abbrev pub Least : ℕ → ℕ → (ℕ → Bool) → Type 0
Least s f h = (s ≤ f) × (h f ≡ false) × ((r : ℕ) → s ≤ r → r < f → h r ≡ true)

-- t is the last register that h is true of, or 0
abbrev pub Greatest : ℕ → (ℕ → Bool) → Type 0
Greatest t h = ((t ≡ 0) ⊎ (h t ≡ true)) × ((r : ℕ) → t < r → h r ≡ false)

-- there is a register from a on that holds nothing, and it is not the last one of 64 bits
abbrev pub Room : Registers → ℕ → Type 0
Room s a = (h : ℕ → Bool) × (r : ℕ) × Holds s h × (a ≤ r) × (r + 1 < 2 ^ 64) × (h r ≡ false)
