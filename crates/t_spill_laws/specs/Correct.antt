-- What holds of what is spilled.
use Rattle.std.specs.Prelude.{◌≡◌, ℕ, ℤ, zero, suc, ◌-◌, ◌≤◌, nat_lt, cond, List, [], ◌∷◌, Option, Some, None}
use Rattle.std.specs.Prelude.{slice_get, count_by}
use Rattle.t_terms.specs.Tree.{TSeq, Then, Ends, TBlock, TProg}
use Rattle.t_rules.specs.Machine.{State, Place, Spot, After, HaltsWithin, Halts}
use Rattle.t_rules.specs.Times.{places, is_spot, Times}
use Rattle.t_spill_rules.specs.Spill.{lows, layout, sizes}

-- the two programs halt alike, the second never in fewer instructions
pub record HaltsAlike (P Q : TProg) : Type 0 where
  pub forth : (i : ℤ) → Halts P i → Halts Q i
  pub back : (n : ℕ) (i : ℤ) → HaltsWithin Q n i → HaltsWithin P n i

-- the place that a place of the spilled program comes from: the instruction whose code it is of
abbrev pub origin_in : List ℕ → ℕ → ℕ
origin_in [] k = 0
origin_in (n ∷ ns) k = cond (nat_lt k n) 0 (suc (origin_in ns (k - n)))

abbrev pub sizes_of : ℕ → TProg → Option TBlock → List ℕ
sizes_of m P None = []
sizes_of m P (Some b) = sizes m P (layout m b.file) b.file b.code

abbrev pub origin_above : ℕ → TProg → Place → Place
origin_above m P (Spot zero i) = Spot 0 0
origin_above m P (Spot (suc b) i) = Spot b (origin_in (sizes_of m P (slice_get P.blocks b)) i)

-- where no register of the spilled program is above k
abbrev pub origin : ℕ → TProg → Place → Place
origin k P = origin_above (lows k) P

-- a place of a program: one of its instructions, or an end
abbrev pub thens : TSeq → ℕ
thens (Then i rest) = suc (thens rest)
thens (Ends e) = 0

abbrev pub IsPlaceOf : TProg → Place → Type 0
IsPlaceOf P (Spot b i) = (x : TBlock) × (slice_get P.blocks b ≡ Some x) × (i ≤ thens x.code)

-- how often a place is in a list
abbrev pub times_in : Place → List Place → ℕ
times_in (Spot b i) ps = count_by (is_spot b i) ps

-- Each place comes from a place. And for each number of steps of the second program there is one of the first, so that
-- each place is executed at most as often as its origin is the place of a state among those up to that number.
pub record CountsKept (P Q : TProg) (from : Place → Place) : Type 0 where
  pub from_place : (p : Place) → IsPlaceOf Q p → IsPlaceOf P (from p)
  pub counts : (m2 : ℕ) (s2 : State) (p2 : Place) (run2 : After Q m2 s2 p2) →
      (m : ℕ) × (s : State) × (p : Place) × (run : After P m s p)
      × ((b i : ℕ) → Times Q m2 s2 p2 run2 b i ≤ times_in (from (Spot b i)) (p ∷ places P m s p run))
