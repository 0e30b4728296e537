-- What the homes of registers, and the code of a block so far, stand for.
use Rattle.std.specs.Prelude.{◌≡◌, ℕ, ◌<◌, Bool, true, cond, nat_eq, nat_lt, List, [], ◌∷◌, ◌++◌, length, Option, Some}
use Rattle.std.specs.Prelude.{None, is_some}
use Rattle.std.specs.BTreeMap.{get}
use Rattle.std.specs.Ordering.{nat_cmp}
use Rattle.t_types.specs.Tree.{Ty}
use Rattle.t_types.specs.Read.{types}
use Rattle.t_terms.specs.Tree.{TSeq, Then, Malloc}
use Rattle.t_spill_rules.specs.Spill.{Home as Place, Held, InFrame, InSlot, Layout, homed, slot_reg, among}
use Rattle.t_spill_code.specs.Onto.{onto}
use Rattle.t_spill_code.specs.declared.homes.Home.{Home}
use Rattle.t_spill_code.specs.declared.homes.Home.TheVariants.{Register, Frame, Slot}
use Rattle.t_spill_code.specs.declared.homes.Homes.{Homes}
use Rattle.t_spill_code.specs.declared.body.Body.{Body}

abbrev pub home : Home → Place
home (Register q) = Held q
home (Frame i) = InFrame i
home (Slot i) = InSlot i

-- a register that the map does not have stands nowhere: its place is that of none of n in the frame
abbrev pub home_or : ℕ → Option Home → Place
home_or n None = InFrame n
home_or n (Some h) = home h

abbrev pub home_in : Homes → ℕ → Place
home_in hs r = cond (nat_lt hs.split.low r) (home_or hs.count (get nat_cmp hs.places r)) (Held r)

-- whether the map has a register
abbrev pub has_in : Homes → ℕ → Bool
has_in hs r = is_some (get nat_cmp hs.places r)

-- r has the home h now, and all else is as it was
abbrev pub Sets : Homes → Homes → ℕ → Place → Type 0
Sets old new r h =
    (new.split.low ≡ old.split.low) × ((q : ℕ) → home_in new q ≡ homed (home_in old) r h q)
    × ((q : ℕ) → old.split.low < q → has_in new q ≡ cond (nat_eq r q) true (has_in old q))

-- numbers in order, each once
abbrev pub Above : ℕ → List ℕ → Type 0
Above low [] = Unit {0}
Above low (r ∷ rs) = (low < r) × Above r rs

abbrev pub Ascending : List ℕ → Type 0
Ascending [] = Unit {0}
Ascending (r ∷ rs) = Above r rs

-- these are the registers that the map has
abbrev pub Lists : Homes → List ℕ → Type 0
Lists hs rs = Ascending rs × ((r : ℕ) → among r rs ≡ has_in hs r)

-- the layout after the code so far
abbrev pub layout_of : Homes → Body → Layout
layout_of hs b = record { homes = home_in hs; used = length b.slots.items }

-- the slots that are filled, made with those that more types are for
abbrev pub with_slots : ℕ → List Ty → List Ty → TSeq → TSeq
with_slots m [] more rest = rest
with_slots m (t ∷ ts) more rest = Then (Malloc (slot_reg m) (t ∷ (ts ++ more))) rest

-- the code so far, where slots of these types and a rest follow
abbrev pub text : ℕ → Body → List Ty → TSeq → TSeq
text m b more rest = onto b.done.items (with_slots m (types b.slots.items) more (onto b.tail.items rest))
