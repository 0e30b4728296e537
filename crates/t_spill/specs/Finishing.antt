-- What a slot more, and a new frame, make of the code so far.
use Rattle.std.specs.Prelude.{◌≡◌, ℕ, suc, ◌<◌, true, cond, nat_eq, List, [], ◌∷◌, length, Some}
use Rattle.t_types.specs.Tree.{Ty, TFile}
use Rattle.t_types.specs.Fits.{lookup}
use Rattle.t_terms.specs.Tree.{TSeq}
use Rattle.t_spill_rules.specs.Spill.{Held, InSlot, homed, into, keep, layout, before, gather, fill_slot}
use Rattle.t_spill_rules.specs.Spill.{among, numbers, high_part}
use Rattle.t_spill_laws.proofs.Files.{Ascends}
use Rattle.t_spill_laws.proofs.Live.{Agree}
use Rattle.t_spill_code.specs.Homes.{home_in, has_in, Sets, text}
use Rattle.t_spill_code.specs.declared.homes.Homes.{Homes}
use Rattle.t_spill.specs.declared.finish.Code.{Code}

abbrev pub used : Code → ℕ
used c = length c.body.slots.items

-- the word of rd, of type t, is in the next slot
abbrev pub Filled : Code → Code → ℕ → Ty → Type 0
Filled old new rd t =
    Sets old.homes new.homes rd (InSlot (used old)) × (used new ≡ suc (used old))
    × ((more : List Ty) (rest : TSeq) → text old.homes.split.low new.body more rest
    ≡ text old.homes.split.low old.body (t ∷ more)
    (before (fill_slot old.homes.split.low (used old) (t ∷ more)) rest))

-- the words of all registers of x that ws has are at hand, where the one of rd was just computed; y knows as much of
-- them
abbrev pub Frames : Homes → ℕ → List ℕ → TFile → TFile → Type 0
Frames hs rd ws y x =
    Ascends x × Agree ws x y
    × ((r : ℕ) (t : Ty) → hs.split.low < r → among r ws ≡ true → lookup x r ≡ Some t →
    cond (nat_eq rd r) true (has_in hs r) ≡ true)

-- they are in a new frame
abbrev pub Gathered : Code → Code → ℕ → List ℕ → TFile → Type 0
Gathered old new rd ws x =
    (new.homes.split.low ≡ old.homes.split.low) × (used new ≡ 0)
    × ((r : ℕ) → home_in new.homes r ≡ (layout old.homes.split.low (keep ws x)).homes r)
    × ((r : ℕ) → has_in new.homes r ≡ among r (numbers (high_part old.homes.split.low (keep ws x))))
    × ((more : List Ty) (rest : TSeq) → text old.homes.split.low new.body more rest
    ≡ text old.homes.split.low old.body [] (before (gather old.homes.split.low
    (homed (home_in old.homes) rd (Held (into old.homes.split.low rd)))
    (high_part old.homes.split.low (keep ws x))) rest))
