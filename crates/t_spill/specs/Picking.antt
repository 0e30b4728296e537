-- The registers of a new frame.
use Rattle.std.specs.Prelude.{◌≡◌, ℕ, ◌<◌, Bool, true, false, cond, nat_lt, List, [], ◌∷◌, Option, Some, None}
use Rattle.t_types.specs.Tree.{Ty, TFile, NoRegs, MoreRegs}
use Rattle.t_types.specs.Fits.{lookup}
use Rattle.t_spill_rules.specs.Spill.{among}
use Rattle.t_spill_code.specs.Homes.{has_in}
use Rattle.t_spill_code.specs.declared.homes.Homes.{Homes}

abbrev pub wanted : ℕ → List ℕ → ℕ → Bool
wanted m ws r = cond (nat_lt m r) (among r ws) false

abbrev pub picked_one : ℕ → Option Ty → TFile → TFile
picked_one r None rest = rest
picked_one r (Some t) rest = MoreRegs r t rest

-- those of the registers qs that are wanted, with the types that x gives them
abbrev pub picked : ℕ → List ℕ → TFile → List ℕ → TFile
picked m ws x [] = NoRegs
picked m ws x (q ∷ qs) = cond (wanted m ws q) (picked_one q (lookup x q) (picked m ws x qs)) (picked m ws x qs)

-- each register above m that is wanted and known has a home in the map
abbrev pub Homed : ℕ → List ℕ → TFile → Homes → Type 0
Homed m ws x hs = (r : ℕ) (t : Ty) → m < r → among r ws ≡ true → lookup x r ≡ Some t → has_in hs r ≡ true
