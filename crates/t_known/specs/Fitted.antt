-- When what is known of the registers fits a file, by the registers alone; and when it does but for those set since.
use Rattle.std.specs.Prelude.{◌≡◌, ℕ, zero, suc, ◌+◌, ◌<◌, ◌≤◌, ◌⊎◌, List, length, Option, Some, None, slice_index_or}
use Rattle.t_types.specs.Tree.{Ty, TFile, NoRegs, MoreRegs}
use Rattle.t_types.specs.Fits.{RegTypes, lookup}
use Rattle.t_rules.specs.Faults.{KnownFits}

-- the registers of the file rise from `low` on, each once
abbrev pub RisesFrom : ℕ → TFile → Type 0
RisesFrom low NoRegs = Unit {0}
RisesFrom low (MoreRegs r t file) = (low ≤ r) × RisesFrom (r + 1) file

abbrev pub Rises : TFile → Type 0
Rises file = RisesFrom 0 file

-- the register at a place of a file, with its type
abbrev pub reg_in : TFile → ℕ → Option (ℕ × Ty)
reg_in NoRegs i = None
reg_in (MoreRegs r t file) zero = Some (r, t)
reg_in (MoreRegs r t file) (suc i) = reg_in file i

-- that one is known, by a type that fits, if there is one
abbrev pub FitsPlace : RegTypes → TFile → ℕ → Type 0
FitsPlace g file i = (r : ℕ) (t : Ty) → reg_in file i ≡ Some (r, t) → KnownFits g r t

-- a register is known so, if the file names it
abbrev pub AgreesAt : RegTypes → TFile → ℕ → Type 0
AgreesAt g file r = (t : Ty) → lookup file r ≡ Some t → KnownFits g r t

-- the register stands in the list, at the place i or later
abbrev pub IsSince : List ℕ → ℕ → ℕ → Type 0
IsSince rs i r = (j : ℕ) × (i ≤ j) × (j < length rs) × (slice_index_or rs j 0 ≡ r)

-- each that stands there agrees with the file
abbrev pub SinceAgree : RegTypes → TFile → List ℕ → ℕ → Type 0
SinceAgree g file rs i = (j : ℕ) → i ≤ j → j < length rs → AgreesAt g file (slice_index_or rs j 0)

-- each register that the file names fits, or stands there
abbrev pub FitsBut : RegTypes → TFile → List ℕ → ℕ → Type 0
FitsBut g file rs i = (r : ℕ) (t : Ty) → lookup file r ≡ Some t → IsSince rs i r ⊎ KnownFits g r t
