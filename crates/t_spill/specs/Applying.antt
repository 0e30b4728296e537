-- Code that types may go to: each number then is a u64.
use Rattle.std.specs.Prelude.{ℕ, ◌≤◌, List, length}
use Rattle.t_types.specs.Tree.{Ty, TFile}
use Rattle.t_types.specs.WellFormed.{max_names, WellFormedTypes}
use Rattle.t_types.specs.Bounds.{OwedFile, Bounded}
use Rattle.t_spill.specs.Ready.{Enough}

abbrev pub CanApply : ℕ → TFile → List Ty → Type 0
CanApply owes x ts =
    (n : ℕ) × (n ≤ max_names) × (owes ≤ max_names) × OwedFile n owes x × WellFormedTypes n ts × (length ts ≤ owes)

abbrev pub MayApply : Ty → List Ty → Type 0
MayApply t ts = (n : ℕ) × (n ≤ max_names) × Bounded n t × WellFormedTypes n ts × Enough t ts
