-- Answers whether what is known of the registers fits a file, or a part of it; none where memory is wanted.
use Rattle.std.specs.Prelude.{ℕ, List, Bool, IsTrue, ◌↔◌, Result, IfOk}
use Rattle.idx_core.specs.declared.memory.OutOfMemory.{OutOfMemory}
use Rattle.t_types.specs.Tree.{Ty, TFile}
use Rattle.t_types.specs.Fits.{Fits, FitsFile, RegTypes}
use Rattle.t_rules.specs.Faults.{KnownFits}
use Rattle.t_known.specs.Fitted.{FitsPlace, AgreesAt, SinceAgree}

-- the answer, if there is one, tells whether what is known of the registers fits the file
abbrev pub TellsFile : RegTypes → TFile → Result Bool OutOfMemory → Type 0
TellsFile g f r = IfOk r (λ b. IsTrue b ↔ FitsFile g f)

-- the same of the register at a place of the file, of one register and a type, of a register that the file may name,
-- and of those set from a place on
abbrev pub TellsPlace : RegTypes → TFile → ℕ → Result Bool OutOfMemory → Type 0
TellsPlace g f i a = IfOk a (λ b. IsTrue b ↔ FitsPlace g f i)

abbrev pub TellsReg : RegTypes → ℕ → Ty → Result Bool OutOfMemory → Type 0
TellsReg g r t a = IfOk a (λ b. IsTrue b ↔ KnownFits g r t)

abbrev pub TellsAt : RegTypes → TFile → ℕ → Result Bool OutOfMemory → Type 0
TellsAt g f r a = IfOk a (λ b. IsTrue b ↔ AgreesAt g f r)

abbrev pub TellsSince : RegTypes → TFile → List ℕ → ℕ → Result Bool OutOfMemory → Type 0
TellsSince g f rs i a = IfOk a (λ b. IsTrue b ↔ SinceAgree g f rs i)

-- and whether a type fits another one
abbrev pub TellsFit : Ty → Ty → Result Bool OutOfMemory → Type 0
TellsFit t u r = IfOk r (λ b. IsTrue b ↔ Fits t u)
