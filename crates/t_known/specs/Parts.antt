-- The parts of the types of a table, each by its number.
use Rattle.std.specs.Prelude.{◌≡◌, ◌≢◌, ℕ, ◌<◌, List, length, Option, Some, None}
use Rattle.t_types.specs.Tree.{Ty, CodeTy, ExistsTy, TFile}
use Rattle.t_intern.specs.Nodes.{at, regs_at, RegsBelow}
use Rattle.t_known.specs.declared.parts.CodeParts.{CodeParts}

-- the parts of the type of a number, where it has that form
abbrev pub IsCode : List Ty → ℕ → Option CodeParts → Type 0
IsCode ts n (Some p) = (at ts n ≡ CodeTy p.owes (regs_at ts p.regs.items)) × RegsBelow (length ts) p.regs.items
IsCode ts n None = (owes : ℕ) (f : TFile) → at ts n ≢ CodeTy owes f

abbrev pub IsRegsOf : List Ty → ℕ → List (ℕ × ℕ) → Type 0
IsRegsOf ts n regs = ((owes : ℕ) × (at ts n ≡ CodeTy owes (regs_at ts regs))) × RegsBelow (length ts) regs

-- a register with the number of its type, as one with its type
abbrev pub with_type : List Ty → ℕ × ℕ → ℕ × Ty
with_type ts x = (x.0, at ts x.1)

abbrev pub IsExists : List Ty → ℕ → Option ℕ → Type 0
IsExists ts n (Some body) = (at ts n ≡ ExistsTy (at ts body)) × (body < length ts)
IsExists ts n None = (body : Ty) → at ts n ≢ ExistsTy body

-- how many types the code of a number owes
abbrev pub IsOwing : List Ty → ℕ → Option ℕ → Type 0
IsOwing ts n (Some owes) = (f : TFile) × (at ts n ≡ CodeTy owes f)
IsOwing ts n None = (owes : ℕ) (f : TFile) → at ts n ≢ CodeTy owes f
