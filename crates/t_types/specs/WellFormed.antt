-- Which types a program may have: what the invariant of programs asks of each.
use Rattle.std.specs.Prelude.{ℕ, ◌+◌, ◌<◌, ◌≤◌, List, [], ◌∷◌}
use Rattle.std.specs.Coded.{le_prop, Unit-prop}
use Rattle.t_types.specs.Tree.{Ty, IntTy, VarTy, CodeTy, ExistsTy, TupleTy, TFile, NoRegs, MoreRegs, TFields, NoFields}
use Rattle.t_types.specs.Tree.{MoreFields}

-- the greatest number of a register, and of a field
abbrev pub max_number : ℕ
max_number = 9223372036854775807

-- the greatest number of type names that are bound around a place
abbrev pub max_names : ℕ
max_names = 4611686018427387904

abbrev pub IsRegister : ℕ → Type 0
IsRegister r = (1 ≤ r) × (r ≤ max_number)

-- under n type names: each index is one of them, files have their registers in ascending order, and not too many
-- names are bound around a place
abbrev mutual
  pub WellFormed : ℕ → Ty → Type 0
  WellFormed n IntTy = Unit {0}
  WellFormed n (VarTy i) = i < n
  WellFormed n (CodeTy owes file) = (n + owes ≤ max_names) × RegsAbove 0 (n + owes) file
  WellFormed n (ExistsTy t) = (n + 1 ≤ max_names) × WellFormed (n + 1) t
  WellFormed n (TupleTy fields) = WellFormedFields n fields

  -- the registers rise from above `low`, each once
  pub RegsAbove : ℕ → ℕ → TFile → Type 0
  RegsAbove low n NoRegs = Unit {0}
  RegsAbove low n (MoreRegs r t file) = (low < r) × (r ≤ max_number) × WellFormed n t × RegsAbove r n file

  pub WellFormedFields : ℕ → TFields → Type 0
  WellFormedFields n NoFields = Unit {0}
  WellFormedFields n (MoreFields t flag fields) = WellFormed n t × WellFormedFields n fields

abbrev pub WellFormedFile : ℕ → TFile → Type 0
WellFormedFile n file = RegsAbove 0 n file

abbrev pub WellFormedTypes : ℕ → List Ty → Type 0
WellFormedTypes n [] = Unit {0}
WellFormedTypes n (t ∷ ts) = WellFormed n t × WellFormedTypes n ts

-- there is one proof of it at most
mutual
  pub well_formed_prop : (n : ℕ) (t : Ty) → IsProp (WellFormed n t)
  well_formed_prop n IntTy = Unit-prop
  well_formed_prop n (VarTy i) = le_prop
  well_formed_prop n (CodeTy owes file) = let rest = regs_above_prop 0 (n + owes) file in hlevel (le_prop, rest)
  well_formed_prop n (ExistsTy t) = let rest = well_formed_prop (n + 1) t in hlevel (le_prop, rest)
  well_formed_prop n (TupleTy fields) = fields_prop n fields

  pub regs_above_prop : (low n : ℕ) (file : TFile) → IsProp (RegsAbove low n file)
  regs_above_prop low n NoRegs = Unit-prop
  regs_above_prop low n (MoreRegs r t file) = let here = well_formed_prop n t in let rest =
      regs_above_prop r n file in hlevel (le_prop, here, rest)

  pub fields_prop : (n : ℕ) (fields : TFields) → IsProp (WellFormedFields n fields)
  fields_prop n NoFields = Unit-prop
  fields_prop n (MoreFields t flag fields) = let here = well_formed_prop n t in let rest =
      fields_prop n fields in hlevel (here, rest)

pub types_prop : (n : ℕ) (ts : List Ty) → IsProp (WellFormedTypes n ts)
types_prop n [] = Unit-prop
types_prop n (t ∷ ts) = let here = well_formed_prop n t in let rest = types_prop n ts in hlevel (here, rest)
