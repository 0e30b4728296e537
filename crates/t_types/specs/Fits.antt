-- Which type fits which (own choice: flags may be forgotten, and registers left over).
use Rattle.std.specs.Prelude.{◌≡◌, ℕ, IsTrue, nat_eq, cond, Option, Some, None}
use Rattle.t_types.specs.Tree.{Ty, TupleTy, TFile, NoRegs, MoreRegs, TFields, NoFields, MoreFields}

-- equal types in turn, and a flag is 1 only where the own is 1
abbrev pub FieldsFit : TFields → TFields → Type 0
FieldsFit NoFields NoFields = Unit {0}
FieldsFit (MoreFields t own fs) (MoreFields u flag gs) = (t ≡ u) × (IsTrue flag → IsTrue own) × FieldsFit fs gs
FieldsFit NoFields (MoreFields u flag gs) = ⊥
FieldsFit (MoreFields t own fs) NoFields = ⊥

-- a tuple type fits a tuple type that its fields fit; another type fits where it is the same
abbrev pub Fits : Ty → Ty → Type 0
Fits (TupleTy fs) (TupleTy gs) = FieldsFit fs gs
Fits t u = t ≡ u

-- what is known of the registers: a type for some of them
abbrev pub RegTypes : Type 0
RegTypes = ℕ → Option Ty

-- a file as what is known of the registers
abbrev pub lookup : TFile → RegTypes
lookup NoRegs r = None
lookup (MoreRegs q t file) r = cond (nat_eq q r) (Some t) (lookup file r)

-- each register of the file is known, by a type that fits
abbrev pub FitsFile : RegTypes → TFile → Type 0
FitsFile g NoRegs = Unit {0}
FitsFile g (MoreRegs r t file) = ((u : Ty) × (g r ≡ Some u) × Fits u t) × FitsFile g file
