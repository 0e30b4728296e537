-- The first difference of two types of the assembly language, and the first place at which one does not fit another.
use Rattle.std.specs.Prelude.{ℕ, ◌+◌, ◌==◌, ◌||◌, ◌&&◌, min, Bool, true, [], ◌∷◌, Option, Some, None, option_map}
use Rattle.std.specs.Prelude.{if◌then◌else◌}
use mathlib.Core.Bool.{beq}
use Rattle.t_types.specs.Tree.{Ty, IntTy, VarTy, CodeTy, ExistsTy, TupleTy, TFile, NoRegs, MoreRegs, TFields, NoFields}
use Rattle.t_types.specs.Tree.{MoreFields}
use Rattle.t_types.specs.Fields.{TField, AField, field}
use Rattle.t_types.specs.Fits.{lookup}
use Rattle.type_path.specs.Paths.{Path, Head, Integer, Variable, Tuple, Package, Code, Initialised, follow, or_else}
use Rattle.type_path.specs.Paths.{inside}
use Rattle.type_path.specs.declared.step.Step.{Step}
use Rattle.type_path.specs.declared.step.Step.TheVariants.{Body, Field, Flag, Register}

-- what a type has parts of: types, and the flags of its fields
pub data Part : Type 0 where
  Whole : (t : Ty) → Part
  FlagOf : (flag : Bool) → Part

-- what a type is, apart from its parts: of code, how many types it owes
abbrev pub type_head : Ty → Head
type_head IntTy = Integer
type_head (VarTy i) = Variable i
type_head (CodeTy owes file) = Code owes
type_head (ExistsTy t) = Package
type_head (TupleTy fs) = Tuple

abbrev pub head : Part → Head
head (Whole t) = type_head t
head (FlagOf flag) = Initialised flag

abbrev pub type_of_field : TField → Part
type_of_field (AField t flag) = Whole t

abbrev pub flag_of_field : TField → Part
flag_of_field (AField t flag) = FlagOf flag

-- the part behind a step: fields have the numbers that `ld` takes
abbrev pub type_into : Step → Ty → Option Part
type_into Body (ExistsTy t) = Some (Whole t)
type_into (Field i) (TupleTy fs) = option_map type_of_field (field fs i)
type_into (Flag i) (TupleTy fs) = option_map flag_of_field (field fs i)
type_into (Register r) (CodeTy owes file) = option_map Whole (lookup file r)
type_into other t = None

abbrev pub into : Step → Part → Option Part
into s (Whole t) = type_into s t
into s (FlagOf flag) = None

-- the part at a path, and its head
abbrev pub part : Path → Ty → Option Part
part p t = follow into p (Whole t)

abbrev pub heads : Ty → Path → Option Head
heads t p = option_map head (part p t)

-- how many type names a whole binds around its parts, and how many are bound at a path
abbrev pub binds : Part → ℕ
binds (Whole (CodeTy owes file)) = owes
binds (Whole (ExistsTy t)) = 1
binds other = 0

abbrev pub behind : (Part → ℕ) → Option Part → ℕ
behind count None = 0
behind count (Some x) = count x

abbrev pub bound : Path → Part → ℕ
bound [] x = 0
bound (s ∷ p) x = binds x + behind (bound p) (into s x)

-- the difference of two flags of field k
abbrev pub flag_difference : ℕ → (flag own : Bool) → Option Path
flag_difference k flag own = if beq flag own then None else Some (Flag k ∷ [])

-- the path to the first difference, where there is one; bound names are numbers, so they make none
abbrev mutual
  pub difference : Ty → Ty → Option Path
  difference IntTy IntTy = None
  difference (VarTy i) (VarTy j) = if i == j then None else Some []
  difference (CodeTy m file) (CodeTy n other) = if m == n then in_files file other else Some []
  difference (ExistsTy t) (ExistsTy u) = inside Body (difference t u)
  difference (TupleTy fs) (TupleTy gs) = in_fields 0 fs gs
  difference t u = Some []

  -- that of files of registers: where one of them lacks a register of the other, it is the register
  pub in_files : TFile → TFile → Option Path
  in_files NoRegs NoRegs = None
  in_files (MoreRegs r t file) (MoreRegs q u other) =
      if r == q then or_else (inside (Register r) (difference t u)) (in_files file other)
      else Some (Register (min r q) ∷ [])
  in_files (MoreRegs r t file) NoRegs = Some (Register r ∷ [])
  in_files NoRegs (MoreRegs q u other) = Some (Register q ∷ [])

  -- that of fields, from field k on: of each its type, and then its flag
  pub in_fields : ℕ → TFields → TFields → Option Path
  in_fields k NoFields NoFields = None
  in_fields k (MoreFields t flag fs) (MoreFields u own gs) =
      or_else (inside (Field k) (difference t u)) (or_else (flag_difference k flag own) (in_fields (k + 1) fs gs))
  in_fields k fs gs = Some (Field k ∷ [])

-- ---- a type that is wanted, and one that is found

-- fields that are wanted, each with a flag of 1 also where that of the field that is found is 1, where that is loose
abbrev pub taken : (loose : Bool) → (wanted found : TFields) → TFields
taken loose NoFields found = NoFields
taken loose (MoreFields t flag fs) NoFields = MoreFields t flag fs
taken loose (MoreFields t flag fs) (MoreFields u own gs) = MoreFields t (flag || (loose && own)) (taken loose fs gs)

-- what is asked of a type that is found: a flag that it has at 1 may be forgotten, so it counts as wanted
abbrev pub asked : (wanted found : Ty) → Ty
asked (TupleTy fs) (TupleTy gs) = TupleTy (taken true fs gs)
asked wanted found = wanted

-- the path to the first place at which the found type does not fit the wanted one
abbrev pub misfit : (wanted found : Ty) → Option Path
misfit wanted found = difference (asked wanted found) found
