-- The plain trees of the program's values.
use Rattle.std.specs.Prelude.{ℕ, Bool, List, map}
use Rattle.t_types.specs.Tree.{Ty, IntTy, VarTy, CodeTy, ExistsTy, TupleTy, TFile, NoRegs, MoreRegs, TFields, NoFields}
use Rattle.t_types.specs.Tree.{MoreFields, regs, flagged}
use Rattle.t_types.specs.declared.types.TType.{TType, Row_of-RegFile-regs-2 as RegRow}
use Rattle.t_types.specs.declared.types.TType.{end_of-RegFile-regs-2 as end_of_regs}
use Rattle.t_types.specs.declared.types.TType.{more_of-RegFile-regs-2 as more_of_regs}
use Rattle.t_types.specs.declared.types.TType.{Row_of-TType-Tuple-0-2 as FieldRow}
use Rattle.t_types.specs.declared.types.TType.{end_of-TType-Tuple-0-2 as end_of_fields}
use Rattle.t_types.specs.declared.types.TType.{more_of-TType-Tuple-0-2 as more_of_fields}
use Rattle.t_types.specs.declared.types.RegFile.{RegFile}
use Rattle.t_types.specs.declared.types.TType.TheVariants.{Int, Var, Code', Exists', Tuple'}

abbrev mutual
  pub tree : TType → Ty
  tree Int = IntTy
  tree (Var i) = VarTy i
  tree (Code' owes n row) = CodeTy owes (row_file row)
  tree (Exists' p t) = ExistsTy (tree t)
  tree (Tuple' n row) = TupleTy (row_fields row)

  pub row_file : {n : _} → RegRow n → TFile
  row_file end_of_regs = NoRegs
  row_file (more_of_regs r t rest) = MoreRegs r (tree t) (row_file rest)

  pub row_fields : {n : _} → FieldRow n → TFields
  row_fields end_of_fields = NoFields
  row_fields (more_of_fields t flag rest) = MoreFields (tree t) flag (row_fields rest)

-- the same of the items of a vector
abbrev pub reg : ℕ × TType → ℕ × Ty
reg x = (x.0, tree x.1)

abbrev pub file : List (ℕ × TType) → TFile
file xs = regs (map reg xs)

abbrev pub flag : TType × Bool → Ty × Bool
flag x = (tree x.0, x.1)

abbrev pub fields : List (TType × Bool) → TFields
fields xs = flagged (map flag xs)

abbrev pub types : List TType → List Ty
types ts = map tree ts

abbrev pub file_tree : RegFile → TFile
file_tree r = file r.regs.items
