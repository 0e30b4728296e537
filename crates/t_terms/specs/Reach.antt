-- The reach of a type: the greatest number of constructs that are open at one place of it. The brace of a register file
-- counts twice, since a bound on registers puts a frame there.
use Rattle.std.specs.Prelude.{ℕ, ◌+◌, max, List, [], ◌∷◌}
use Rattle.t_types.specs.Tree.{Ty, IntTy, VarTy, CodeTy, ExistsTy, TupleTy, TFile, NoRegs, MoreRegs, TFields, NoFields}
use Rattle.t_types.specs.Tree.{MoreFields}

abbrev mutual
  pub type_reach : Ty → ℕ
  type_reach IntTy = 0
  type_reach (VarTy i) = 0
  type_reach (CodeTy owes file) = regs_reach file + 2
  type_reach (ExistsTy t) = type_reach t + 1
  type_reach (TupleTy fields) = fields_reach fields + 1

  pub regs_reach : TFile → ℕ
  regs_reach NoRegs = 0
  regs_reach (MoreRegs r t file) = max (type_reach t) (regs_reach file)

  pub fields_reach : TFields → ℕ
  fields_reach NoFields = 0
  fields_reach (MoreFields t flag fields) = max (type_reach t) (fields_reach fields)

abbrev pub types_reach : List Ty → ℕ
types_reach [] = 0
types_reach (t ∷ ts) = max (type_reach t) (types_reach ts)
