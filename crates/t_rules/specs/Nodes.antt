-- How many nodes a type has: each part is counted as often as it stands in it.
use Rattle.std.specs.Prelude.{ℕ, ◌+◌, nat_le, Bool}
use Rattle.t_types.specs.Tree.{Ty, IntTy, VarTy, CodeTy, ExistsTy, TupleTy, TFile, NoRegs, MoreRegs, TFields, NoFields}
use Rattle.t_types.specs.Tree.{MoreFields}

abbrev mutual
  pub nodes : Ty → ℕ
  nodes IntTy = 1
  nodes (VarTy i) = 1
  nodes (CodeTy owes file) = file_nodes file + 1
  nodes (ExistsTy t) = nodes t + 1
  nodes (TupleTy fields) = fields_nodes fields + 1

  pub file_nodes : TFile → ℕ
  file_nodes NoRegs = 0
  file_nodes (MoreRegs r t file) = nodes t + file_nodes file

  pub fields_nodes : TFields → ℕ
  fields_nodes NoFields = 0
  fields_nodes (MoreFields t flag fields) = nodes t + fields_nodes fields

-- the type is written out where it is at odds with another one (the bound is our own choice)
unfoldable pub few : Ty → Bool
few t = nat_le (nodes t) 100000
