-- What is well formed under n type names has no other free index.
use Rattle.std.specs.Prelude.{ℕ, ◌+◌}
use Rattle.t_types.specs.Tree.{Ty, IntTy, VarTy, CodeTy, ExistsTy, TupleTy, TFile, NoRegs, MoreRegs, TFields, NoFields}
use Rattle.t_types.specs.Tree.{MoreFields, Below, BelowFile, each_fields}
use Rattle.t_types.specs.WellFormed.{WellFormed, RegsAbove, WellFormedFields}
use Rattle.idx_core.specs.Over.{BelowAt, AnyDepth}

mutual
  pub well_formed_below : (n : ℕ) (t : Ty) → WellFormed n t → Below n t
  well_formed_below n IntTy h = tt
  well_formed_below n (VarTy i) h = h
  well_formed_below n (CodeTy owes file) h = (tt, regs_below 0 (n + owes) file h.1)
  well_formed_below n (ExistsTy t) h = (tt, well_formed_below (n + 1) t h.1)
  well_formed_below n (TupleTy fields) h = fields_below n fields h

  pub regs_below : (low n : ℕ) (file : TFile) → RegsAbove low n file → BelowFile n file
  regs_below low n NoRegs h = tt
  regs_below low n (MoreRegs r t file) h = (well_formed_below n t h.2, regs_below r n file h.3)

  pub fields_below : (n : ℕ) (fields : TFields) → WellFormedFields n fields → each_fields BelowAt AnyDepth n fields
  fields_below n NoFields h = tt
  fields_below n (MoreFields t flag fields) h = (well_formed_below n t h.0, fields_below n fields h.1)
