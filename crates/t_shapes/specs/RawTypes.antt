-- The trees of what is read, before names are resolved.
use Rattle.std.specs.Prelude.{ℕ, Bool, map}
use Rattle.idx_core.specs.declared.span.Span.{Span}
use Rattle.t_text.specs.Raw.{RawTy, RInt, RName, RCode, RSome, RTuple, RawRegs, NoRawRegs, MoreRawRegs, RawFields}
use Rattle.t_text.specs.Raw.{NoRawFields, MoreRawFields, RawReg, RawField, raw_regs}
use Rattle.t_shapes.specs.declared.raw_types.RawType.{RawType, Row_of-RawFile-regs-3 as RegRow}
use Rattle.t_shapes.specs.declared.raw_types.RawType.{end_of-RawFile-regs-3 as end_of_regs}
use Rattle.t_shapes.specs.declared.raw_types.RawType.{more_of-RawFile-regs-3 as more_of_regs}
use Rattle.t_shapes.specs.declared.raw_types.RawType.{Row_of-RawType-Tuple-0-2 as FieldRow}
use Rattle.t_shapes.specs.declared.raw_types.RawType.{end_of-RawType-Tuple-0-2 as end_of_fields}
use Rattle.t_shapes.specs.declared.raw_types.RawType.{more_of-RawType-Tuple-0-2 as more_of_fields}
use Rattle.t_shapes.specs.declared.raw_types.RawType.TheVariants.{Int, Name, Code', Some', Tuple'}
use Rattle.t_shapes.specs.declared.raw_types.RawFile.{RawFile}

abbrev mutual
  pub raw : RawType → RawTy
  raw Int = RInt
  raw (Name s) = RName s
  raw (Code' names n row) = RCode names.items (row_regs row)
  raw (Some' s p t) = RSome s (raw t)
  raw (Tuple' n row) = RTuple (row_fields row)

  pub row_regs : {n : _} → RegRow n → RawRegs
  row_regs end_of_regs = NoRawRegs
  row_regs (more_of_regs r s t rest) = MoreRawRegs r s (raw t) (row_regs rest)

  pub row_fields : {n : _} → FieldRow n → RawFields
  row_fields end_of_fields = NoRawFields
  row_fields (more_of_fields t flag rest) = MoreRawFields (raw t) flag (row_fields rest)

-- the same of the items of a vector
abbrev pub raw_reg : ℕ × Span × RawType → RawReg
raw_reg x = record { reg = x.0; place = x.1; ty = raw x.2 }

abbrev pub raw_field : RawType × Bool → RawField
raw_field x = record { ty = raw x.0; flag = x.1 }

abbrev pub raw_file : RawFile → RawRegs
raw_file f = raw_regs (map raw_reg f.regs.items)
