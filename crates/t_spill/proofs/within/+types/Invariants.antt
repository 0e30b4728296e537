use Rattle.std.proofs.Common.{◌↔◌, drop}
use Rattle.t_types.specs.Read.{file, fields}
use Rattle.t_spill_laws.specs.Bound.{InFile, InFields}
use Rattle.t_spill.proofs.within.+types.Given as goal

abbrev pub invariant-file_within-loop-reg : goal.invariant-file_within-loop-reg
invariant-file_within-loop-reg l = InFile l.k (file l.regs) ↔ InFile l.k (file (drop l.reg-index l.regs))

abbrev pub invariant-fields_within-loop-field : goal.invariant-fields_within-loop-field
invariant-fields_within-loop-field l = InFields l.k (fields l.fields) ↔ InFields l.k (fields
    (drop l.field-index l.fields))
