use Rattle.std.proofs.Common.{◌↔◌, drop}
use Rattle.t_types.specs.Read.{file, fields}
use Rattle.assembly_rows.specs.FewNames.{FewInFile, FewInFields}
use Rattle.assembly_rows.proofs.tests.few_names.+types.Given as goal

abbrev pub invariant-few_in_file-loop-reg : goal.invariant-few_in_file-loop-reg
invariant-few_in_file-loop-reg l = FewInFile l.k (file l.regs) ↔ FewInFile l.k (file (drop l.reg-index l.regs))

abbrev pub invariant-few_in_fields-loop-field : goal.invariant-few_in_fields-loop-field
invariant-few_in_fields-loop-field l = FewInFields l.k (fields l.fields) ↔ FewInFields l.k (fields
    (drop l.field-index l.fields))
