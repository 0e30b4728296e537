use Rattle.std.proofs.Common.{◌↔◌, drop}
use Rattle.t_terms.specs.Read.{data_fields}
use Rattle.t_terms.specs.Spanned.{plain_fields}
use Rattle.assembly_rows.specs.FewNames.{FewInData}
use Rattle.assembly_rows.proofs.tests.few_names.few_in_data.Given as goal

abbrev pub invariant-loop-field : goal.invariant-loop-field
invariant-loop-field l = FewInData l.k (plain_fields (data_fields l.fields)) ↔ FewInData l.k (plain_fields (data_fields
    (drop l.field-index l.fields)))
