use Rattle.std.proofs.Common.{◌↔◌, drop}
use Rattle.t_terms.specs.Read.{data_fields}
use Rattle.t_terms.specs.Spanned.{plain_fields}
use Rattle.t_spill_laws.specs.Bound.{InData}
use Rattle.t_spill.proofs.within.data_within.Given as goal

abbrev pub invariant-loop-field : goal.invariant-loop-field
invariant-loop-field l = InData l.k (plain_fields (data_fields l.fields)) ↔ InData l.k (plain_fields (data_fields
    (drop l.field-index l.fields)))
