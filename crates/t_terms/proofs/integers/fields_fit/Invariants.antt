use Rattle.std.proofs.Common.{drop}
use Rattle.t_terms.specs.Read.{data_fields}
use Rattle.t_terms.specs.Spanned.{plain_fields}
use Rattle.t_terms.specs.Values.{DataValues}
use Rattle.t_terms.specs.Whole.{ValueFits}
use Rattle.t_terms.proofs.integers.fields_fit.Given as goal

abbrev pub invariant-loop-field : goal.invariant-loop-field
invariant-loop-field l =
    DataValues ValueFits (plain_fields (data_fields (drop l.field-index l.fields))) → DataValues ValueFits
    (plain_fields (data_fields l.fields))
