use Rattle.std.proofs.Common.{◌≡◌, take}
use Rattle.a_terms.proofs.Weighed.{sum_of, field_sum}
use Rattle.a_terms.proofs.sizes.fields_size.Given as goal

abbrev pub invariant-loop-field : goal.invariant-loop-field
invariant-loop-field l = l.total ≡ sum_of field_sum (take l.field-index l.fields)
