use Rattle.std.proofs.Common.{◌≡◌, take}
use Rattle.a_terms.proofs.Weighed.{most_of, type_bulk, field_bulk}
use Rattle.a_terms.proofs.sizes.+bulk.Given as goal

abbrev pub invariant-bulk_types-loop-t : goal.invariant-bulk_types-loop-t
invariant-bulk_types-loop-t l = l.most ≡ most_of type_bulk (take l.t-index l.ts)

abbrev pub invariant-bulk_fields-loop-field : goal.invariant-bulk_fields-loop-field
invariant-bulk_fields-loop-field l = l.most ≡ most_of field_bulk (take l.field-index l.fields)
