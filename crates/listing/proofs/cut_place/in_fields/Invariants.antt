use Rattle.std.proofs.Common.{◌≡◌, drop}
use Rattle.t_terms.specs.Read.{data_fields}
use Rattle.listing.specs.Before.{in_fields}
use Rattle.listing.proofs.cut_place.in_fields.Given as goal

abbrev pub invariant-loop-field : goal.invariant-loop-field
invariant-loop-field l =
    in_fields l.place (data_fields l.fields) ≡ in_fields l.place (data_fields (drop l.field-index l.fields))
