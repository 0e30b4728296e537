use Rattle.std.proofs.Common.{◌≡◌, drop}
use Rattle.a_terms.specs.Read.{afields, atrees}
use Rattle.a_notation.specs.Closures.{names_fields, names_types}
use Rattle.a_notation.proofs.closures.+naming.Given as goal

abbrev pub invariant-any_names-loop-at : goal.invariant-any_names-loop-at
invariant-any_names-loop-at l = names_types l.i (atrees (drop l.at l.ts)) ≡ names_types l.i (atrees (drop l.from l.ts))

abbrev pub invariant-any_field_names-loop-field : goal.invariant-any_field_names-loop-field
invariant-any_field_names-loop-field l =
    names_fields l.i (afields (drop l.field-index l.fields)) ≡ names_fields l.i (afields l.fields)
