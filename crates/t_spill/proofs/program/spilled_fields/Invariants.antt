use Rattle.std.proofs.Common.{◌≡◌, take, map}
use Rattle.t_spill.proofs.Parts.{plain_field, spilled_field}
use Rattle.t_spill.proofs.program.spilled_fields.Given as goal

abbrev pub invariant-loop-field : goal.invariant-loop-field
invariant-loop-field l = map plain_field l.made.items ≡ map (spilled_field l.split.low) (take l.field-index l.fields)
