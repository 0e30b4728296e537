use Rattle.std.proofs.Common.{take}
use Rattle.t_intern.specs.Grown.{Grown, AreNumbers}
use Rattle.t_known.specs.Labels.{field_types}
use Rattle.t_known.proofs.labels.number_fields.Given as goal

abbrev pub invariant-loop-field : goal.invariant-loop-field
invariant-loop-field l = record {
  grown : Grown l.fn.types l.types;
  made : AreNumbers l.types (field_types (take l.field-index l.fields)) l.made.items;
}
