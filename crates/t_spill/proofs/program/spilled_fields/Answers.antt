use Rattle.std.proofs.Common.{sym, subst}
use Rattle.t_spill_code.specs.Onto.{LabelHasNext}
use Rattle.t_spill.proofs.Parts.{field_ready, all_fields}
use Rattle.t_spill.proofs.program.spilled_fields.Goals as goal

pub moved_base-base-requires : goal.moved_base-base-requires
moved_base-base-requires c =
    subst LabelHasNext (sym c.base_of.ensures)
    (field_ready c.args.fields.now c.loop-field.field-index c.field-item.result c.loop-field-test.true c.field-item.is
    c.requires)

pub returns : goal.returns
returns c =
    all_fields c.args.split.low c.loop-field.made.items c.args.fields.now c.loop-field.field-index
    c.loop-field.invariant c.loop-field-test.false
