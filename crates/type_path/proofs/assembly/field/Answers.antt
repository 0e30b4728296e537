use Rattle.std.proofs.Common.{Some, ap, ◌∙◌, arith}
use Rattle.type_path.specs.ReadPart.{field_of}
use Rattle.type_path.proofs.AssemblyFields.{field_there, field_gone}
use Rattle.type_path.proofs.assembly.field.Goals as goal

pub returns-then-at-fields : goal.returns-then-at-fields
returns-then-at-fields c =
    ap (λ x. Some (field_of x)) c.index-fields-at.is
    ∙ field_there c.args.fields.now c.args.i c.index-fields-at.result (omega (arith, c.if-at-fields.true))

pub returns : goal.returns
returns c = field_gone c.args.fields.now c.args.i (omega (arith, c.if-at-fields.false))
