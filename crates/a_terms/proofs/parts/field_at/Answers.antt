use Rattle.std.proofs.Common.{◌∙◌, ◌-◌, arith, ap, sym, Bool}
use Rattle.a_terms.specs.Tree.{ashift}
use Rattle.a_terms.specs.Read.{atree}
use Rattle.a_terms.specs.declared.types.AType.{AType}
use Rattle.a_terms.proofs.Fields.{field_in, field_out}
use Rattle.a_terms.proofs.parts.field_at.Goals as goal

pub returns-in_ok-made : goal.returns-in_ok-made
returns-in_ok-made c =
    c.in_ok-made.ensures
    ∙ ap (ashift c.args.by 0)
    (ap (λ (z : AType × Bool). atree z.0) (sym c.index-fields-i.is)
    ∙ field_in c.args.fields.now c.args.i (c.args.i - 1) c.index-fields-i.result (omega (arith, c.if-i-eq0.false))
    c.if-i-fields.true c.index-fields-i.is)

pub returns-else-i-fields : goal.returns-else-i-fields
returns-else-i-fields c =
    ap (ashift c.args.by 0)
    (field_out c.args.fields.now c.args.i (c.args.i - 1) (omega (arith, c.if-i-eq0.false))
    (omega (arith, c.if-i-fields.false)))
