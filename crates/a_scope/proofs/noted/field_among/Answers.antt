use Rattle.std.proofs.Common.{◌∙◌, ◌-◌, arith, ap, sym, Bool}
use Rattle.a_terms.specs.Read.{atree}
use Rattle.a_terms.specs.declared.types.AType.{AType}
use Rattle.a_scope.proofs.noted.field_among.Goals as goal
use Rattle.a_terms.proofs.Fields.{field_in, field_out}

pub returns-then-i-fields : goal.returns-then-i-fields
returns-then-i-fields c =
    ap (λ (z : AType × Bool). atree z.0) (sym c.index-fields-i.is)
    ∙ field_in c.args.fields.now c.args.i (c.args.i - 1) c.index-fields-i.result (omega (arith, c.if-i-eq0.false))
    c.if-i-fields.true c.index-fields-i.is

pub returns : goal.returns
returns c = field_out c.args.fields.now c.args.i (c.args.i - 1) (omega (arith, c.if-i-eq0.false))
    (omega (arith, c.if-i-fields.false))
