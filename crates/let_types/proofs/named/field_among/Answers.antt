use Rattle.std.proofs.Common.{◌∙◌, ◌-◌, ap, arith}
use Rattle.calc_core.specs.Walks.{shift}
use Rattle.let_types.proofs.Naming.{field_in, field_none, field_out}
use Rattle.let_types.proofs.named.field_among.Goals as goal

pub returns-then-i-eq0 : goal.returns-then-i-eq0
returns-then-i-eq0 c = ap (shift c.args.by 0) (field_none c.args.fields.now c.args.i (omega arith))

pub returns-then-i-fields : goal.returns-then-i-fields
returns-then-i-fields c =
    c.in_ok-made.ensures
    ∙ ap (shift c.args.by 0) (field_in c.args.fields.now c.args.i (c.args.i - 1) c.index-fields-i.result (omega arith)
    (omega arith) c.index-fields-i.is)

pub returns : goal.returns
returns c = ap (shift c.args.by 0) (field_out c.args.fields.now c.args.i (c.args.i - 1) (omega arith) (omega arith))
