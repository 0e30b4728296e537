use Rattle.std.proofs.Common.{◌-◌, arith}
use Rattle.a_pass.proofs.Keeping.{field_in, field_out}
use Rattle.a_pass.proofs.noting.field_among.Goals as goal

pub returns-then-i-ts : goal.returns-then-i-ts
returns-then-i-ts c =
    field_in c.args.ts.now c.args.i (c.args.i - 1) c.index-ts-i.result (omega (arith, c.if-i-eq0.false))
    c.if-i-ts.true c.index-ts-i.is

pub returns : goal.returns
returns c = field_out c.args.ts.now c.args.i (c.args.i - 1) (omega (arith, c.if-i-eq0.false))
    (omega (arith, c.if-i-ts.false))
