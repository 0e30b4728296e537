use Rattle.std.proofs.Common.{◌-◌, arith}
use Rattle.a_scope.proofs.Parts.{room_in, room_out}
use Rattle.a_scope.proofs.noted.room_field.Goals as goal

pub returns-then-i-types : goal.returns-then-i-types
returns-then-i-types c =
    room_in c.args.types.now c.args.i (c.args.i - 1) c.index-types-i.result (omega (arith, c.if-i-eq0.false))
    c.if-i-types.true c.index-types-i.is

pub returns : goal.returns
returns c = room_out c.args.types.now c.args.i (c.args.i - 1) (omega (arith, c.if-i-eq0.false))
    (omega (arith, c.if-i-types.false))
