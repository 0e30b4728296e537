use Rattle.t_text.specs.Kept.{tokens_of}
use Rattle.std.proofs.Common.{sym}
use Rattle.t_shapes.proofs.Turned.{begun}
use Rattle.t_shapes.proofs.turns.begin.Goals as goal

pub returns : goal.returns
returns c =
    let tal = sym c.in_ok-take.ensures in
    let number = sym c.in_ok-number.ensures in
    let heads = sym c.in_ok-version.ensures in
    begun (tokens_of c.args.tokens.now) c.in_ok-version.version c.in_ok-take.field-0 c.in_ok-number.number tal number
    heads
