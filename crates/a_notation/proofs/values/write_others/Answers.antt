use Rattle.a_notation.proofs.ValueTexts.{others_done}
use Rattle.a_notation.proofs.values.write_others.Goals as goal

pub returns : goal.returns
returns c =
    others_done c.args.types c.args.names c.args.values.now _ _ _ c.loop-at.at c.loop-at.invariant.written
    c.loop-at-test.false
