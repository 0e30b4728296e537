use Rattle.a_notation.proofs.ValueTexts.{consts_done}
use Rattle.a_notation.proofs.values.write_consts.Goals as goal

pub returns : goal.returns
returns c = consts_done c.args.fields.now _ _ c.loop-i.i c.loop-i.i c.loop-i.invariant c.loop-i-test.false
