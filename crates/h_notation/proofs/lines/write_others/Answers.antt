use Rattle.h_notation.proofs.FormTexts.{others_done}
use Rattle.h_notation.proofs.lines.write_others.Goals as goal

pub returns : goal.returns
returns c = others_done c.args.values.now _ _ _ c.loop-at.at c.loop-at.invariant.written c.loop-at-test.false
