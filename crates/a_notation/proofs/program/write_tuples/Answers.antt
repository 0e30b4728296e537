use Rattle.a_notation.proofs.ProgramTexts.{tuples_done}
use Rattle.a_notation.proofs.program.write_tuples.Goals as goal

pub returns : goal.returns
returns c =
    tuples_done c.args.tuples.now _ _ c.loop-number.number c.loop-number.invariant c.loop-number-test.false
