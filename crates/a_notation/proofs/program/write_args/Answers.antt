use Rattle.a_notation.proofs.ProgramTexts.{args_done}
use Rattle.a_notation.proofs.program.write_args.Goals as goal

pub returns : goal.returns
returns c = args_done c.args.types c.args.args.now _ _ c.loop-i.i c.loop-i.invariant c.loop-i-test.false
