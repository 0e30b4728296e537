use Rattle.std.proofs.Common.{◌++◌}
use Rattle.page_core.proofs.Listed.{Left, listed}
use Rattle.a_notation.proofs.ProgramTexts.{arg_item}
use Rattle.a_notation.proofs.program.write_args.Given as goal

abbrev pub invariant-loop-i : goal.invariant-loop-i
invariant-loop-i l =
    Left (arg_item l.types) l.text.items l.i l.i l.args (l.initial.text.items ++ listed (arg_item l.types) 0 l.args)
