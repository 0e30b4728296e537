use Rattle.std.proofs.Common.{◌++◌}
use Rattle.page_core.proofs.Listed.{Left, listed}
use Rattle.a_notation.proofs.ProgramTexts.{tuple_item}
use Rattle.a_notation.proofs.program.write_tuples.Given as goal

abbrev pub invariant-loop-number : goal.invariant-loop-number
invariant-loop-number l =
    Left tuple_item l.text.items l.number l.number l.tuples (l.initial.text.items ++ listed tuple_item 0 l.tuples)
