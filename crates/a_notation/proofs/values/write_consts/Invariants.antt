use Rattle.std.proofs.Common.{◌++◌}
use Rattle.page_core.proofs.Listed.{Left, listed}
use Rattle.a_notation.proofs.ValueTexts.{const_item}
use Rattle.a_notation.proofs.values.write_consts.Given as goal

abbrev pub invariant-loop-i : goal.invariant-loop-i
invariant-loop-i l =
    Left const_item l.text.items l.i l.i l.fields (l.initial.text.items ++ listed const_item 0 l.fields)
