use Rattle.std.proofs.Common.{◌≡◌, ◌++◌, ◌+◌, ◌-◌}
use Rattle.page_core.specs.Names.{names_in_row}
use Rattle.page_core.proofs.names.write_type_names.Given as goal

abbrev pub invariant-loop-i : goal.invariant-loop-i
invariant-loop-i l =
    l.text.items ++ names_in_row l.i (l.first + l.i) (l.count - l.i)
    ≡ l.initial.text.items ++ names_in_row 0 l.first l.count
