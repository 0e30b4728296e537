use Rattle.std.proofs.Common.{◌≡◌, ◌++◌, ◌+◌, ◌-◌}
use Rattle.t_writer.specs.Lexeme.{render}
use Rattle.t_writer.specs.Written.{names_written}
use Rattle.t_writer.proofs.names.write_binds.Given as goal

abbrev pub invariant-loop-i : goal.invariant-loop-i
invariant-loop-i l = l.text.items ++ render (names_written l.i (l.depth + l.i) (l.count - l.i)) ≡ l.initial.text.items
    ++ render (names_written 0 l.depth l.count)
