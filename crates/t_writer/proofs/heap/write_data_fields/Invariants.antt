use Rattle.std.proofs.Common.{◌++◌}
use Rattle.t_writer.specs.Lexeme.{render}
use Rattle.t_writer.specs.Written.{data_fields_written}
use Rattle.t_writer.proofs.Filled.{Filling, fields_in}
use Rattle.t_writer.proofs.heap.write_data_fields.Given as goal

abbrev pub invariant-loop-i : goal.invariant-loop-i
invariant-loop-i l =
    Filling l.fields l.i l.text.items (l.initial.text.items ++ render (data_fields_written 0 (fields_in l.fields)))
