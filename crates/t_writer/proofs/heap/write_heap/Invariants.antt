use Rattle.std.proofs.Common.{◌++◌}
use Rattle.t_terms.specs.Read.{data_of}
use Rattle.t_writer.specs.Lexeme.{render}
use Rattle.t_writer.specs.Written.{heap_written}
use Rattle.t_writer.proofs.Filled.{Heaping}
use Rattle.t_writer.proofs.heap.write_heap.Given as goal

abbrev pub invariant-loop-i : goal.invariant-loop-i
invariant-loop-i l = Heaping l.heap l.i l.text.items (l.initial.text.items ++ render (heap_written 0 (data_of l.heap)))
