use Rattle.std.proofs.Common.{◌++◌}
use Rattle.t_terms.specs.Read.{blocks_of}
use Rattle.t_writer.specs.Lexeme.{render}
use Rattle.t_writer.specs.Written.{blocks_written}
use Rattle.t_writer.proofs.Coded.{Blocking}
use Rattle.t_writer.proofs.blocks.write_blocks.Given as goal

abbrev pub invariant-loop-i : goal.invariant-loop-i
invariant-loop-i l =
    Blocking l.blocks l.i l.text.items (l.initial.text.items ++ render (blocks_written 0 (blocks_of l.blocks)))
