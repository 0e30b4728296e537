use Rattle.std.proofs.Common.{◌++◌}
use Rattle.t_terms.specs.Spanned.{seq_of}
use Rattle.t_terms.specs.Read.{body, end_of}
use Rattle.t_writer.specs.Lexeme.{render}
use Rattle.t_writer.specs.Written.{seq_written}
use Rattle.t_writer.proofs.Coded.{Coding}
use Rattle.t_writer.proofs.blocks.write_code.Given as goal

abbrev pub invariant-loop-entry : goal.invariant-loop-entry
invariant-loop-entry l =
    Coding l.body (end_of l.end) l.entry-index l.names l.text.items
    (l.initial.text.items ++ render (seq_written l.depth (seq_of (body l.body) (end_of l.end))))
