use Rattle.std.proofs.Common.{◌≡◌, ◌++◌}
use Rattle.f_terms.specs.ReadTerm.{term_of}
use Rattle.f_writer.specs.Notation.{term_text}
use Rattle.f_writer.specs.Tasks.{todos, all_done, steps}
use Rattle.f_writer.proofs.writer.write_term.Given as goal

abbrev pub invariant-loop-task : goal.invariant-loop-task
invariant-loop-task l = l.text.items ++ all_done (todos l.tasks.items) ≡ term_text (term_of l.term)

abbrev pub decreases-loop-task : goal.decreases-loop-task
decreases-loop-task l = steps (todos l.tasks.items)
