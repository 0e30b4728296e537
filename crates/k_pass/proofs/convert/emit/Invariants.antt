use Rattle.std.proofs.Common.{◌≡◌, ◌+◌, ◌++◌}
use Rattle.f_terms.specs.NotedTerm.{noted_at, noted_of}
use Rattle.f_terms.specs.ReadTerm.{count}
use Rattle.k_pass.specs.Emit.{emit_of}
use Rattle.k_pass.specs.Machine.{written, stream, control_steps, owed, Inside}
use Rattle.k_pass.proofs.convert.emit.Given as goal

abbrev pub invariant-loop-control : goal.invariant-loop-control
invariant-loop-control l = record {
  all : written l.work ++ stream (noted_at l.term l.types) l.work l.control ≡ emit_of (noted_of l.term l.types);
  inside : Inside (count l.term) l.work l.control;
}

abbrev pub decreases-loop-control : goal.decreases-loop-control
decreases-loop-control l = control_steps (noted_at l.term l.types) l.control + owed (noted_at l.term l.types) l.work
