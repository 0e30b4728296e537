use Rattle.std.proofs.Common.{◌≡◌}
use Rattle.t_terms.specs.ReadProgram.{program}
use Rattle.t_rules.specs.Known.{KnownAt}
use Rattle.t_intern.specs.Grown.{Grown}
use Rattle.t_known.specs.Known.{known, IsSound}
use Rattle.t_check.proofs.walk.pass.Given as goal

abbrev pub invariant-loop-i : goal.invariant-loop-i
invariant-loop-i l = record {
  grown : Grown l.fn.types l.types;
  sound : IsSound l.types l.checker.registers;
  same : l.checker.program.now ≡ l.of.program.now;
  labels : l.checker.labels.now ≡ l.of.labels.now;
  known : KnownAt (program l.of.program.now) l.block l.i l.checker.registers.names (known l.types l.checker.registers);
}
