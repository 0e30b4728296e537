use Rattle.std.proofs.Common.{◌≡◌, drop}
use Rattle.t_reader.proofs.scope.release.Given as goal

abbrev pub invariant-loop : goal.invariant-loop
invariant-loop l = l.scope ≡ drop l.counter l.initial.scope
