use Rattle.std.proofs.Common.{◌≡◌, length}
use Rattle.f_check.proofs.notes.table.Given as goal

abbrev pub invariant-loop : goal.invariant-loop
invariant-loop l = length l.types.items ≡ l.counter
