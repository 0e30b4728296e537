use Rattle.std.proofs.Common.{◌≡◌, ◌++◌, ◌≤◌, replicate}
use Rattle.x_program.proofs.content.put_slots.Given as goal

abbrev pub invariant-loop : goal.invariant-loop
invariant-loop l = record {
  bytes : l.words.items ≡ l.initial.words.items ++ replicate l.counter 0;
  within : l.counter ≤ l.registers;
}
