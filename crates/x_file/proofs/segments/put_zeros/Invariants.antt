use Rattle.std.proofs.Common.{◌≡◌, ◌++◌, ◌≤◌}
use Rattle.x_file.specs.File.{zeros}
use Rattle.x_file.proofs.segments.put_zeros.Given as goal

abbrev pub invariant-loop : goal.invariant-loop
invariant-loop l = record {
  bytes : l.file.items ≡ l.initial.file.items ++ zeros l.counter;
  within : l.counter ≤ l.count;
}
