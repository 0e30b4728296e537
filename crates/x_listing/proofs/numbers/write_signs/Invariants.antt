use Rattle.std.proofs.Common.{◌≡◌, ◌++◌, ◌≤◌, replicate}
use Rattle.x_listing.proofs.numbers.write_signs.Given as goal

abbrev pub invariant-loop : goal.invariant-loop
invariant-loop l = record {
  text : l.page.items ≡ l.initial.page.items ++ replicate l.counter l.sign;
  within : l.counter ≤ l.count;
}
