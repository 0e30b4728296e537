use Rattle.std.proofs.Common.{◌≡◌, ◌++◌, ◌*◌, ◌≤◌, replicate, min}
use Rattle.page_core.proofs.layout.write_margin.Given as goal

abbrev pub invariant-loop : goal.invariant-loop
invariant-loop l = record {
  text : l.text.items ≡ l.initial.text.items ++ replicate (2 * l.counter) 32;
  within : l.counter ≤ min l.levels 40;
}
