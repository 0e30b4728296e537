use Rattle.std.proofs.Common.{◌++◌, ◌≤◌, ◌-◌, drop}
use Rattle.page_core.proofs.Listed.{Left, listed}
use Rattle.a_notation.proofs.ValueTexts.{value_item}
use Rattle.a_notation.proofs.values.write_others.Given as goal

abbrev pub invariant-loop-at : goal.invariant-loop-at
invariant-loop-at l = record {
  past : 1 ≤ l.at;
  written : Left (value_item l.types l.names) l.text.items (l.at - 1) l.at l.values
      (l.initial.text.items ++ listed (value_item l.types l.names) 0 (drop 1 l.values));
}
