use Rattle.std.proofs.Common.{◌++◌, ◌≤◌, ◌-◌, drop}
use Rattle.page_core.proofs.Listed.{Left, listed}
use Rattle.h_notation.proofs.FormTexts.{text_item}
use Rattle.h_notation.proofs.lines.write_others.Given as goal

abbrev pub invariant-loop-at : goal.invariant-loop-at
invariant-loop-at l = record {
  past : 1 ≤ l.at;
  written : Left text_item l.text.items (l.at - 1) l.at l.values
      (l.initial.text.items ++ listed text_item 0 (drop 1 l.values));
}
