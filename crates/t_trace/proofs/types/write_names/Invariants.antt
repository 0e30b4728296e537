use Rattle.std.proofs.Common.{◌≡◌, ◌+◌, ◌++◌, ◌≤◌, length, ◌-◌}
use Rattle.t_trace.specs.Line.{names_text}
use Rattle.t_trace.proofs.types.write_names.Given as goal

abbrev pub invariant-loop-i : goal.invariant-loop-i
invariant-loop-i l = record {
  room : l.depth + l.i ≤ length l.text.items;
  written : l.text.items ++ names_text l.i (l.depth + l.i) (l.count - l.i) ≡ l.initial.text.items
      ++ names_text 0 l.depth l.count;
}
