use Rattle.std.proofs.Common.{◌≡◌, ◌++◌, ◌≤◌, length, take}
use Rattle.a_notation.specs.Wraps.{before_text}
use Rattle.a_notation.proofs.values.write_before.Given as goal

abbrev pub invariant-loop-left : goal.invariant-loop-left
invariant-loop-left l = record {
  within : l.left ≤ length l.wraps;
  written : l.text.items ++ before_text l.types (take l.left l.wraps)
      ≡ l.initial.text.items ++ before_text l.types l.wraps;
}

abbrev pub decreases-loop-left : goal.decreases-loop-left
decreases-loop-left l = l.left
