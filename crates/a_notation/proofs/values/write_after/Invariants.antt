use Rattle.std.proofs.Common.{◌≡◌, ◌++◌, drop}
use Rattle.a_notation.specs.Wraps.{after_text}
use Rattle.a_notation.proofs.values.write_after.Given as goal

abbrev pub invariant-loop-wrap : goal.invariant-loop-wrap
invariant-loop-wrap l =
    l.text.items ++ after_text l.types (drop l.wrap-index l.wraps) ≡ l.initial.text.items ++ after_text l.types l.wraps
