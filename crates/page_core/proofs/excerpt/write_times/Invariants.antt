use Rattle.std.proofs.Common.{◌≡◌, ◌++◌, replicate}
use Rattle.page_core.proofs.excerpt.write_times.Given as goal

abbrev pub invariant-loop-i : goal.invariant-loop-i
invariant-loop-i l = l.page.items ≡ l.initial.page.items ++ replicate l._i l.byte
