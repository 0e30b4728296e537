use Rattle.std.proofs.Common.{◌≡◌, ◌++◌, length}
use Rattle.t_emit.proofs.headers.entries.Given as goal

abbrev pub invariant-loop-entry : goal.invariant-loop-entry
invariant-loop-entry l = l.regs.items ++ l.left.entries ≡ l.fn.map.entries

abbrev pub decreases-loop-entry : goal.decreases-loop-entry
decreases-loop-entry l = length l.left.entries
