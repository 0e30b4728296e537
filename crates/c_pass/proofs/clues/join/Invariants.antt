use Rattle.std.proofs.Common.{◌≡◌}
use Rattle.std.specs.VecDeque.{deque_len}
use Rattle.c_rules.specs.TSweep as T
use Rattle.c_emit.specs.Swept.{founds, lists}
use Rattle.c_pass.specs.Read.{clues_onto}
use Rattle.c_pass.proofs.clues.join.Given as goal

abbrev pub invariant-loop-f : goal.invariant-loop-f
invariant-loop-f l = clues_onto l.made.items (T.zipped (founds l.found.items) (lists l.types.items))
    ≡ T.zipped (founds l.fn.found.items) (lists l.fn.types.items)

abbrev pub decreases-loop-f : goal.decreases-loop-f
decreases-loop-f l = deque_len l.found
