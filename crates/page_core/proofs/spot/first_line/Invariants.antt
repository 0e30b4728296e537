use Rattle.page_core.proofs.Lines.{NoneBefore}
use Rattle.page_core.proofs.spot.first_line.Given as goal

abbrev pub invariant-loop-i : goal.invariant-loop-i
invariant-loop-i l = NoneBefore l.bytes l.i
