use Rattle.page_core.proofs.Lines.{Passed}
use Rattle.page_core.proofs.spot.last_line.Given as goal

abbrev pub invariant-loop-i : goal.invariant-loop-i
invariant-loop-i l = Passed l.bytes l.i l.number l.begin
