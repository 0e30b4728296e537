use Rattle.t_spill.proofs.Lasts.{Places}
use Rattle.t_spill.proofs.ahead.Ahead.of.Given as goal

abbrev pub invariant-loop-i : goal.invariant-loop-i
invariant-loop-i l = Places l.wants l.i l.last
