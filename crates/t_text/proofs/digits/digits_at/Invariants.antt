use Rattle.std.proofs.Common.{length, ◌-◌, true}
use Rattle.text_core.proofs.Runs.{DigitsSoFar}
use Rattle.t_text.proofs.digits.digits_at.Given as goal

abbrev pub invariant-loop-i : goal.invariant-loop-i
invariant-loop-i l = DigitsSoFar l.text l.at l.i l.value true

abbrev pub decreases-loop-i : goal.decreases-loop-i
decreases-loop-i l = length l.text - l.i
