use Rattle.std.proofs.Common.{length, ◌-◌}
use Rattle.text_core.proofs.Runs.{DigitsSoFar}
use Rattle.text_core.proofs.lexeme.read_digits.Given as goal

abbrev pub invariant-loop-i : goal.invariant-loop-i
invariant-loop-i l = DigitsSoFar l.text l.at l.i l.value l.fits

abbrev pub decreases-loop-i : goal.decreases-loop-i
decreases-loop-i l = length l.text - l.i
