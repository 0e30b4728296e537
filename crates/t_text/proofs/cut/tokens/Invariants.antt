use Rattle.std.proofs.Common.{length, ◌-◌}
use Rattle.text_core.proofs.Walk.{SoFar}
use Rattle.t_text.specs.Tokens.{assembly}
use Rattle.t_text.specs.Kept.{tokens_of, IsWhole}
use Rattle.t_text.proofs.cut.tokens.Given as goal

abbrev pub invariant-loop-at : goal.invariant-loop-at
invariant-loop-at l = SoFar assembly l.text l.at (tokens_of l.out) × IsWhole l.out

abbrev pub decreases-loop-at : goal.decreases-loop-at
decreases-loop-at l = length l.text - l.at
