use Rattle.std.proofs.Common.{length, ◌-◌}
use Rattle.text_core.proofs.Walk.{SoFar}
use Rattle.f_lexer.specs.Source.{source}
use Rattle.f_lexer.proofs.token.tokens.Given as goal

abbrev pub invariant-loop-at : goal.invariant-loop-at
invariant-loop-at l = SoFar source l.text l.at l.out.items

abbrev pub decreases-loop-at : goal.decreases-loop-at
decreases-loop-at l = length l.text - l.at
