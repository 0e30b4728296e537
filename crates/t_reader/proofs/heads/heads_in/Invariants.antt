use Rattle.t_text.specs.Kept.{tokens_of}
use Rattle.std.proofs.Common.{◌≤◌, length, ◌-◌}
use Rattle.t_reader.proofs.heads.heads_in.Given as goal

abbrev pub invariant-loop-at : goal.invariant-loop-at
invariant-loop-at l = 2 ≤ l.at

abbrev pub decreases-loop-at : goal.decreases-loop-at
decreases-loop-at l = length (tokens_of l.tokens) - l.at
