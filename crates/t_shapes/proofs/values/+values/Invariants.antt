use Rattle.std.proofs.Common.{length, ◌-◌}
use Rattle.t_text.specs.Kept.{tokens_of}
use Rattle.t_shapes.proofs.values.+values.Given as goal

abbrev pub decreases-value : goal.decreases-value
decreases-value l = length (tokens_of l.tokens.now) - l.at

abbrev pub decreases-packed : goal.decreases-packed
decreases-packed l = length (tokens_of l.tokens.now) - l.at
