use Rattle.std.proofs.Common.{length, ◌-◌, map}
use Rattle.t_shapes.specs.Raw.{raw_step}
use Rattle.t_shapes.specs.Reads.{ReadsSomeSteps}
use Rattle.t_text.specs.Kept.{tokens_of}
use Rattle.t_shapes.proofs.blocks.steps.Given as goal

abbrev pub invariant-loop-alloc : goal.invariant-loop-alloc
invariant-loop-alloc l = ReadsSomeSteps (tokens_of l.tokens) l.at l.next (map raw_step l.steps.items)

abbrev pub decreases-loop-alloc : goal.decreases-loop-alloc
decreases-loop-alloc l = length (tokens_of l.tokens) - l.next
