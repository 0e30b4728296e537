use Rattle.std.proofs.Common.{length, ◌-◌}
use Rattle.t_shapes.specs.Raw.{raw_items}
use Rattle.t_shapes.specs.Reads.{ReadsSomeBlocks}
use Rattle.t_text.specs.Kept.{tokens_of}
use Rattle.t_shapes.proofs.whole.blocks.Given as goal

abbrev pub invariant-loop-items : goal.invariant-loop-items
invariant-loop-items l = ReadsSomeBlocks (tokens_of l.tokens) l.at l.next (raw_items l.items.items)

abbrev pub decreases-loop-items : goal.decreases-loop-items
decreases-loop-items l = length (tokens_of l.tokens) - l.next
