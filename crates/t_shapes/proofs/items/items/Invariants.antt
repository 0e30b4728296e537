use Rattle.std.proofs.Common.{length, ◌-◌}
use Rattle.t_shapes.specs.Raw.{raw_items}
use Rattle.t_shapes.specs.Reads.{ReadsSomeItems}
use Rattle.t_text.specs.Kept.{tokens_of}
use Rattle.t_shapes.proofs.items.items.Given as goal

abbrev pub invariant-loop-alloc : goal.invariant-loop-alloc
invariant-loop-alloc l = ReadsSomeItems (tokens_of l.tokens) l.at l.next l.has_block (raw_items l.items.items)

abbrev pub decreases-loop-alloc : goal.decreases-loop-alloc
decreases-loop-alloc l = length (tokens_of l.tokens) - l.next
