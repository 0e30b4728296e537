use Rattle.std.proofs.Common.{◌≡◌, length}
use Rattle.std.specs.Vec.Iter.{into_iter_items, into_iter_len}
use Rattle.listing.proofs.Passing.{BlocksLeft}
use Rattle.listing.proofs.program.blocks_to.Given as goal

abbrev pub invariant-loop-block : goal.invariant-loop-block
invariant-loop-block l = record {
  many : into_iter_len l.block-iterator ≡ length (into_iter_items l.block-iterator);
  left : BlocksLeft l.place l.fn.blocks.items (into_iter_items l.block-iterator) l.made.items l.met;
}
