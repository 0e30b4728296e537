use Rattle.std.proofs.Common.{◌≡◌, length}
use Rattle.std.specs.Vec.Iter.{into_iter_items, into_iter_len}
use Rattle.t_reader.proofs.Numbering.{ItemsLeft}
use Rattle.t_reader.proofs.reader.parts_in.Given as goal

abbrev pub invariant-loop-item : goal.invariant-loop-item
invariant-loop-item l = record {
  many : into_iter_len l.item-iterator ≡ length (into_iter_items l.item-iterator);
  left : ItemsLeft l.text l.fn.raw.items (into_iter_items l.item-iterator) l.blocks.items l.heap.items;
}
