use Rattle.std.proofs.Common.{map, take, ◌≡◌, []}
use Rattle.t_terms.specs.Read.{data_of}
use Rattle.t_rules.specs.Erase.{erase_datum}
use Rattle.t_collect.specs.Cells.{cells_of}
use Rattle.t_machine.specs.Heap.{IsHeap, AllStarted}
use Rattle.t_machine.specs.Room.{IsUncapped}
use Rattle.t_machine.proofs.loading.load_heap.Given as goal

abbrev pub invariant-loop-tuple : goal.invariant-loop-tuple
invariant-loop-tuple l = record {
  heap : IsHeap l.heap (map (map erase_datum) (data_of (take l.tuple-index l.tuples)));
  kept : l.heap.kept.items ≡ [];
  dropped : l.heap.dropped ≡ 0;
  caps : IsUncapped l.heap;
  started : AllStarted l.starts (cells_of l.heap.cells);
}
