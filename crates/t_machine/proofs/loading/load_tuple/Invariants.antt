use Rattle.std.proofs.Common.{◌≡◌, ◌++◌, ◌∷◌, [], length, map, take}
use Rattle.t_terms.specs.Read.{data_fields}
use Rattle.t_terms.specs.Spanned.{plain_fields}
use Rattle.t_rules.specs.Erase.{erase_datum}
use Rattle.t_collect.specs.Cells.{cells_of}
use Rattle.t_machine.specs.Heap.{AllStarted}
use Rattle.t_machine.specs.Room.{SameCaps}
use Rattle.t_machine.specs.Words.{word}
use Rattle.t_machine.proofs.loading.load_tuple.Given as goal

abbrev pub invariant-loop-field : goal.invariant-loop-field
invariant-loop-field l = record {
  starts : l.heap.starts.items ≡ l.fn.heap.starts.items ++ length (cells_of l.fn.heap.cells) ∷ [];
  kept : l.heap.kept.items ≡ l.fn.heap.kept.items;
  dropped : l.heap.dropped ≡ l.fn.heap.dropped;
  caps : SameCaps l.fn.heap l.heap;
  cells : map word (cells_of l.heap.cells) ≡ map word (cells_of l.fn.heap.cells)
      ++ map erase_datum (plain_fields (data_fields (take l.field-index l.fields)));
  started : AllStarted l.starts (cells_of l.fn.heap.cells) → AllStarted l.starts (cells_of l.heap.cells);
}
