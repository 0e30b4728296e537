use Rattle.std.proofs.Common.{◌≡◌, length, map, take}
use Rattle.t_terms.specs.Read.{data_of}
use Rattle.t_rules.specs.Erase.{erase_datum}
use Rattle.t_collect.specs.Tuples.{starts_from}
use Rattle.t_machine.specs.Heap.{fields_of}
use Rattle.t_machine.proofs.starts.load_starts.Given as goal

abbrev pub invariant-loop-tuple : goal.invariant-loop-tuple
invariant-loop-tuple l = record {
  starts : l.starts.items ≡ starts_from 0 (map (map erase_datum) (data_of (take l.tuple-index l.tuples)));
  start : l.start ≡ length (fields_of (map (map erase_datum) (data_of (take l.tuple-index l.tuples))));
}
