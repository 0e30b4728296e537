use Rattle.std.proofs.Common.{◌≡◌, ◌++◌, drop}
use Rattle.t_shapes.specs.Raw.{raw_items}
use Rattle.t_reader.specs.Heads.{heads_of}
use Rattle.t_reader.proofs.heads.heads_of.Given as goal

abbrev pub invariant-loop-item : goal.invariant-loop-item
invariant-loop-item l = heads_of (raw_items l.items) ≡ l.heads.items ++ heads_of (raw_items (drop l.item-index l.items))
