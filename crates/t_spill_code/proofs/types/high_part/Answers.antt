use Rattle.std.proofs.Common.{◌≡◌, length, rules}
use Rattle.std.specs.Vec.Iter.{into_iter_items}
use Rattle.t_types.specs.Read.{file}
use Rattle.t_spill_code.proofs.Made.{high_none}
use Rattle.t_spill_code.proofs.types.high_part.Goals as goal

pub returns : goal.returns
returns c =
    let zero : length (into_iter_items c.loop-entry.entry-iterator) ≡ 0 = search rules in
    high_none c.args.split.low c.loop-entry.made.items (into_iter_items c.loop-entry.entry-iterator)
    (file c.args.regs.items) zero c.loop-entry.invariant
