use Rattle.std.proofs.Common.{◌≡◌}
use Rattle.std.specs.Vec.Iter.{into_iter_items}
use Rattle.t_types.specs.Read.{file}
use Rattle.t_spill_rules.specs.Spill.{high_part}
use Rattle.t_spill_code.specs.Onto.{front}
use Rattle.t_spill_code.proofs.types.high_part.Given as goal

abbrev pub invariant-loop-entry : goal.invariant-loop-entry
invariant-loop-entry l =
    front l.made.items (high_part l.split.low (file (into_iter_items l.entry-iterator)))
    ≡ high_part l.split.low (file l.fn.regs.items)
