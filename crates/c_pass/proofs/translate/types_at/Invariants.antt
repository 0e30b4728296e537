use Rattle.std.proofs.Common.{◌≡◌, drop}
use Rattle.c_rules.specs.Know as W
use Rattle.calc_core.specs.Read.{joined}
use Rattle.c_emit.specs.Names.{side}
use Rattle.c_pass.specs.Read.{bounds, var_of}
use Rattle.c_pass.proofs.translate.types_at.Given as goal

abbrev pub invariant-loop-l : goal.invariant-loop-l
invariant-loop-l l =
    let r = var_of l.place.outside (side l.place.side.now) in
    joined l.made.items (W.bound_types r l.place.depth (bounds l.xs) (drop l.l-index l.levels))
    ≡ W.bound_types r l.place.depth (bounds l.xs) l.levels
