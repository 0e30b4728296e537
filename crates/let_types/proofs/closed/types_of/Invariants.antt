use Rattle.std.proofs.Common.{◌≡◌, map, take}
use Rattle.calc_core.specs.Read.{tree}
use Rattle.let_types.specs.KnownRead.{entry}
use Rattle.let_types.proofs.Knowing.{type_of}
use Rattle.let_types.proofs.closed.types_of.Given as goal

abbrev pub invariant-loop-value : goal.invariant-loop-value
invariant-loop-value l =
    map tree l.made.items ≡ map (type_of l.types (map entry l.names)) (take l.value-index l.values)
