use Rattle.std.proofs.Common.{◌↔◌, drop}
use Rattle.t_types.specs.Read.{types}
use Rattle.t_spill_laws.specs.Bound.{InTypes}
use Rattle.t_spill.proofs.within.types_within.Given as goal

abbrev pub invariant-loop-t : goal.invariant-loop-t
invariant-loop-t l = InTypes l.k (types l.types) ↔ InTypes l.k (types (drop l.t-index l.types))
