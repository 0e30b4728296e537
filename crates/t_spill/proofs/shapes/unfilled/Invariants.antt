use Rattle.std.proofs.Common.{◌≡◌, take, map}
use Rattle.t_types.specs.Read.{flag}
use Rattle.t_spill.proofs.Tuples.{empty_flag}
use Rattle.t_spill.proofs.shapes.unfilled.Given as goal

abbrev pub invariant-loop-t : goal.invariant-loop-t
invariant-loop-t l = map flag l.made.items ≡ map empty_flag (take l.t-index l.types)
