use Rattle.std.proofs.Common.{◌≡◌, ◌++◌, drop, map}
use Rattle.t_types.specs.Read.{flag}
use Rattle.t_spill.proofs.Tuples.{marked}
use Rattle.t_spill.proofs.shapes.fill_field.Given as goal

abbrev pub invariant-loop-j : goal.invariant-loop-j
invariant-loop-j l = map flag l.made.items ++ marked (drop l.j l.fs) l.j l.i ≡ marked l.fs 0 l.i
