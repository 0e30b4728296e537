use Rattle.std.proofs.Common.{◌≡◌, take, map}
use Rattle.calc_core.specs.Read.{tree}
use Rattle.calc_core.proofs.copying.+copies.Given as goal

abbrev pub invariant-copy_all-loop-t : goal.invariant-copy_all-loop-t
invariant-copy_all-loop-t l = map tree l.made.items ≡ map tree (take l.t-index l.ts)
