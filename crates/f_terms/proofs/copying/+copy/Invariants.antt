use Rattle.std.proofs.Common.{◌≡◌, take, map}
use Rattle.f_terms.specs.Read.{tree}
use Rattle.f_terms.proofs.copying.+copy.Given as goal

abbrev pub invariant-loop-part : goal.invariant-loop-part
invariant-loop-part l = map tree l.parts.items ≡ map tree (take l.part-index l.part-items)
