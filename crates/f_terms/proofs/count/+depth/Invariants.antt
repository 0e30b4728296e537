use Rattle.std.proofs.Common.{◌≡◌, ◌-◌, ◌^◌, take, map, min}
use Rattle.f_terms.specs.Ty.{tys, depths}
use Rattle.f_terms.specs.Read.{tree}
use Rattle.f_terms.proofs.count.+depth.Given as goal

abbrev pub invariant-loop-part : goal.invariant-loop-part
invariant-loop-part l = l.most ≡ min (depths (tys (map tree (take l.part-index l.part-items)))) (2 ^ 64 - 1)
