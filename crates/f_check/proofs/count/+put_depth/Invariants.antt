use Rattle.std.proofs.Common.{◌≡◌, ◌-◌, ◌^◌, take, map, min}
use Rattle.f_terms.specs.Ty.{tys}
use Rattle.f_terms.specs.Read.{tree}
use Rattle.f_check.specs.Counts.{put_depths}
use Rattle.f_check.proofs.count.+put_depth.Given as goal

abbrev pub invariant-loop-part : goal.invariant-loop-part
invariant-loop-part l =
    l.most ≡ min (put_depths l.what l.at (tys (map tree (take l.part-index l.part-items)))) (2 ^ 64 - 1)
