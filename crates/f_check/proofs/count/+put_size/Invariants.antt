use Rattle.std.proofs.Common.{◌≡◌, ◌+◌, ◌-◌, ◌^◌, take, sum_by, min}
use Rattle.f_terms.specs.Read.{tree}
use Rattle.f_check.specs.Counts.{put_size}
use Rattle.f_check.proofs.count.+put_size.Given as goal

abbrev pub invariant-loop-part : goal.invariant-loop-part
invariant-loop-part l =
    l.sum ≡ min (1 + sum_by (λ t. put_size l.what l.at (tree t)) (take l.part-index l.part-items)) (2 ^ 64 - 1)
