use Rattle.std.proofs.Common.{◌≡◌, ◌+◌, drop, map}
use Rattle.f_terms.specs.Ty.{tys}
use Rattle.f_terms.specs.Read.{tree}
use Rattle.type_path.specs.Source.{differences}
use Rattle.type_path.proofs.source.+finds.Given as goal

abbrev pub invariant-fields_difference-loop-i : goal.invariant-fields_difference-loop-i
invariant-fields_difference-loop-i l =
    differences 1 (tys (map tree l.ts)) (tys (map tree l.us))
    ≡ differences (l.i + 1) (tys (map tree (drop l.i l.ts))) (tys (map tree (drop l.i l.us)))
