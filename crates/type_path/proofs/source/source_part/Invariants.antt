use Rattle.std.proofs.Common.{◌≡◌, ◌≤◌, length, take}
use Rattle.f_terms.specs.Read.{tree}
use Rattle.type_path.specs.Paths.{path_of}
use Rattle.type_path.specs.Source.{part}
use Rattle.type_path.proofs.source.source_part.Given as goal

abbrev pub invariant-loop-at : goal.invariant-loop-at
invariant-loop-at l =
    (l.at ≤ length l.path) × (part (path_of l.path) (tree l.ty) ≡ part (path_of (take l.at l.path)) (tree l.part))

abbrev pub decreases-loop-at : goal.decreases-loop-at
decreases-loop-at l = l.at
