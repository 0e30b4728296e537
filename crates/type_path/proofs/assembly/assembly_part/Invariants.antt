use Rattle.std.proofs.Common.{◌≡◌, ◌≤◌, length, take}
use Rattle.t_types.specs.Read.{tree}
use Rattle.type_path.specs.Paths.{path_of, follow}
use Rattle.type_path.specs.Assembly.{Whole, into}
use Rattle.type_path.specs.ReadPart.{part_of}
use Rattle.type_path.proofs.assembly.assembly_part.Given as goal

abbrev pub invariant-loop-at : goal.invariant-loop-at
invariant-loop-at l =
    (l.at ≤ length l.path)
    × (follow into (path_of l.path) (Whole (tree l.ty)) ≡ follow into (path_of (take l.at l.path)) (part_of l.part))

abbrev pub decreases-loop-at : goal.decreases-loop-at
decreases-loop-at l = l.at
