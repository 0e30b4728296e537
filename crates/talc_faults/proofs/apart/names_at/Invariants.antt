use Rattle.std.proofs.Common.{◌≡◌, ◌≤◌, length, take}
use Rattle.type_path.specs.Paths.{path_of}
use Rattle.talc_faults.specs.Apart.{names_at}
use Rattle.talc_faults.proofs.apart.names_at.Given as goal

abbrev pub invariant-loop-at : goal.invariant-loop-at
invariant-loop-at l =
    (l.at ≤ length l.path)
    × (names_at l.inner (path_of (take l.at l.path)) ≡ names_at l.names (path_of l.path))

abbrev pub decreases-loop-at : goal.decreases-loop-at
decreases-loop-at l = l.at
