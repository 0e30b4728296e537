use Rattle.std.proofs.Common.{◌≡◌, ◌≤◌, ◌++◌, length, take, codes}
use Rattle.type_path.specs.Paths.{path_of}
use Rattle.talc_faults.specs.Apart.{steps_text, steps_room}
use Rattle.talc_faults.proofs.steps.write_steps.Given as goal

abbrev pub invariant-loop-at : goal.invariant-loop-at
invariant-loop-at l =
    (l.at ≤ length l.path)
    × (l.text.items ++ steps_text l.room l.before (path_of (take l.at l.path))
    ≡ l.initial.text.items ++ steps_text steps_room (codes " ") (path_of l.path))

abbrev pub decreases-loop-at : goal.decreases-loop-at
decreases-loop-at l = l.at
