use Rattle.std.proofs.Common.{◌≡◌, ◌+◌, ◌++◌, drop}
use Rattle.t_intern.specs.Marks.{has}
use Rattle.t_intern.specs.Nodes.{at}
use Rattle.t_known.specs.Marks.{marked_list}
use Rattle.t_known.proofs.marking.mark_fields.Given as goal

abbrev pub invariant-loop-i : goal.invariant-loop-i
invariant-loop-i l =
    l.made.items ++ marked_list (has (at l.types l.set)) (l.i + 1) (drop l.i l.fields)
    ≡ marked_list (has (at l.types l.set)) 1 l.fields
