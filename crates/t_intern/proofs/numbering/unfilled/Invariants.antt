use Rattle.std.proofs.Common.{◌≡◌, ◌++◌, drop}
use Rattle.t_intern.specs.Applied.{unfilled as unfilled_fields}
use Rattle.t_intern.proofs.numbering.unfilled.Given as goal

abbrev pub invariant-loop-i : goal.invariant-loop-i
invariant-loop-i l = l.made.items ++ unfilled_fields (drop l.i l.ns) ≡ unfilled_fields l.ns
