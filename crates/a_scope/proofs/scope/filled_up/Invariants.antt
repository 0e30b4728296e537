use Rattle.std.proofs.Common.{◌≡◌}
use Rattle.a_terms.specs.Read.{atree}
use Rattle.a_scope.specs.Scope.{filled_to}
use Rattle.a_scope.proofs.scope.filled_up.Given as goal

abbrev pub invariant-loop-i : goal.invariant-loop-i
invariant-loop-i l = atree l.made ≡ filled_to l.i (atree l.fn.t)
