use Rattle.std.proofs.Common.{◌≡◌, ◌++◌, drop}
use Rattle.f_terms.specs.Waiting.{waits}
use Rattle.f_terms.proofs.admission.push_all.Given as goal

abbrev pub invariant-loop-e : goal.invariant-loop-e
invariant-loop-e l =
    l.waiting.items ++ waits (drop l.e-index l.es) l.types l.values ≡ l.fn.waiting.items ++ waits l.es l.types l.values
