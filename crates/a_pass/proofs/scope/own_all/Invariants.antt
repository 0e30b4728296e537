use Rattle.std.proofs.Common.{◌≡◌, take}
use Rattle.a_terms.specs.Read.{atrees}
use Rattle.a_pass.specs.Scope.{all_of, scope}
use Rattle.a_pass.proofs.scope.own_all.Given as goal

abbrev pub invariant-loop-kind : goal.invariant-loop-kind
invariant-loop-kind l = atrees l.made.items ≡ all_of (scope l.binders l.names) (take l.kind-index l.kinds)
