use Rattle.std.proofs.Common.{◌≡◌, take}
use Rattle.a_terms.specs.Read.{afields}
use Rattle.a_terms.specs.Typing.{aset}
use Rattle.a_pass.specs.Scope.{all_of, scope}
use Rattle.a_pass.proofs.scope.+owning.Given as goal

abbrev pub invariant-own_fields-loop-kind : goal.invariant-own_fields-loop-kind
invariant-own_fields-loop-kind l = afields l.made.items
    ≡ aset (all_of (scope l.binders l.names) (take l.kind-index l.kinds))
