use Rattle.std.proofs.Common.{◌≡◌, take}
use Rattle.a_terms.specs.Typing.{data_fields}
use Rattle.a_terms.specs.Read.{afields}
use Rattle.a_terms.specs.NodeTrees.{a_consts}
use Rattle.a_scope.proofs.value.full_tuple.Given as goal

abbrev pub invariant-loop-c : goal.invariant-loop-c
invariant-loop-c l = afields l.fields.items ≡ data_fields (a_consts (take l.c-index l.consts))
