use Rattle.std.proofs.Common.{◌≡◌, ◌++◌, map}
use Rattle.t_types.specs.Read.{tree}
use Rattle.t_gen_rules.specs.Gen.{tvars}
use Rattle.t_emit.proofs.headers.names_in_scope.Given as goal

abbrev pub invariant-loop-left : goal.invariant-loop-left
invariant-loop-left l = record {
  made : map tree l.types.items ++ tvars l.left ≡ tvars l.names;
}

abbrev pub decreases-loop-left : goal.decreases-loop-left
decreases-loop-left l = l.left
