use Rattle.std.proofs.Common.{◌≡◌, ◌≤◌, length, drop}
use Rattle.t_types.specs.Read.{file}
use Rattle.a_scope.specs.Scope.{homes, scope}
use Rattle.t_emit.specs.Code.{chosen}
use Rattle.t_emit.proofs.headers.header.Given as goal

abbrev pub invariant-loop-left : goal.invariant-loop-left
invariant-loop-left l = record {
  few : l.left ≤ length l.third;
  made : file l.map.entries ≡ chosen (drop l.left l.third) (homes l.vars) (scope l.names l.vars);
}

abbrev pub decreases-loop-left : goal.decreases-loop-left
decreases-loop-left l = l.left
