use Rattle.std.proofs.Common.{◌≡◌, take, length, []}
use Rattle.a_scope.specs.Scope.{scope, Under}
use Rattle.a_terms.specs.Read.{atrees}
use Rattle.a_terms.specs.Typing.{types_of}
use Rattle.a_notation.proofs.program.arguments.Given as goal

abbrev pub invariant-loop-t : goal.invariant-loop-t
invariant-loop-t l = record {
  made : scope l.owes l.vars.items ≡ types_of (atrees (take l.t-index l.args)) [];
  under : Under l.owes l.vars.items;
  long : length l.vars.items ≡ length (take l.t-index l.args);
}
