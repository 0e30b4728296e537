use Rattle.std.proofs.Common.{◌≡◌, take, length, []}
use Rattle.a_terms.specs.Tree.{arity}
use Rattle.t_gen_rules.specs.Gen.{rows}
use Rattle.a_terms.specs.Typing.{types_of}
use Rattle.a_terms.specs.Read.{atrees}
use Rattle.a_scope.specs.Scope.{scope, homes, Under}
use Rattle.t_gen.proofs.body.arguments.Given as goal

abbrev pub invariant-loop-t : goal.invariant-loop-t
invariant-loop-t l = record {
  made : scope l.owes l.vars.items ≡ types_of (atrees (take l.t-index l.args)) [];
  under : Under l.owes l.vars.items;
  homes : homes l.vars.items ≡ rows (arity (atrees (take l.t-index l.args)));
  long : length l.vars.items ≡ l.t-index;
}
