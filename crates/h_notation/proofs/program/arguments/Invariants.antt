use Rattle.std.proofs.Common.{◌≡◌, take, length, [], true}
use Rattle.c_terms.specs.Read.{ctys}
use Rattle.c_terms.specs.Typing.{cargs_onto}
use Rattle.let_types.specs.Names.{scope, Under}
use Rattle.h_notation.proofs.program.arguments.Given as goal

abbrev pub invariant-loop-t : goal.invariant-loop-t
invariant-loop-t l = record {
  made : l.of.typed ≡ true → scope l.owes l.names.items ≡ cargs_onto (ctys (take l.t-index l.args)) [];
  under : Under l.owes l.names.items;
  long : length l.names.items ≡ length (take l.t-index l.args);
}
