use Rattle.std.proofs.Common.{sym, arith}
use Rattle.a_terms.specs.NodeTrees.{base}
use Rattle.a_scope.proofs.Scopes.{wrapped_bare}
use Rattle.a_scope.proofs.sharing.bare_variable.Goals as goal

pub returns-then-len-gt0 : goal.returns-then-len-gt0
returns-then-len-gt0 c =
    sym (wrapped_bare (base c.args.v.now.base) c.args.v.now.wraps.items (omega (arith, c.if-len-gt0.true)))
