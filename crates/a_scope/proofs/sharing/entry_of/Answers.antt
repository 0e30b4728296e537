use Rattle.std.proofs.Common.{◌-◌, arith, length}
use Rattle.a_terms.specs.NodeTrees.{a_value}
use Rattle.a_scope.proofs.Scopes.{held}
use Rattle.a_scope.proofs.sharing.entry_of.Goals as goal

pub returns-then-n-count : goal.returns-then-n-count
returns-then-n-count c =
    held c.args.vars.now (a_value c.args.v.now) c.in_ok-n.n (length c.args.vars.now - 1 - c.in_ok-n.n)
    c.index-vars-count.result c.in_ok-n.ensures (omega (arith, c.if-n-count.true)) c.index-vars-count.is
