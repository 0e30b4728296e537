use Rattle.std.proofs.Common.{◌∙◌, ap, arith, sym}
use Rattle.a_pass.specs.Scope.{scope, type_of}
use Rattle.a_pass.proofs.Terms.{shown_now}
use Rattle.a_pass.proofs.noting.value_noted.Goals as goal

pub returns-in-Lent : goal.returns-in-Lent
returns-in-Lent c =
    (shown_now c.args.binders _ ∙ ap (type_of (scope c.args.binders c.args.names.now)) (sym c.in-Lent.is), omega arith)
