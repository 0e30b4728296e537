use Rattle.std.proofs.Common.{sym, subst}
use Rattle.c_pass.specs.Read.{Binds}
use Rattle.c_pass.proofs.state.Knowledge.bind.Goals as goal

pub returns : goal.returns
returns c =
    λ rest n binds. c.in_ok-bind_made.ensures rest n (subst (Binds n c.args.level) (sym c.in_ok-ty.ensures) binds)
