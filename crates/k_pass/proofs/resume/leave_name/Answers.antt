use Rattle.std.proofs.Common.{refl}
use Rattle.k_pass.proofs.Moves.{comes_scope, scope_is}
use Rattle.k_pass.proofs.resume.leave_name.Goals as goal

pub returns-clause-steps : goal.returns-clause-steps
returns-clause-steps c = λ t.
    comes_scope t c.args.work.now c.leave.new.names c.args.work.now.levels _
    (scope_is _ _ _ _ refl c.leave.ensures)

pub returns-clause-inside : goal.returns-clause-inside
returns-clause-inside c = λ m here kept. (tt, kept.0, kept.1)
