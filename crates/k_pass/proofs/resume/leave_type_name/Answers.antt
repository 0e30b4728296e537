use Rattle.std.proofs.Common.{refl}
use Rattle.k_pass.proofs.Moves.{comes_scope, scope_is}
use Rattle.k_pass.proofs.resume.leave_type_name.Goals as goal

pub returns-clause-steps : goal.returns-clause-steps
returns-clause-steps c = λ t.
    comes_scope t c.args.work.now c.args.work.now.names c.leave_type.new.levels _
    (scope_is _ _ _ _ c.leave_type.ensures refl)

pub returns-clause-inside : goal.returns-clause-inside
returns-clause-inside c = λ m here kept. (tt, kept.0, kept.1)
