use Rattle.std.proofs.Common.{refl}
use Rattle.k_pass.proofs.Moves.{comes_scope, levels_push, scope_is}
use Rattle.k_pass.proofs.resume.enter_type_name.Goals as goal

pub returns-clause-steps : goal.returns-clause-steps
returns-clause-steps c = λ t.
    comes_scope t c.args.work.now c.args.work.now.names c.push.new.self _
    (scope_is _ _ _ _ (levels_push _ _ c.args.level c.in_ok-push.ensures.items) refl)

pub returns-clause-inside : goal.returns-clause-inside
returns-clause-inside c = λ m here kept. (tt, kept.0, kept.1)
