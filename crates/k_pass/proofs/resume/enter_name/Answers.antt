use Rattle.std.proofs.Common.{refl}
use Rattle.k_pass.proofs.Moves.{atoms_push, comes_scope, scope_is}
use Rattle.k_pass.proofs.resume.enter_name.Goals as goal

pub returns-clause-steps : goal.returns-clause-steps
returns-clause-steps c = λ t.
    comes_scope t c.args.work.now c.push.new.self c.args.work.now.levels _
    (scope_is _ _ _ _ refl (atoms_push _ _ c.args.atom c.in_ok-push.ensures.items))

pub returns-clause-inside : goal.returns-clause-inside
returns-clause-inside c = λ m here kept. (tt, kept.0, kept.1)
