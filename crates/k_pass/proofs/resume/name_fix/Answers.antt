use Rattle.std.proofs.Common.{◌∙◌, ap, refl}
use Rattle.k_pass.specs.Machine.{inner}
use Rattle.k_pass.proofs.Moves.{comes_name, scope_is}
use Rattle.k_pass.proofs.resume.name_fix.Goals as goal

pub returns-clause-steps : goal.returns-clause-steps
returns-clause-steps c = λ t.
    let w = c.args.work.now in
    comes_name t w c.put_name.new.out c.leave-2.new.names w.levels c.args.place.types c.args.place.depth
    c.in_ok-inside.inside _ _ _ c.in_ok-put_name.ensures c.in_ok-ty.ensures
    (scope_is _ _ _ _ refl (c.leave-2.ensures ∙ ap inner c.leave.ensures)) c.in_ok-inside.ensures
