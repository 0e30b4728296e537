use Rattle.std.proofs.Common.{◌∙◌, ap, refl, ℕ}
use Rattle.f_terms.specs.Read.{tree}
use Rattle.k_terms.specs.K as K
use Rattle.k_pass.specs.Emit.{gen_args}
use Rattle.k_pass.specs.Machine.{at}
use Rattle.k_pass.proofs.Moves.{comes_name, scope_is}
use Rattle.k_pass.proofs.resume.name_gen.Goals as goal

pub returns-clause-steps : goal.returns-clause-steps
returns-clause-steps c = λ t.
    let w = c.args.work.now in
    comes_name t w c.put_name.new.out w.names c.leave_type.new.levels c.args.place.types c.args.place.depth
    c.in_ok-inside.inside _ _ _ c.in_ok-put_name.ensures
    (c.in_ok-ty.ensures ∙ ap (λ (x : ℕ). K.TKCode 1 (gen_args x (at w).0 (tree c.args.ty.now))) c.in_ok-under.ensures)
    (scope_is _ _ _ _ c.leave_type.ensures refl) c.in_ok-inside.ensures
