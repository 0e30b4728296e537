use Rattle.std.proofs.Common.{ap, refl}
use Rattle.k_terms.specs.K as K
use Rattle.k_terms.specs.Stream.{NProj}
use Rattle.f_terms.specs.Read.{tree}
use Rattle.k_pass.specs.Emit.{proj_node}
use Rattle.k_pass.specs.Machine.{at}
use Rattle.k_pass.specs.declared.work.Frame.TheVariants as F
use Rattle.k_pass.proofs.Gives.{takes_one}
use Rattle.k_pass.proofs.give.give_proj.Goals as goal

pub returns-clause-steps : goal.returns-clause-steps
returns-clause-steps c = λ t.
    let w = c.args.work.now in
    takes_one t w c.put_one.new.out (F.Proj c.args.i c.args.ty) c.args.given.atom c.args.given.depth
    c.in_ok-inside.inside (proj_node c.args.i (at w).0 (tree c.args.ty.now) w.types c.args.given.depth) _ refl refl
    c.in_ok-put_one.ensures (ap (λ (u : K.KTy). NProj c.args.given.depth c.args.i u) c.in_ok-ty.ensures)
    c.in_ok-inside.ensures
