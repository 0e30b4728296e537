use Rattle.std.proofs.Common.{ap₂, refl}
use Rattle.k_terms.specs.K as K
use Rattle.k_terms.specs.Stream.{NPack}
use Rattle.f_terms.specs.Read.{tree}
use Rattle.k_pass.specs.Emit.{pack_node}
use Rattle.k_pass.specs.Machine.{at}
use Rattle.k_pass.specs.declared.work.Frame.TheVariants as F
use Rattle.k_pass.proofs.Gives.{takes_one}
use Rattle.k_pass.proofs.give.give_pack.Goals as goal

pub returns-clause-steps : goal.returns-clause-steps
returns-clause-steps c = λ t.
    let w = c.args.work.now in
    takes_one t w c.put_one.new.out (F.Pack c.args.hidden c.args.ty) c.args.given.atom c.args.given.depth
    c.in_ok-inside.inside
    (pack_node (at w).0 (tree c.args.hidden.now) (tree c.args.ty.now) w.types c.args.given.depth) _ refl refl
    c.in_ok-put_one.ensures
    (ap₂ (λ (h u : K.KTy). NPack c.args.given.depth w.types h u) c.in_ok-hidden.ensures c.in_ok-shape.ensures)
    c.in_ok-inside.ensures
