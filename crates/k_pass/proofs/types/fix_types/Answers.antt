use Rattle.std.proofs.Common.{◌∙◌, ap}
use Rattle.k_terms.specs.K as K
use Rattle.k_terms.specs.K.{NoKTys, MoreKTys}
use Rattle.f_terms.specs.Read.{tree}
use Rattle.k_laws.specs.Cps.{kat, taking}
use Rattle.k_pass.specs.Machine.{levels as levels_of}
use Rattle.k_pass.proofs.TypeLists.{ktys_push}
use Rattle.k_pass.proofs.types.fix_types.Goals as goal

pub returns : goal.returns
returns c =
    let t = kat c.args.types (levels_of c.args.levels.now.items) (tree c.args.arg.now) in
    ktys_push c.in_ok-args.args.items c.push.new.self.items _ t c.in_ok-args.ensures c.in_ok-push.ensures.items
    ∙ ap (λ (u : K.KTy). MoreKTys t (MoreKTys u NoKTys)) (c.in_ok-taking_type.ensures ∙ ap taking c.in_ok-k.ensures)
