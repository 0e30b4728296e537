use Rattle.std.proofs.Common.{◌∙◌, ◌++◌, ◌∷◌, List, [], ap}
use Rattle.k_terms.specs.K as K
use Rattle.k_terms.specs.K.{TKCode, NoKTys, MoreKTys}
use Rattle.k_terms.specs.Read.{ktree, ktys}
use Rattle.calc_core.specs.declared.types.CoreType.{CoreType as KType}
use Rattle.calc_core.proofs.Trees.{tree_Code}
use Rattle.k_pass.proofs.types.arrow_type.Goals as goal

pub returns : goal.returns
returns c =
    tree_Code 0 c.push-2.new.self
    ∙ ap (λ (xs : List KType). TKCode 0 (ktys xs))
    (c.in_ok-push-2.ensures.items
    ∙ ap (λ (xs : List KType). xs ++ c.in_ok-rest.rest ∷ [])
    (c.in_ok-push.ensures.items ∙ ap (λ (xs : List KType). xs ++ c.args.a ∷ []) c.in_ok-args.ensures.items))
    ∙ ap (λ (t : K.KTy). TKCode 0 (MoreKTys (ktree c.args.a) (MoreKTys t NoKTys))) c.in_ok-rest.ensures
