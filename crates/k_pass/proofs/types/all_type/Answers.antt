use Rattle.std.proofs.Common.{◌∙◌, ◌++◌, ◌∷◌, List, [], ap}
use Rattle.k_terms.specs.K as K
use Rattle.k_terms.specs.K.{TKCode, NoKTys, MoreKTys}
use Rattle.k_terms.specs.Read.{ktys}
use Rattle.calc_core.specs.declared.types.CoreType.{CoreType as KType}
use Rattle.calc_core.proofs.Trees.{tree_Code}
use Rattle.k_pass.proofs.types.all_type.Goals as goal

pub returns : goal.returns
returns c =
    tree_Code 1 c.push.new.self
    ∙ ap (λ (xs : List KType). TKCode 1 (ktys xs))
    (c.in_ok-push.ensures.items
    ∙ ap (λ (xs : List KType). xs ++ c.in_ok-rest.rest ∷ []) c.in_ok-args.ensures.items)
    ∙ ap (λ (t : K.KTy). TKCode 1 (MoreKTys t NoKTys)) c.in_ok-rest.ensures
