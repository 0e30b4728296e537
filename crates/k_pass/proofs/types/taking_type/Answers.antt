use Rattle.std.proofs.Common.{◌∙◌, ◌++◌, ◌∷◌, List, [], ap}
use Rattle.k_terms.specs.K.{TKCode}
use Rattle.k_terms.specs.Read.{ktys}
use Rattle.calc_core.specs.declared.types.CoreType.{CoreType as KType}
use Rattle.calc_core.proofs.Trees.{tree_Code}
use Rattle.k_pass.proofs.types.taking_type.Goals as goal

pub returns : goal.returns
returns c = tree_Code 0 c.push.new.self
    ∙ ap (λ (xs : List KType). TKCode 0 (ktys xs))
    (c.in_ok-push.ensures.items ∙ ap (λ (xs : List KType). xs ++ c.args.t ∷ []) c.in_ok-args.ensures.items)
