use Rattle.std.proofs.Common.{◌∙◌, ap, List, [], ◌∷◌, ◌++◌}
use Rattle.c_terms.specs.C as C
use Rattle.calc_core.specs.declared.types.CoreType.{CoreType as CType}
use Rattle.calc_core.specs.declared.types.CoreType.TheVariants as CT
use Rattle.c_terms.specs.Read.{ctree, ctys}
use Rattle.calc_core.proofs.Trees.{tree_Tuple, tree_Code}
use Rattle.c_emit.proofs.close_type.closure_type.Goals as goal

pub returns : goal.returns
returns c =
    ap C.TCExists (ap ctree c.in_ok-pair.ensures.ok ∙ tree_Tuple c.push-2.new.self
    ∙ ap (λ (xs : List CType). C.TCTuple (ctys xs))
    (c.in_ok-push-2.ensures.items
    ∙ ap (λ (xs : List CType). xs ++ CT.Var 0 ∷ [])
    (c.in_ok-push.ensures.items
    ∙ ap (λ (xs : List CType). xs ++ CT.Code c.args.owes c.args.args ∷ []) c.in_ok-parts.ensures.items))
    ∙ ap (λ x. C.TCTuple (C.MoreCTys x (C.MoreCTys (C.TCVar 0) C.NoCTys))) (tree_Code c.args.owes c.args.args))
