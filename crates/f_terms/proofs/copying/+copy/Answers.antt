use Rattle.std.proofs.Common.{◌∙◌, List, ap, sym, map}
use Rattle.std.proofs.lemmas.List.{take_all}
use Rattle.f_terms.specs.Ty.{Ty, TTuple, tys}
use Rattle.f_terms.specs.Read.{tree}
use Rattle.f_terms.specs.declared.types.FType.{FType}
use Rattle.f_terms.proofs.Trees.{tree_Tuple, tree_parts}
use Rattle.f_terms.proofs.copying.+copy.Goals as goal

pub returns-after-loop-part : goal.returns-after-loop-part
returns-after-loop-part t c =
    let whole = tree_parts _ _ _ c.in-Tuple.is c.deref-part-items.ensures.value in
    tree_Tuple c.loop-part.parts
    ∙ ap (λ (ts : List Ty). TTuple (tys ts))
    (c.loop-part.invariant ∙ ap (λ (ts : List FType). map tree ts) (take_all _ _ c.loop-part-test.false))
    ∙ sym whole
