use Rattle.std.proofs.Common.{refl, sym, true≢false}
use Rattle.idx_core.specs.Over.{BelowAt, AnyDepth}
use Rattle.f_terms.specs.Ty.{Below}
use Rattle.f_terms.specs.Read.{tree}
use Rattle.f_terms.proofs.Trees.{tree_parts, parts_have, tuple_has, item_has}
use Rattle.f_terms.proofs.shift.+type_below.Goals as goal
use Rattle.idx_core.proofs.Lists.{items_more}

pub returns-then-not-type_below : goal.returns-then-not-type_below
returns-then-not-type_below t c =
    let whole = tree_parts _ _ _ c.in-Tuple.is c.deref-part-items.ensures.value in (
      λ h. absurd (true≢false (sym h)),
      λ h. c.if-not-type_below.ensures.1
          (item_has (λ t. Below c.args.n (tree t)) _ _ _ c.part-item.is c.loop-part-test.true
          (parts_have BelowAt AnyDepth c.args.n _ _ whole h)),
    )

pub loop-part-preserved : goal.loop-part-preserved
loop-part-preserved t c =
    items_more (λ t. Below c.args.n (tree t)) _ _ _ c.part-item.is c.loop-part-test.true c.loop-part.invariant
    (c.if-not-type_below.ensures.0 refl)

pub returns-after-loop-part : goal.returns-after-loop-part
returns-after-loop-part t c =
    let whole = tree_parts _ _ _ c.in-Tuple.is c.deref-part-items.ensures.value in
    (λ h. tuple_has BelowAt AnyDepth c.args.n _ _ _ whole c.loop-part.invariant c.loop-part-test.false, λ h. refl)
