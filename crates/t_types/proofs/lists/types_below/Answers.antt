use Rattle.std.proofs.Common.{refl, sym, true≢false, ◌∙◌}
use Rattle.std.proofs.lemmas.List.Elements.{All-nil}
use Rattle.idx_core.specs.Over.{BelowAt, AnyDepth}
use Rattle.t_types.specs.Tree.{Below}
use Rattle.t_types.specs.Read.{tree}
use Rattle.t_types.proofs.Trees.{types_have, types_have_all}
use Rattle.t_types.proofs.lists.types_below.Goals as goal
use Rattle.idx_core.proofs.Lists.{item_has, items_more}

pub loop-t-init : goal.loop-t-init
loop-t-init c = λ n b. All-nil (λ t. Below n (tree t))

pub returns-then-not-type_below : goal.returns-then-not-type_below
returns-then-not-type_below c = λ n b. (
  λ h. absurd (true≢false (sym h)),
  λ h. sym c.if-not-type_below.true
      ∙ (c.type_below.ensures n b).1
      (item_has (λ t. Below n (tree t)) _ _ _ c.t-item.is c.loop-t-test.true (types_have BelowAt AnyDepth n _ h)),
)

pub loop-t-preserved : goal.loop-t-preserved
loop-t-preserved c = λ n b.
    items_more (λ t. Below n (tree t)) _ _ _ c.t-item.is c.loop-t-test.true (c.loop-t.invariant n b)
    ((c.type_below.ensures n b).0 c.if-not-type_below.false)

pub returns : goal.returns
returns c = λ n b. (
  λ h. types_have_all BelowAt AnyDepth n c.args.ts.now c.loop-t.t-index (c.loop-t.invariant n b)
      c.loop-t-test.false,
  λ h. refl,
)
