use Rattle.std.proofs.Common.{◌+◌, ◌∙◌, refl, subst, sym, true≢false}
use Rattle.std.proofs.lemmas.List.Elements.{All-nil}
use Rattle.idx_core.specs.Over.{BelowAt, AnyDepth}
use Rattle.idx_core.proofs.Lists.{item_has, items_more}
use Rattle.calc_core.specs.declared.types.CoreType.{CoreType}
use Rattle.calc_core.specs.Walks.{Below}
use Rattle.calc_core.specs.Read.{tree}
use Rattle.calc_core.proofs.Trees.{tree_is_tuple, tree_is_code, all_have, have_all}
use Rattle.calc_core.proofs.walks.+below.Goals as goal

pub type_below-returns-in-Tuple : goal.type_below-returns-in-Tuple
type_below-returns-in-Tuple t c = λ n b.
    let e = tree_is_tuple _ _ _ c.in-Tuple.is c.deref.ensures.value in
    let h = c.types_below.ensures n b in
    (λ x. subst (Below n) (sym e) (h.0 x), λ x. h.1 (subst (Below n) e x))

pub type_below-returns-in-Code : goal.type_below-returns-in-Code
type_below-returns-in-Code t c = λ n b.
    let e = tree_is_code _ _ _ _ c.in-Code.is c.deref-in-Code.ensures.value in
    let h = c.types_below-in-Code.ensures (n + c.in-Code.owes) (c.deeper.ensures n b) in
    (λ x. subst (Below n) (sym e) (tt, h.0 x), λ x. h.1 (subst (Below n) e x).1)

pub types_below-loop-t-init : goal.types_below-loop-t-init
types_below-loop-t-init t c = λ n b. All-nil (λ (x : CoreType). Below n (tree x))

pub types_below-returns-then-not-type_below : goal.types_below-returns-then-not-type_below
types_below-returns-then-not-type_below t c = λ n b.
    let h = c.type_below.ensures n b in (
      λ x. absurd (true≢false (sym x)),
      λ x. sym c.if-not-type_below.true
          ∙ h.1 (item_has (λ (y : CoreType). Below n (tree y)) _ _ _ c.t-item.is c.loop-t-test.true
          (all_have BelowAt AnyDepth n _ x)),
    )

pub types_below-loop-t-preserved : goal.types_below-loop-t-preserved
types_below-loop-t-preserved t c = λ n b.
    items_more (λ (x : CoreType). Below n (tree x)) _ _ _ c.t-item.is c.loop-t-test.true (c.loop-t.invariant n b)
    ((c.type_below.ensures n b).0 c.if-not-type_below.false)

pub types_below-returns : goal.types_below-returns
types_below-returns t c = λ n b. (
  λ h. have_all BelowAt AnyDepth n c.args.ts.now c.loop-t.t-index (c.loop-t.invariant n b) c.loop-t-test.false,
  λ h. refl,
)
