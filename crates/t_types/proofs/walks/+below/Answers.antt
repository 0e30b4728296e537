use Rattle.std.proofs.Common.{ℕ, Bool, ◌+◌, refl, subst, sym, ◌∙◌, true≢false}
use Rattle.std.proofs.lemmas.List.Elements.{All-nil}
use Rattle.idx_core.specs.Over.{BelowAt, AnyDepth}
use Rattle.t_types.specs.declared.types.TType.{TType}
use Rattle.t_types.specs.Tree.{Below}
use Rattle.t_types.specs.Read.{tree}
use Rattle.t_types.proofs.Trees.{tree_is_tuple, tree_is_code, regs_have, fields_have, file_has_all, fields_have_all}
use Rattle.t_types.proofs.walks.+below.Goals as goal
use Rattle.idx_core.proofs.Lists.{item_has, items_more}

pub type_below-returns-in-Code : goal.type_below-returns-in-Code
type_below-returns-in-Code t c = λ n b.
    let e = tree_is_code _ _ _ _ c.in-Code.is c.deref.ensures.value in
    let h = c.regs_below.ensures (n + c.in-Code.owes) (c.deeper.ensures n b) in
    (λ x. subst (Below n) (sym e) (tt, h.0 x), λ x. h.1 (subst (Below n) e x).1)

pub type_below-returns-in-Tuple : goal.type_below-returns-in-Tuple
type_below-returns-in-Tuple t c = λ n b.
    let e = tree_is_tuple _ _ _ c.in-Tuple.is c.deref-in-Tuple.ensures.value in
    let h = c.fields_below.ensures n b in
    (λ x. subst (Below n) (sym e) (h.0 x), λ x. h.1 (subst (Below n) e x))

pub regs_below-loop-reg-init : goal.regs_below-loop-reg-init
regs_below-loop-reg-init t c = λ n b. All-nil (λ (x : ℕ × TType). Below n (tree x.1))

pub regs_below-returns-then-not-type_below : goal.regs_below-returns-then-not-type_below
regs_below-returns-then-not-type_below t c = λ n b.
    let h = c.type_below.ensures n b in (
      λ x. absurd (true≢false (sym x)),
      λ x. sym c.if-not-type_below.true
          ∙ h.1 (item_has (λ (x : ℕ × TType). Below n (tree x.1)) _ _ _ c.reg-item.is c.loop-reg-test.true
          (regs_have BelowAt AnyDepth n _ x)),
    )

pub regs_below-loop-reg-preserved : goal.regs_below-loop-reg-preserved
regs_below-loop-reg-preserved t c = λ n b.
    items_more (λ (x : ℕ × TType). Below n (tree x.1)) _ _ _ c.reg-item.is c.loop-reg-test.true
    (c.loop-reg.invariant n b) ((c.type_below.ensures n b).0 c.if-not-type_below.false)

pub regs_below-returns : goal.regs_below-returns
regs_below-returns t c =
    λ n b. (
      λ h. file_has_all BelowAt AnyDepth n c.args.regs.now c.loop-reg.reg-index (c.loop-reg.invariant n b)
          c.loop-reg-test.false,
      λ h. refl,
    )

pub fields_below-loop-field-init : goal.fields_below-loop-field-init
fields_below-loop-field-init t c = λ n b. All-nil (λ (x : TType × Bool). Below n (tree x.0))

pub fields_below-returns-then-not-type_below : goal.fields_below-returns-then-not-type_below
fields_below-returns-then-not-type_below t c = λ n b.
    let h = c.type_below.ensures n b in (
      λ x. absurd (true≢false (sym x)),
      λ x. sym c.if-not-type_below.true
          ∙ h.1 (item_has (λ (x : TType × Bool). Below n (tree x.0)) _ _ _ c.field-item.is c.loop-field-test.true
          (fields_have BelowAt AnyDepth n _ x)),
    )

pub fields_below-loop-field-preserved : goal.fields_below-loop-field-preserved
fields_below-loop-field-preserved t c = λ n b.
    items_more (λ (x : TType × Bool). Below n (tree x.0)) _ _ _ c.field-item.is c.loop-field-test.true
    (c.loop-field.invariant n b) ((c.type_below.ensures n b).0 c.if-not-type_below.false)

pub fields_below-returns : goal.fields_below-returns
fields_below-returns t c =
    λ n b. (
      λ h. fields_have_all BelowAt AnyDepth n c.args.fs.now c.loop-field.field-index (c.loop-field.invariant n b)
          c.loop-field-test.false,
      λ h. refl,
    )
