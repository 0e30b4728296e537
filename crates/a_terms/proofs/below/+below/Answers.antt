use Rattle.std.proofs.Common.{◌+◌, ◌∙◌, Bool, refl, subst, sym, true≢false}
use Rattle.std.proofs.lemmas.List.Elements.{All-nil}
use Rattle.idx_core.specs.Over.{BelowAt, AnyDepth}
use Rattle.idx_core.proofs.Lists.{item_has, items_more}
use Rattle.a_terms.specs.declared.types.AType.{AType}
use Rattle.a_terms.specs.Tree.{ABelow}
use Rattle.a_terms.specs.Read.{atree}
use Rattle.a_terms.specs.ReadLaws.{is_tuple, is_code}
use Rattle.a_terms.proofs.Each.{types_have, fields_have, types_have_all, fields_have_all}
use Rattle.a_terms.proofs.below.+below.Goals as goal

pub type_below-returns-in-Tuple : goal.type_below-returns-in-Tuple
type_below-returns-in-Tuple t c = λ n b.
    let e = is_tuple _ _ _ c.in-Tuple.is c.deref.ensures.value in
    let h = c.fields_below.ensures n b in
    (λ x. subst (ABelow n) (sym e) (h.0 x), λ x. h.1 (subst (ABelow n) e x))

pub type_below-returns-in-Code : goal.type_below-returns-in-Code
type_below-returns-in-Code t c = λ n b.
    let e = is_code _ _ _ _ c.in-Code.is c.deref-in-Code.ensures.value in
    let h = c.all_below.ensures (n + c.in-Code.owes) (c.deeper.ensures n b) in
    (λ x. subst (ABelow n) (sym e) (tt, h.0 x), λ x. h.1 (subst (ABelow n) e x).1)

pub all_below-loop-t-init : goal.all_below-loop-t-init
all_below-loop-t-init t c = λ n b. All-nil (λ (x : AType). ABelow n (atree x))

pub all_below-returns-then-not-type_below : goal.all_below-returns-then-not-type_below
all_below-returns-then-not-type_below t c = λ n b.
    let h = c.type_below.ensures n b in (
      λ x. absurd (true≢false (sym x)),
      λ x. sym c.if-not-type_below.true
          ∙ h.1 (item_has (λ (y : AType). ABelow n (atree y)) _ _ _ c.t-item.is c.loop-t-test.true
          (types_have BelowAt AnyDepth n _ x)),
    )

pub all_below-loop-t-preserved : goal.all_below-loop-t-preserved
all_below-loop-t-preserved t c = λ n b.
    items_more (λ (x : AType). ABelow n (atree x)) _ _ _ c.t-item.is c.loop-t-test.true (c.loop-t.invariant n b)
    ((c.type_below.ensures n b).0 c.if-not-type_below.false)

pub all_below-returns : goal.all_below-returns
all_below-returns t c = λ n b. (
  λ h. types_have_all BelowAt AnyDepth n c.args.ts.now c.loop-t.t-index (c.loop-t.invariant n b) c.loop-t-test.false,
  λ h. refl,
)

pub fields_below-loop-field-init : goal.fields_below-loop-field-init
fields_below-loop-field-init t c = λ n b. All-nil (λ (x : AType × Bool). ABelow n (atree x.0))

pub fields_below-returns-then-not-type_below : goal.fields_below-returns-then-not-type_below
fields_below-returns-then-not-type_below t c = λ n b.
    let h = c.type_below.ensures n b in (
      λ x. absurd (true≢false (sym x)),
      λ x. sym c.if-not-type_below.true
          ∙ h.1 (item_has (λ (y : AType × Bool). ABelow n (atree y.0)) _ _ _ c.field-item.is c.loop-field-test.true
          (fields_have BelowAt AnyDepth n _ x)),
    )

pub fields_below-loop-field-preserved : goal.fields_below-loop-field-preserved
fields_below-loop-field-preserved t c = λ n b.
    items_more (λ (x : AType × Bool). ABelow n (atree x.0)) _ _ _ c.field-item.is c.loop-field-test.true
    (c.loop-field.invariant n b) ((c.type_below.ensures n b).0 c.if-not-type_below.false)

pub fields_below-returns : goal.fields_below-returns
fields_below-returns t c = λ n b. (
  λ h. fields_have_all BelowAt AnyDepth n c.args.fs.now c.loop-field.field-index (c.loop-field.invariant n b)
      c.loop-field-test.false,
  λ h. refl,
)
