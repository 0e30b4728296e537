use Rattle.std.proofs.Common.{◌≡◌, ◌<◌, List, refl, sym, true≢false, ap, ◌∙◌, arith, length, get_or, below_more, map}
use Rattle.std.proofs.lemmas.List.{get_or_default, length-map}
use Rattle.f_terms.specs.Ty.{Ty, TTuple, tys}
use Rattle.f_terms.specs.Read.{tree}
use Rattle.f_terms.specs.declared.types.FType.{FType}
use Rattle.f_terms.proofs.Trees.{tree_parts, tuple_parts, same_at, same_trees}
use Rattle.f_terms.proofs.count.+eq.Goals as goal

pub returns-then-len : goal.returns-then-len
returns-then-len t c =
    let same : tree c.args.a.now ≡ tree c.args.b.now →
    map tree c.in-Tuple-Tuple.ss.items ≡ map tree c.in-Tuple-Tuple.ts.items =
    λ h. tuple_parts _ _
    (sym (tree_parts _ _ _ c.in-Tuple-Tuple.is-0 refl) ∙ h ∙ tree_parts _ _ _ c.in-Tuple-Tuple.is-1 refl) in (
      λ h. absurd (true≢false (sym h)),
      λ h. absurd (omega (
        arith,
        c.if-len.true,
        c.len.ensures,
        c.len-in-Tuple-Tuple.ensures,
        c.in-Tuple-Tuple.ss.ok.0,
        c.in-Tuple-Tuple.ts.ok.0,
        length-map c.in-Tuple-Tuple.ss.items tree,
        length-map c.in-Tuple-Tuple.ts.items tree,
        ap length (same h),
      )),
    )

pub returns-then-not-eq : goal.returns-then-not-eq
returns-then-not-eq t c =
    let xs = c.deref-s-items.result.now in
    let ys = c.in-Tuple-Tuple.ts.items in
    let same : tree c.args.a.now ≡ tree c.args.b.now → map tree xs ≡ map tree ys =
    λ h. tuple_parts _ _ (sym (tree_parts _ _ _ c.in-Tuple-Tuple.is-0 c.deref-s-items.ensures.value) ∙ h
    ∙ tree_parts _ _ _ c.in-Tuple-Tuple.is-1 refl) in
    let short : c.loop-i.i < length ys =
    omega (
      arith,
      c.if-len.false,
      c.len.ensures,
      c.len-in-Tuple-Tuple.ensures,
      c.in-Tuple-Tuple.ss.ok.0,
      c.in-Tuple-Tuple.ts.ok.0,
      ap length c.deref-s-items.ensures.value,
      c.loop-i-test.true,
    ) in (
      λ h. absurd (true≢false (sym h)),
      λ h. c.if-not-eq.ensures.1
          (ap tree c.s-item.is ∙ same_at xs ys c.loop-i.i c.s-item.result c.loop-i-test.true short (same h)
          ∙ ap tree (get_or_default ys c.loop-i.i c.s-item.result c.index.result.now short ∙ sym c.index.ensures)),
    )

pub loop-i-preserved : goal.loop-i-preserved
loop-i-preserved t c =
    let xs = c.deref-s-items.result.now in
    let ys = c.in-Tuple-Tuple.ts.items in
    let short : c.loop-i.i < length ys =
    omega (
      arith,
      c.if-len.false,
      c.len.ensures,
      c.len-in-Tuple-Tuple.ensures,
      c.in-Tuple-Tuple.ss.ok.0,
      c.in-Tuple-Tuple.ts.ok.0,
      ap length c.deref-s-items.ensures.value,
      c.loop-i-test.true,
    ) in
    below_more (λ k. (d : FType) → tree (get_or xs k d) ≡ tree (get_or ys k d)) _ c.loop-i.invariant
    (λ d. ap tree (get_or_default xs c.loop-i.i d c.s-item.result c.loop-i-test.true ∙ sym c.s-item.is)
    ∙ c.if-not-eq.ensures.0 refl
    ∙ ap tree (c.index.ensures ∙ get_or_default ys c.loop-i.i c.index.result.now d short))

pub returns-after-loop-i : goal.returns-after-loop-i
returns-after-loop-i t c =
    let xs = c.deref-s-items.result.now in
    let ys = c.in-Tuple-Tuple.ts.items in
    let long : length xs ≡ length ys =
    omega (
      arith,
      c.if-len.false,
      c.len.ensures,
      c.len-in-Tuple-Tuple.ensures,
      c.in-Tuple-Tuple.ss.ok.0,
      c.in-Tuple-Tuple.ts.ok.0,
      ap length c.deref-s-items.ensures.value,
    ) in (
      λ h. tree_parts _ _ _ c.in-Tuple-Tuple.is-0 c.deref-s-items.ensures.value
          ∙ ap (λ (us : List Ty). TTuple (tys us))
          (same_trees xs ys long (λ k d lt. c.loop-i.invariant k (omega arith) d))
          ∙ sym (tree_parts _ _ _ c.in-Tuple-Tuple.is-1 refl),
      λ h. refl,
    )
