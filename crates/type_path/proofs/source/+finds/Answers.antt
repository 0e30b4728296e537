use Rattle.std.proofs.Common.{◌≡◌, ◌+◌, ◌∷◌, [], Some, IfOk, sym, ap, ap₂, ◌∙◌, subst, arith}
use Rattle.f_terms.proofs.Trees.{tree_parts}
use Rattle.type_path.specs.Paths.{read}
use Rattle.type_path.specs.Source.{difference}
use Rattle.type_path.specs.declared.step.Step.TheVariants.{Field}
use Rattle.type_path.proofs.SourceFields.{ended}
use Rattle.type_path.proofs.source.+finds.Goals as goal

pub fields_difference-returns : goal.fields_difference-returns
fields_difference-returns t c =
    let ts = c.args.ts.now in
    let us = c.args.us.now in
    let i = c.loop-i.i in
    let all : i ≡ c.min-count.result = omega (arith, c.loop-i-test.false, c.loop-i.auto.i-end) in
    let e = c.loop-i.invariant ∙ ended ts us i (i + 1) (omega (arith, all, c.min-count.ensures))
    (λ same. c.if-ts-us.false same) in
    subst (λ d. IfOk c.one.result (λ r. read r ≡ d)) (ap (λ n. Some (Field (n + 1) ∷ [])) (sym all) ∙ sym e)
    c.one.ensures

pub source_difference-returns-in-Tuple-Tuple : goal.source_difference-returns-in-Tuple-Tuple
source_difference-returns-in-Tuple-Tuple t c =
    let a = tree_parts _ _ _ c.in-Tuple-Tuple.is-0 c.deref-in-Tuple-Tuple.ensures.value in
    let b = tree_parts _ _ _ c.in-Tuple-Tuple.is-1 c.deref-in-Tuple-Tuple-2.ensures.value in
    subst (λ d. IfOk c.fields_difference.result (λ r. read r ≡ d)) (sym (ap₂ difference a b))
    c.fields_difference.ensures
