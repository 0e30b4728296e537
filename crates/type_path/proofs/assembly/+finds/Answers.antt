use Rattle.std.proofs.Common.{◌≡◌, ◌∷◌, [], Some, IfOk, if◌then◌else◌, sym, ap, ap₂, ◌∙◌, subst, arith}
use Rattle.std.proofs.lemmas.Bool.{eq-eqb}
use Rattle.t_types.specs.Read.{file, fields}
use Rattle.t_types.proofs.Trees.{tree_is_tuple, tree_is_code}
use Rattle.type_path.specs.Paths.{read}
use Rattle.type_path.specs.Assembly.{difference, in_files, in_fields}
use Rattle.type_path.specs.declared.step.Step.TheVariants.{Field}
use Rattle.type_path.proofs.AssemblyFields.{strict, fields_ended}
use Rattle.type_path.proofs.assembly.+finds.Goals as goal

pub difference-returns-in-Code-Code : goal.difference-returns-in-Code-Code
difference-returns-in-Code-Code t c =
    let a = tree_is_code _ _ _ _ c.in-Code-Code.is-0 c.deref.ensures.value in
    let b = tree_is_code _ _ _ _ c.in-Code-Code.is-1 c.deref-in-Code-Code.ensures.value in
    let files = in_files (file c.deref.result.now) (file c.deref-in-Code-Code.result.now) in
    let same = eq-eqb c.in-Code-Code.m c.in-Code-Code.n c.if-m-n.true in
    subst (λ d. IfOk c.files_difference.result (λ r. read r ≡ d))
    (sym (ap₂ difference a b ∙ ap (λ x. if x then files else Some []) same)) c.files_difference.ensures

pub difference-returns-in-Tuple-Tuple : goal.difference-returns-in-Tuple-Tuple
difference-returns-in-Tuple-Tuple t c =
    let a = tree_is_tuple _ _ _ c.in-Tuple-Tuple.is-0 c.deref-in-Tuple-Tuple.ensures.value in
    let b = tree_is_tuple _ _ _ c.in-Tuple-Tuple.is-1 c.deref-in-Tuple-Tuple-2.ensures.value in
    let fs = fields c.deref-in-Tuple-Tuple.result.now in
    let gs = fields c.deref-in-Tuple-Tuple-2.result.now in
    subst (λ d. IfOk c.fields_difference.result (λ r. read r ≡ d))
    (ap (λ x. in_fields 0 x gs) (strict fs gs) ∙ sym (ap₂ difference a b)) c.fields_difference.ensures

pub fields_difference-returns : goal.fields_difference-returns
fields_difference-returns t c =
    let i = c.loop-i.i in
    let all : i ≡ c.min-count.result = omega (arith, c.loop-i-test.false, c.loop-i.auto.i-end) in
    let e = c.loop-i.invariant
    ∙ fields_ended c.args.loose c.args.fs.now c.args.gs.now i i (omega (arith, all, c.min-count.ensures))
    (λ same. c.if-fs-gs.false same) in
    subst (λ d. IfOk c.one-2.result (λ r. read r ≡ d)) (ap (λ n. Some (Field n ∷ [])) (sym all) ∙ sym e)
    c.one-2.ensures
