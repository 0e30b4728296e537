use Rattle.std.proofs.Common.{◌∙◌, ap}
use Rattle.std.proofs.lemmas.Result.{err_from_is_err_and}
use Rattle.f_check.proofs.Resumes.{field_enters, field_given, field_faulty}
use Rattle.f_check.proofs.Forms.{tells_map, limits_of, within}
use Rattle.f_terms.specs.Ty.{TTuple, tys}
use Rattle.f_terms.specs.Read.{tree, place}
use Rattle.text_core.specs.Refusals.{nothing}
use Rattle.f_terms.specs.Faults.{limits}
use Rattle.f_terms.proofs.Trees.{tree_Tuple}
use Rattle.std.proofs.Common.{map, min}
use Rattle.f_terms.specs.Ty.{depth, size}
use Rattle.std.proofs.Common.{refl}
use Rattle.std.proofs.lemmas.List.{nil_from_length}
use Rattle.f_check.specs.Scopes.{bound}
use Rattle.f_check.proofs.Follows.{resumed}
use Rattle.f_check.specs.declared.frame.Frame.TheVariants as C
use Rattle.f_check.proofs.resume.after_field.Goals as goal

pub enter-requires : goal.enter-requires
enter-requires c =
    field_enters c.args.term.now c.args.state.now c.args.part.ty c.args.part.span c.args.fields
    c.push.new.types c.requires c.in_ok-push.ensures c.in-Some.e.now c.in-Some.rest
    c.in-Some.ensures.cases.0

pub returns-in_ok-limit-in-None-clause-goes : goal.returns-in_ok-limit-in-None-clause-goes
returns-in_ok-limit-in-None-clause-goes c =
    let us = c.push.new.types in
    let e = tree_Tuple us in
    field_given c.args.term.now c.args.state.now c.args.part.ty c.args.part.span c.args.fields us c.requires
    c.in_ok-push.ensures c.in-None.ensures.cases
    (within (TTuple (tys (map tree us.items))) _ _ (c.depth.ensures ∙ ap (λ t. min (depth t) 18446744073709551615) e)
    (c.size.ensures ∙ ap (λ t. min (size t) 18446744073709551615) e) c.in_ok-limit-in-None.ensures.ok)

pub returns-in_err-limit-in-None-clause-goes : goal.returns-in_err-limit-in-None-clause-goes
returns-in_err-limit-in-None-clause-goes c =
    let q = err_from_is_err_and c.from_residual-in_err-limit-in-None.result
    c.from_residual-in_err-limit-in-None.ensures.1 in
    let f = c.in_err-limit-in-None.field-0.0 in
    let us = c.push.new.types in
    let e = tree_Tuple us in
    rw (q.1, q.2)
    (field_faulty c.args.term.now c.args.state.now c.args.part.ty c.args.part.span c.args.fields us c.requires
    c.in_ok-push.ensures c.in-None.ensures.cases f
    (tells_map f _ (limits (TTuple (tys (map tree us.items))) (place c.args.fields.span) nothing)
    (limits_of (TTuple (tys (map tree us.items))) _ _ (place c.args.fields.span)
    (c.depth.ensures ∙ ap (λ t. min (depth t) 18446744073709551615) e)
    (c.size.ensures ∙ ap (λ t. min (size t) 18446744073709551615) e))
    c.in_err-limit-in-None.ensures.fault))

pub returns-in-Some-clause-frames : goal.returns-in-Some-clause-frames
returns-in-Some-clause-frames c =
    resumed _ (C.Fields c.args.fields)
    (C.Fields (record c.args.fields { types = c.push.new.types; rest = c.in-Some.rest }))
    (map bound c.args.state.now.scope.items) _ _ c.in-Some.e.now c.enter.ensures.frames c.in-Some.ensures.cases.0
    (λ n k. k) (λ f n g. refl)

pub returns-in_ok-limit-in-None-clause-frames : goal.returns-in_ok-limit-in-None-clause-frames
returns-in_ok-limit-in-None-clause-frames c = (refl, nil_from_length _ c.in-None.ensures.cases, tt)
