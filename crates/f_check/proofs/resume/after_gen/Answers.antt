use Rattle.std.proofs.Common.{ap, arith}
use Rattle.std.proofs.lemmas.Result.{err_from_is_err_and}
use Rattle.f_check.proofs.Resumes.{gen_refused, gen_given}
use Rattle.f_check.proofs.Forms.{tells_map, limits_of, within}
use Rattle.f_terms.specs.declared.types.FType.TheVariants as T
use Rattle.f_terms.specs.Ty.{TAll}
use Rattle.f_terms.specs.Read.{tree, place}
use Rattle.text_core.specs.Refusals.{nothing}
use Rattle.f_terms.specs.Faults.{limits}
use Rattle.f_check.proofs.resume.after_gen.Goals as goal

pub returns-in_err-limit-clause-goes : goal.returns-in_err-limit-clause-goes
returns-in_err-limit-clause-goes c =
    let q = err_from_is_err_and c.from_residual.result c.from_residual.ensures.1 in
    let e = c.in_err-limit.field-0.0 in
    rw (q.1, q.2) (gen_refused c.args.term.now c.args.state.now c.args.part.ty c.args.part.span c.args.span c.requires e
    (tells_map e _ (limits (TAll (tree c.args.part.ty)) (place c.args.span) nothing)
    (limits_of (TAll (tree c.args.part.ty)) _ _ (place c.args.span)
    (omega (arith, c.saturating_add-deep.ensures, c.depth.ensures))
    (omega (arith, c.saturating_add-wide.ensures, c.size.ensures)))
    c.in_err-limit.ensures.fault))

pub returns-clause-goes : goal.returns-clause-goes
returns-clause-goes c =
    gen_given c.args.term.now c.args.state.now c.args.part.ty c.args.part.span c.args.span c.requires
    (T.All c.in_ok-new.field-0) (ap TAll (ap tree c.in_ok-new.ensures.ok))
    (within (TAll (tree c.args.part.ty)) _ _ (omega (arith, c.saturating_add-deep.ensures, c.depth.ensures))
    (omega (arith, c.saturating_add-wide.ensures, c.size.ensures)) c.in_ok-limit.ensures.ok)
