use Rattle.std.proofs.Common.{◌∙◌, ap}
use Rattle.f_check.proofs.Resumes.{deref_refused, deref_given}
use Rattle.f_terms.specs.Mismatch.{WReference, odds}
use Rattle.f_check.proofs.resume.after_deref.Goals as goal

pub returns-in-Ok-clause-goes : goal.returns-in-Ok-clause-goes
returns-in-Ok-clause-goes c =
    deref_given c.args.term.now c.args.state.now c.args.part.ty c.args.part.span c.args.span c.requires c.in-Ok.ty
    c.in-Ok.ensures

pub returns-in-Err-clause-goes : goal.returns-in-Err-clause-goes
returns-in-Err-clause-goes c =
    deref_refused c.args.term.now c.args.state.now c.args.part.ty c.args.part.span c.args.span c.requires _ _ (
      c.odds-mismatch.result,
      c.refused.ensures,
      c.odds-mismatch.ensures ∙ ap (odds c.args.state.now.around WReference)
          c.in-Err.ensures.0,
    )
    c.in-Err.ensures.1
