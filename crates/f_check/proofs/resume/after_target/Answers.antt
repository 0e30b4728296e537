use Rattle.std.proofs.Common.{◌∙◌, ap}
use Rattle.f_check.proofs.Resumes.{target_refused}
use Rattle.f_terms.specs.Mismatch.{WReference, odds}
use Rattle.f_check.proofs.resume.after_target.Goals as goal

pub returns-in-Err-clause-goes : goal.returns-in-Err-clause-goes
returns-in-Err-clause-goes c =
    let part = c.args.part in
    target_refused c.args.term.now c.args.state.now part.ty part.span c.args.span c.args.b c.requires _ _ (
      c.odds-mismatch.result,
      c.refused.ensures,
      c.odds-mismatch.ensures ∙ ap (odds c.args.state.now.around WReference)
          c.in-Err.ensures.0,
    )
    c.in-Err.ensures.1
