use Rattle.std.proofs.Common.{◌∙◌, ap}
use Rattle.std.proofs.lemmas.Result.{err_from_is_err_and}
use Rattle.f_check.proofs.Resumes.{inst_refused, inst_fits, inst_given, inst_faulty}
use Rattle.f_check.proofs.Follows.{gone}
use Rattle.f_terms.specs.Mismatch.{WPolymorphic, odds}
use Rattle.f_check.proofs.resume.after_inst.Goals as goal

pub returns-in-Err-clause-goes : goal.returns-in-Err-clause-goes
returns-in-Err-clause-goes c =
    let part = c.args.part in
    inst_refused c.args.term.now c.args.state.now part.ty part.span c.args.instance c.requires _ _ (
      c.odds-mismatch.result,
      c.refused.ensures,
      c.odds-mismatch.ensures
          ∙ ap (odds c.args.state.now.around WPolymorphic) c.in-Err.ensures.0,
    )
    c.in-Err.ensures.1

pub put_within-requires-clause-fits : goal.put_within-requires-clause-fits
put_within-requires-clause-fits c =
    inst_fits c.args.term.now c.args.state.now c.args.part.ty c.args.part.span c.args.instance c.requires
    c.in-Ok.body c.in-Ok.ensures

pub returns-clause-goes : goal.returns-clause-goes
returns-clause-goes c =
    inst_given c.args.term.now c.args.state.now c.args.part.ty c.args.part.span c.args.instance c.requires
    c.in-Ok.body c.in_ok-ty.ty c.in-Ok.ensures c.in_ok-ty.ensures

pub returns-in_err-ty-clause-goes : goal.returns-in_err-ty-clause-goes
returns-in_err-ty-clause-goes c =
    let q = err_from_is_err_and c.from_residual.result c.from_residual.ensures.1 in
    rw (q.1, q.2) (inst_faulty c.args.term.now c.args.state.now c.args.part.ty c.args.part.span c.args.instance
    c.requires c.in-Ok.body c.in_err-ty.field-0.0 c.in-Ok.ensures c.in_err-ty.ensures)

pub returns-in-Err-clause-frames : goal.returns-in-Err-clause-frames
returns-in-Err-clause-frames c = gone _ _ _ c.refused.ensures
