use Rattle.f_check.proofs.Resumes.{fun_refused}
use Rattle.std.proofs.Common.{◌∙◌, ap, map, refl}
use Rattle.f_check.specs.Scopes.{bound}
use Rattle.f_check.proofs.Follows.{gone, resumed}
use Rattle.f_check.specs.declared.frame.Frame.TheVariants as C
use Rattle.f_terms.specs.Mismatch.{WFunction, odds}
use Rattle.f_check.proofs.resume.after_function.Goals as goal

pub returns-in-Err-clause-goes : goal.returns-in-Err-clause-goes
returns-in-Err-clause-goes c =
    fun_refused c.args.term.now c.args.state.now c.args.part.ty c.args.part.span c.args.span c.args.x c.requires _ _ (
      c.odds-mismatch.result,
      c.refused.ensures,
      c.odds-mismatch.ensures ∙ ap (odds c.args.state.now.around WFunction)
          c.in-Err.ensures.0,
    )
    c.in-Err.ensures.1

pub returns-in-Err-clause-frames : goal.returns-in-Err-clause-frames
returns-in-Err-clause-frames c = gone _ _ _ c.refused.ensures

pub returns-in-Ok-clause-frames : goal.returns-in-Ok-clause-frames
returns-in-Ok-clause-frames c =
    resumed _ (C.Function c.args.span c.args.x)
    (C.Argument (record { span = c.args.span; arg = c.in-Ok.arg; res = c.in-Ok.res }))
    (map bound c.args.state.now.scope.items) _ _ c.args.x c.enter.ensures.frames refl (λ n k. k) (λ f n g. refl)
