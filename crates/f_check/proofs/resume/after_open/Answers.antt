use Rattle.std.proofs.Common.{◌∙◌, ap, map, refl}
use Rattle.f_check.proofs.Resumes.{open_refused, open_enters}
use Rattle.f_check.specs.Scopes.{bound}
use Rattle.f_check.proofs.Follows.{resumed}
use Rattle.f_check.specs.declared.frame.Frame.TheVariants as C
use Rattle.f_terms.specs.Mismatch.{WPackage, odds}
use Rattle.f_check.proofs.resume.after_open.Goals as goal

pub returns-in-Err-clause-goes : goal.returns-in-Err-clause-goes
returns-in-Err-clause-goes c =
    let a = c.args in
    open_refused a.term.now a.state.now a.part.ty a.part.span a.span a.b c.requires _ _ (
      c.odds-mismatch.result,
      c.refused.ensures,
      c.odds-mismatch.ensures ∙ ap (odds c.args.state.now.around WPackage)
          c.in-Err.ensures.0,
    )
    c.in-Err.ensures.1

pub enter-requires : goal.enter-requires
enter-requires c =
    let a = c.args in
    open_enters a.term.now a.state.now a.part.ty a.part.span a.span a.b c.requires c.bind.new.scope c.in-Ok.body
    c.in-Ok.ensures c.in_ok-bind.ensures

pub returns-clause-frames : goal.returns-clause-frames
returns-clause-frames c =
    resumed _ (C.Open c.args.span c.args.b) (C.Opened c.args.span) (map bound c.args.state.now.scope.items) _ _
    c.args.b c.enter.ensures.frames refl
    (λ n k. k) (λ f n g. refl)
