use Rattle.std.proofs.Common.{map, refl}
use Rattle.f_check.proofs.Resumes.{let_enters}
use Rattle.f_check.specs.Scopes.{bound}
use Rattle.f_check.proofs.Follows.{resumed}
use Rattle.f_check.specs.declared.frame.Frame.TheVariants as C
use Rattle.f_check.proofs.resume.after_let.Goals as goal

pub enter-requires : goal.enter-requires
enter-requires c =
    let a = c.args in
    let_enters a.term.now a.state.now a.part.ty a.part.span a.span a.b c.requires c.bind.new.scope c.in_ok-bind.ensures

pub returns-clause-frames : goal.returns-clause-frames
returns-clause-frames c =
    resumed _ (C.Let c.args.span c.args.b) (C.Body c.args.span) (map bound c.args.state.now.scope.items) _ _ c.args.b
    c.enter.ensures.frames refl
    (λ n k. k) (λ f n g. refl)
