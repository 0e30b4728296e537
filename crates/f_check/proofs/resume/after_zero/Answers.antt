use Rattle.std.proofs.Common.{map, refl}
use Rattle.f_check.specs.Scopes.{bound}
use Rattle.f_check.proofs.Follows.{resumed}
use Rattle.f_check.specs.declared.frame.Frame.TheVariants as C
use Rattle.f_check.proofs.resume.after_zero.Goals as goal

pub returns-clause-frames : goal.returns-clause-frames
returns-clause-frames c =
    resumed _ (C.Zero c.args.span c.args.b) (C.Other c.args.span c.args.part.ty)
    (map bound c.args.state.now.scope.items) _ _ c.args.b c.enter.ensures.frames refl (λ n k. k) (λ f n g. refl)
