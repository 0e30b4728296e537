use Rattle.std.proofs.Common.{true≢false, sym}
use Rattle.f_check.proofs.Resumes.{left_refused}
use Rattle.std.proofs.Common.{map, refl}
use Rattle.f_check.specs.Scopes.{bound}
use Rattle.f_check.proofs.Follows.{gone, resumed}
use Rattle.f_check.specs.declared.frame.Frame.TheVariants as C
use Rattle.f_check.proofs.resume.after_left.Goals as goal

pub returns-then-not-is_int-clause-goes : goal.returns-then-not-is_int-clause-goes
returns-then-not-is_int-clause-goes c =
    left_refused c.args.term.now c.args.state.now c.args.part.ty c.args.part.span c.args.span c.args.b c.requires _ _
    (c.odds-mismatch.result, c.refused.ensures, c.odds-mismatch.ensures)
    (λ e. absurd (true≢false (sym (c.if-not-is_int.ensures.1 e))))

pub returns-then-not-is_int-clause-frames : goal.returns-then-not-is_int-clause-frames
returns-then-not-is_int-clause-frames c = gone _ _ _ c.refused.ensures

pub returns-clause-frames : goal.returns-clause-frames
returns-clause-frames c =
    resumed _ (C.Left c.args.span c.args.b) (C.Right c.args.span) (map bound c.args.state.now.scope.items) _ _ c.args.b
    c.enter.ensures.frames refl (λ n k. k) (λ f n g. refl)
