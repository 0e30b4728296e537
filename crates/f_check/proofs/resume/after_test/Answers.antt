use Rattle.std.proofs.Common.{true≢false, sym}
use Rattle.f_check.proofs.Resumes.{test_refused}
use Rattle.std.proofs.Common.{map, refl}
use Rattle.f_check.specs.Scopes.{bound}
use Rattle.f_check.proofs.Follows.{gone, resumed}
use Rattle.f_check.specs.declared.frame.Frame.TheVariants as C
use Rattle.f_check.proofs.resume.after_test.Goals as goal

pub returns-then-not-is_int-clause-goes : goal.returns-then-not-is_int-clause-goes
returns-then-not-is_int-clause-goes c =
    test_refused c.args.term.now c.args.state.now c.args.part.ty c.args.part.span c.args.branches
    c.requires _ _
    (c.odds-mismatch.result, c.refused.ensures, c.odds-mismatch.ensures)
    (λ e. absurd (true≢false (sym (c.if-not-is_int.ensures.1 e))))

pub returns-then-not-is_int-clause-frames : goal.returns-then-not-is_int-clause-frames
returns-then-not-is_int-clause-frames c = gone _ _ _ c.refused.ensures

pub returns-clause-frames : goal.returns-clause-frames
returns-clause-frames c =
    resumed _ (C.Test c.args.branches) (C.Zero c.args.branches.span c.args.branches.other)
    (map bound c.args.state.now.scope.items) _ _ c.args.branches.zero c.enter.ensures.frames refl
    (λ n k. k) (λ f n g. refl)
