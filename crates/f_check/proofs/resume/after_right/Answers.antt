use Rattle.std.proofs.Common.{true≢false, sym, refl}
use Rattle.f_check.proofs.Resumes.{right_refused, right_given}
use Rattle.f_check.proofs.Follows.{gone}
use Rattle.f_check.proofs.resume.after_right.Goals as goal

pub returns-then-not-is_int-clause-goes : goal.returns-then-not-is_int-clause-goes
returns-then-not-is_int-clause-goes c =
    right_refused c.args.term.now c.args.state.now c.args.part.ty c.args.part.span c.args.span c.requires _ _
    (c.odds-mismatch.result, c.refused.ensures, c.odds-mismatch.ensures)
    (λ e. absurd (true≢false (sym (c.if-not-is_int.ensures.1 e))))

pub returns-clause-goes : goal.returns-clause-goes
returns-clause-goes c =
    right_given c.args.term.now c.args.state.now c.args.part.ty c.args.part.span c.args.span c.requires
    (c.if-not-is_int.ensures.0 refl)

pub returns-then-not-is_int-clause-frames : goal.returns-then-not-is_int-clause-frames
returns-then-not-is_int-clause-frames c = gone _ _ _ c.refused.ensures
