use Rattle.std.proofs.Common.{true≢false, sym, refl}
use Rattle.f_check.proofs.Resumes.{arg_refused, arg_given}
use Rattle.f_check.proofs.Follows.{gone}
use Rattle.f_check.proofs.resume.after_argument.Goals as goal

pub returns-then-not-eq-clause-goes : goal.returns-then-not-eq-clause-goes
returns-then-not-eq-clause-goes c =
    arg_refused c.args.term.now c.args.state.now c.args.part.ty c.args.part.span c.args.applied c.requires _ _
    (c.odds-mismatch.result, c.refused.ensures, c.odds-mismatch.ensures)
    (λ e. absurd (true≢false (sym (c.if-not-eq.ensures.1 e))))

pub returns-clause-goes : goal.returns-clause-goes
returns-clause-goes c =
    arg_given c.args.term.now c.args.state.now c.args.part.ty c.args.part.span c.args.applied c.requires
    (c.if-not-eq.ensures.0 refl)

pub returns-then-not-eq-clause-frames : goal.returns-then-not-eq-clause-frames
returns-then-not-eq-clause-frames c = gone _ _ _ c.refused.ensures
