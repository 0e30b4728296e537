use Rattle.std.proofs.Common.{◌∙◌, ap, true≢false, sym, refl}
use Rattle.f_check.proofs.Resumes.{fix_refused, fix_given}
use Rattle.f_check.proofs.Follows.{gone}
use Rattle.f_terms.specs.Read.{tree}
use Rattle.f_terms.specs.Mismatch.{WType, odds}
use Rattle.f_check.proofs.resume.after_fix.Goals as goal

pub returns-then-not-eq-clause-goes : goal.returns-then-not-eq-clause-goes
returns-then-not-eq-clause-goes c =
    fix_refused c.args.term.now c.args.state.now c.args.part.ty c.args.part.span c.args.head c.requires
    (record c.args.state.now { scope = c.leave.new.scope }) _ _ (
      c.odds-mismatch.result,
      c.refused.ensures,
      c.odds-mismatch.ensures
          ∙ ap (λ t. odds c.args.state.now.around (WType t) (tree c.args.part.ty)) c.in_ok-wanted.ensures,
    )
    (λ e. absurd (true≢false (sym (c.if-not-eq.ensures.1 e))))

pub returns-clause-goes : goal.returns-clause-goes
returns-clause-goes c =
    fix_given c.args.term.now c.args.state.now c.args.part.ty c.args.part.span c.args.head c.requires c.leave.new.scope
    c.in_ok-ty.ty c.leave.ensures (c.if-not-eq.ensures.0 refl) c.in_ok-ty.ensures

pub returns-then-not-eq-clause-frames : goal.returns-then-not-eq-clause-frames
returns-then-not-eq-clause-frames c = gone _ _ _ c.refused.ensures
