use Rattle.std.proofs.Common.{true≢false, sym, refl, ap, ◌∙◌, map}
use Rattle.f_terms.specs.Ty.{TTuple, tys}
use Rattle.f_terms.specs.Read.{tree}
use Rattle.f_terms.specs.declared.types.FType.TheVariants as T
use Rattle.f_terms.proofs.Trees.{tree_Tuple}
use Rattle.f_check.proofs.Resumes.{assigned_refused, assigned_given}
use Rattle.f_check.proofs.resume.after_assigned.Goals as goal

pub returns-then-not-eq-clause-goes : goal.returns-then-not-eq-clause-goes
returns-then-not-eq-clause-goes c =
    assigned_refused c.args.term.now c.args.state.now c.args.part.ty c.args.part.span c.args.assignment
    c.requires _ _
    (c.odds-mismatch.result, c.refused.ensures, c.odds-mismatch.ensures)
    (λ e. absurd (true≢false (sym (c.if-not-eq.ensures.1 e))))

pub returns-clause-goes : goal.returns-clause-goes
returns-clause-goes c =
    assigned_given c.args.term.now c.args.state.now c.args.part.ty c.args.part.span c.args.assignment c.requires
    (T.Tuple c.new.result)
    (tree_Tuple c.new.result ∙ ap (λ ts. TTuple (tys (map tree ts))) c.new.ensures.items) (c.if-not-eq.ensures.0 refl)
