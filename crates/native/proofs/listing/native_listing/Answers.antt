use Rattle.std.proofs.Common.{sym, ◌∙◌, subst}
use Rattle.std.proofs.lemmas.Result.{err_from_is_err_and}
use Rattle.t_terms.specs.ReadProgram.{program as program_tree}
use Rattle.t_terms.specs.declared.program.TProgram.{TProgram}
use Rattle.t_check.specs.Checked.{checked_program}
use Rattle.native.specs.Native.{IsInBounds}
use Rattle.native.proofs.Composing.{listed}
use Rattle.native.proofs.listing.native_listing.Goals as goal

pub returns-clause-listing : goal.returns-clause-listing
returns-clause-listing c =
    listed (checked_program c.args.checked.now) _ c.program.ensures.same c.args.heap _ c.in_ok-page.ensures.listing

pub returns-clause-fits : goal.returns-clause-fits
returns-clause-fits c =
    subst (λ (t : TProgram). IsInBounds c.args.heap (program_tree t)) c.program.ensures.same c.in_ok-page.ensures.fits

pub returns-in_err-page-clause-large : goal.returns-in_err-page-clause-large
returns-in_err-page-clause-large c =
    let r = err_from_is_err_and c.from_residual.result c.from_residual.ensures.1 in
    rw r.1 (λ is. subst (λ (t : TProgram). IsInBounds c.args.heap (program_tree t) → ⊥) c.program.ensures.same
    (c.in_err-page.ensures.large (sym r.2 ∙ is)))
