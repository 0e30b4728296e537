use Rattle.std.proofs.Common.{◌∙◌, ◌-◌, ap, subst, sym}
use Rattle.a_terms.specs.Tree.{ashift}
use Rattle.a_terms.specs.Read.{atree}
use Rattle.a_pass.specs.declared.state.Kept.{Kept}
use Rattle.a_pass.specs.Scope.{kept, NotesType}
use Rattle.a_pass.proofs.noting.same_name.Goals as goal

pub returns-in-Lent : goal.returns-in-Lent
returns-in-Lent c =
    (ap (λ (k : Kept). ashift (c.args.binders - c.args.name.now.under) 0 (kept k)) (sym c.in-Lent.is), c.requires)

pub returns-in_ok-made-in-Made : goal.returns-in_ok-made-in-Made
returns-in_ok-made-in-Made c =
    subst (λ t. NotesType c.args.binders t c.made_now.result)
    (c.in_ok-made-in-Made.ensures ∙ ap (λ k. ashift k 0 (atree c.in-Made.t)) c.saturating_sub-by.ensures
    ∙ ap (λ (k : Kept). ashift (c.args.binders - c.args.name.now.under) 0 (kept k)) (sym c.in-Made.is))
    c.made_now.ensures
