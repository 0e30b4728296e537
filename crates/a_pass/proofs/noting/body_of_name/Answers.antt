use Rattle.std.proofs.Common.{◌∙◌, ◌-◌, ap, subst, sym, Some}
use Rattle.a_terms.specs.Tree.{ashift}
use Rattle.a_terms.specs.TypeLaws.{body_shift}
use Rattle.a_terms.specs.Typing.{body_of}
use Rattle.a_terms.specs.Read.{atree}
use Rattle.c_terms.specs.Read.{ctree}
use Rattle.a_laws.specs.Allocate.{atype}
use Rattle.a_pass.specs.declared.state.Kept.{Kept}
use Rattle.a_pass.specs.Scope.{kept, NotesType}
use Rattle.a_pass.proofs.noting.body_of_name.Goals as goal

pub returns-in_ok-made-in-Lent : goal.returns-in_ok-made-in-Lent
returns-in_ok-made-in-Lent c =
    let by = c.args.binders - c.args.name.now.under in
    subst (λ t. NotesType c.args.after t c.in_ok-made-in-Lent.made)
    (ap (λ k. ashift k 1 (body_of (Some (atype (ctree c.in-Lent.t.now))))) c.saturating_sub-by.ensures
    ∙ ap (λ (k : Kept). ashift by 1 (body_of (Some (kept k)))) (sym c.in-Lent.is)
    ∙ sym (body_shift by (kept c.args.name.now.ty))) c.in_ok-made-in-Lent.ensures

pub returns-in_ok-made-in-Made : goal.returns-in_ok-made-in-Made
returns-in_ok-made-in-Made c =
    let by = c.args.binders - c.args.name.now.under in
    subst (λ t. NotesType c.args.after t c.made_now.result)
    (c.in_ok-made-in-Made.ensures
    ∙ ap (λ k. ashift k 1 (body_of (Some (atree c.in-Made.t)))) c.saturating_sub-by.ensures
    ∙ ap (λ (k : Kept). ashift by 1 (body_of (Some (kept k)))) (sym c.in-Made.is)
    ∙ sym (body_shift by (kept c.args.name.now.ty))) c.made_now.ensures
