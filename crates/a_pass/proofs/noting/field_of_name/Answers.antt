use Rattle.std.proofs.Common.{◌∙◌, ◌-◌, ap, subst, sym, Some}
use Rattle.a_terms.specs.Tree.{ashift}
use Rattle.a_terms.specs.TypeLaws.{field_shift}
use Rattle.a_terms.specs.Typing.{field_of}
use Rattle.a_terms.specs.Read.{atree}
use Rattle.a_pass.specs.declared.state.Kept.{Kept}
use Rattle.a_pass.specs.Scope.{kept, NotesType}
use Rattle.a_pass.proofs.noting.field_of_name.Goals as goal

pub returns-in-Lent : goal.returns-in-Lent
returns-in-Lent c =
    let by = c.args.binders - c.args.name.now.under in (
      ap (ashift by 0) (c.lent_field.ensures ∙ ap (λ (k : Kept). field_of c.args.i (Some (kept k))) (sym c.in-Lent.is))
          ∙ sym (field_shift by c.args.i (kept c.args.name.now.ty)),
      c.requires,
    )

pub returns-in_ok-made-in-Made : goal.returns-in_ok-made-in-Made
returns-in_ok-made-in-Made c =
    let by = c.args.binders - c.args.name.now.under in
    subst (λ t. NotesType c.args.binders t c.made_now.result)
    (c.in_ok-made-in-Made.ensures
    ∙ ap (λ k. ashift k 0 (field_of c.args.i (Some (atree c.in-Made.t)))) c.saturating_sub-by.ensures
    ∙ ap (λ (k : Kept). ashift by 0 (field_of c.args.i (Some (kept k)))) (sym c.in-Made.is)
    ∙ sym (field_shift by c.args.i (kept c.args.name.now.ty))) c.made_now.ensures
