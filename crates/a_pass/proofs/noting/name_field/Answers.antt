use Rattle.std.proofs.Common.{ap, subst, sym, Some}
use Rattle.a_terms.specs.Typing.{field_of, or_int}
use Rattle.a_pass.specs.Scope.{NotesType}
use Rattle.a_pass.proofs.noting.name_field.Goals as goal

pub field_of_name-requires : goal.field_of_name-requires
field_of_name-requires c = c.in-Some.ensures.under c.args.binders c.requires

pub returns-in_ok-made-in-Some : goal.returns-in_ok-made-in-Some
returns-in_ok-made-in-Some c =
    subst (λ t. NotesType c.args.binders t c.in_ok-made-in-Some.made)
    (sym (ap (λ o. field_of c.args.i (Some (or_int o))) (c.in-Some.ensures.ty c.args.binders)))
    c.in_ok-made-in-Some.ensures

pub returns-in-None : goal.returns-in-None
returns-in-None c =
    subst (λ t. NotesType c.args.binders t c.made_now.result)
    (sym (ap (λ o. field_of c.args.i (Some (or_int o))) (c.in-None.ensures.ty c.args.binders))) c.made_now.ensures
