use Rattle.std.proofs.Common.{ap, subst, sym, Some}
use Rattle.a_terms.specs.Typing.{body_of, or_int}
use Rattle.a_pass.specs.Scope.{NotesType}
use Rattle.a_pass.proofs.noting.name_body.Goals as goal

pub returns-in_ok-made-in-Some : goal.returns-in_ok-made-in-Some
returns-in_ok-made-in-Some c =
    subst (λ t. NotesType c.args.after t c.in_ok-made-in-Some.made)
    (sym (ap (λ o. body_of (Some (or_int o))) (c.in-Some.ensures.ty c.args.binders))) c.in_ok-made-in-Some.ensures

pub returns-in-None : goal.returns-in-None
returns-in-None c =
    subst (λ t. NotesType c.args.after t c.made_now.result)
    (sym (ap (λ o. body_of (Some (or_int o))) (c.in-None.ensures.ty c.args.binders))) c.made_now.ensures
