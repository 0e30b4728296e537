use Rattle.std.proofs.Common.{◌∙◌, ap, subst, Some}
use Rattle.a_terms.specs.Read.{atree}
use Rattle.a_terms.specs.TypeLaws.{shift_none}
use Rattle.a_terms.specs.Typing.{field_of}
use Rattle.a_pass.specs.Scope.{NotesType}
use Rattle.a_pass.proofs.noting.field_of_other.Goals as goal

pub returns : goal.returns
returns c =
    subst (λ t. NotesType c.args.binders t c.made_now.result)
    (c.in_ok-made.ensures ∙ shift_none (field_of c.args.i (Some (atree c.in_ok-whole.whole)))
    ∙ ap (λ x. field_of c.args.i (Some x)) c.in_ok-whole.ensures) c.made_now.ensures
