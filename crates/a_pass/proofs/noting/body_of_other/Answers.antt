use Rattle.std.proofs.Common.{◌∙◌, ap, subst, Some}
use Rattle.idx_core.specs.Laws.{shift_zero_law}
use Rattle.a_terms.specs.TreeLaws.{a_over}
use Rattle.a_terms.specs.Read.{atree}
use Rattle.a_terms.specs.Typing.{body_of}
use Rattle.a_pass.specs.Scope.{NotesType}
use Rattle.a_pass.proofs.noting.body_of_other.Goals as goal

pub returns : goal.returns
returns c =
    subst (λ t. NotesType c.args.after t c.made_now.result)
    (c.in_ok-made.ensures ∙ shift_zero_law a_over 1 (body_of (Some (atree c.in_ok-whole.whole)))
    ∙ ap (λ x. body_of (Some x)) c.in_ok-whole.ensures) c.made_now.ensures
