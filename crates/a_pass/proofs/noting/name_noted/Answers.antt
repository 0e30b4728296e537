use Rattle.std.proofs.Common.{ap, subst, sym}
use Rattle.a_terms.specs.Typing.{or_int}
use Rattle.a_pass.specs.Scope.{NotesType}
use Rattle.a_pass.proofs.noting.name_noted.Goals as goal

pub same_name-requires : goal.same_name-requires
same_name-requires c = c.in-Some.ensures.under c.args.binders c.requires

pub returns-in_ok-made-in-Some : goal.returns-in_ok-made-in-Some
returns-in_ok-made-in-Some c =
    subst (λ t. NotesType c.args.binders t c.in_ok-made-in-Some.made) (sym (ap or_int (c.in-Some.ensures.ty
    c.args.binders)))
    c.in_ok-made-in-Some.ensures

pub returns-in-None : goal.returns-in-None
returns-in-None c =
    subst (λ t. NotesType c.args.binders t c.made_now.result) (sym (ap or_int (c.in-None.ensures.ty c.args.binders)))
    c.made_now.ensures
