use Rattle.std.proofs.Common.{◌∙◌, ap, sym}
use Rattle.a_terms.specs.Tree.{ashift}
use Rattle.a_terms.specs.Typing.{or_int}
use Rattle.a_pass.specs.Scope.{kept}
use Rattle.a_pass.proofs.scope.shown.Goals as goal

pub returns-in_ok-made-in-Some : goal.returns-in_ok-made-in-Some
returns-in_ok-made-in-Some c =
    c.in_ok-made-in-Some.ensures ∙ ap (λ k. ashift k 0 (kept c.in-Some.name.now.ty)) c.saturating_sub-by.ensures ∙
    sym (ap or_int (c.in-Some.ensures.ty c.args.binders))

pub returns-in-None : goal.returns-in-None
returns-in-None c = sym (ap or_int (c.in-None.ensures.ty c.args.binders))
