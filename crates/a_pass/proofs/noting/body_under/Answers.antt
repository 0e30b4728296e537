use Rattle.std.proofs.Common.{◌∙◌, ap, sym, Some}
use Rattle.c_terms.specs.Read.{ctree}
use Rattle.a_terms.specs.Tree.{ashift}
use Rattle.a_terms.specs.Typing.{body_of}
use Rattle.a_laws.specs.Allocate.{atype}
use Rattle.a_pass.proofs.noting.body_under.Goals as goal

pub returns-in_ok-made-in-Exists : goal.returns-in_ok-made-in-Exists
returns-in_ok-made-in-Exists c =
    c.in_ok-made-in-Exists.ensures ∙ ap (λ x. ashift c.args.by 1 (atype (ctree x))) c.deref.ensures
    ∙ ap (λ x. ashift c.args.by 1 (body_of (Some (atype (ctree x))))) (sym c.in-Exists.is)
