use Rattle.std.proofs.Common.{◌∙◌, ap}
use Rattle.a_terms.specs.Typing.{body_of}
use Rattle.a_scope.proofs.Scopes.{own_stands}
use Rattle.a_scope.proofs.field.body_of_other.Goals as goal

pub returns : goal.returns
returns c = own_stands c.args.after c.in_ok-made.made _ (c.in_ok-made.ensures.ty ∙ c.body_of_known.ensures
    ∙ ap body_of c.in_ok-ty.ensures) c.in_ok-made.ensures.names
