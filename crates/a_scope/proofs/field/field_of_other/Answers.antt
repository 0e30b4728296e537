use Rattle.std.proofs.Common.{◌∙◌, ap}
use Rattle.a_terms.specs.Typing.{field_of}
use Rattle.a_scope.proofs.Scopes.{own_stands}
use Rattle.a_scope.proofs.field.field_of_other.Goals as goal

pub returns : goal.returns
returns c = own_stands c.args.around.now.names c.in_ok-noted.noted _ (c.in_ok-noted.ensures.ty ∙ c.in_ok-made.ensures
    ∙ ap (field_of c.args.i) c.in_ok-ty.ensures) c.in_ok-noted.ensures.names
