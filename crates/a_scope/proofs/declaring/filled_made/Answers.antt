use Rattle.std.proofs.Common.{◌∙◌, ap}
use Rattle.a_terms.specs.Typing.{filled_of}
use Rattle.a_scope.proofs.Scopes.{own_stands}
use Rattle.a_scope.proofs.declaring.filled_made.Goals as goal

pub returns : goal.returns
returns c =
    own_stands c.args.around.now.names c.in_ok-made.made _ (c.in_ok-made.ensures.ty ∙ c.filled_of.ensures
    ∙ ap (filled_of c.args.i) c.in_ok-ty.ensures) c.in_ok-made.ensures.names
