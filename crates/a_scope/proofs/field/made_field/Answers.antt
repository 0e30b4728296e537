use Rattle.std.proofs.Common.{◌∙◌}
use Rattle.a_scope.proofs.Scopes.{own_stands}
use Rattle.a_scope.proofs.field.made_field.Goals as goal

pub returns : goal.returns
returns c = own_stands c.args.names c.in_ok-noted.noted _ (c.in_ok-noted.ensures.ty ∙ c.in_ok-made.ensures)
    c.in_ok-noted.ensures.names
