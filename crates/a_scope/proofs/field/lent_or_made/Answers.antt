use Rattle.std.proofs.Common.{◌∙◌, arith}
use Rattle.a_terms.specs.Read.{atree}
use Rattle.a_scope.proofs.Scopes.{own_stands, body_none}
use Rattle.a_scope.proofs.field.lent_or_made.Goals as goal

pub returns-then-by-eq0 : goal.returns-then-by-eq0
returns-then-by-eq0 c = own_stands c.args.after c.noted_as.result _ (c.noted_as.ensures.ty ∙ c.lent_body.ensures
    ∙ body_none c.args.by (atree c.args.t.now) (omega (arith, c.if-by-eq0.true))) c.noted_as.ensures.names
