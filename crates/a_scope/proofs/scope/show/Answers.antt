use Rattle.std.proofs.Common.{◌∙◌, ◌-◌, ap}
use Rattle.a_terms.specs.Tree.{ashift}
use Rattle.a_scope.specs.Scope.{noted_type, filled_to}
use Rattle.a_scope.proofs.Filling.{filled_to_shift}
use Rattle.a_scope.proofs.scope.show.Goals as goal

pub returns : goal.returns
returns c =
    let e = c.args.entry.now in
    c.filled_up.ensures ∙ ap (filled_to e.filled) (c.in_ok-made.ensures
    ∙ ap (λ b. ashift b 0 (noted_type e.ty)) c.saturating_sub-by.ensures)
    ∙ filled_to_shift (c.args.names - e.names) e.filled (noted_type e.ty)
