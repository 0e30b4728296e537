use Rattle.std.proofs.Common.{map, ap, ◌∙◌}
use Rattle.f_check.specs.Scopes.{bound}
use Rattle.f_check.proofs.Scoping.{bounds_push}
use Rattle.f_check.proofs.scope.leave_last.Goals as goal

pub returns : goal.returns
returns c =
    let b = c.in-Some.binder in
    (b.around, ap (map bound) c.in-Some.ensures.items ∙ bounds_push c.pop.new.self.items b)
