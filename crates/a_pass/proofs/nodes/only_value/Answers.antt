use Rattle.std.proofs.Common.{map, [], sym, ap, ◌∙◌}
use Rattle.std.proofs.lemmas.List.{map_push, same_from_push}
use Rattle.a_pass.specs.Scope.{value_at}
use Rattle.a_pass.proofs.nodes.only_value.Goals as goal

pub returns-in-Some : goal.returns-in-Some
returns-in-Some c =
    λ d v h. (same_from_push (map (value_at d) c.pop.new.self.items) [] (value_at d c.in-Some.v) v
    (sym (map_push (value_at d) c.pop.new.self.items c.in-Some.v) ∙ ap (map (value_at d))
    (sym c.in-Some.ensures.items)
    ∙ h)).1
