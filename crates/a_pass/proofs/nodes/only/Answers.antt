use Rattle.std.proofs.Common.{map, [], sym, ap, ◌∙◌}
use Rattle.std.proofs.lemmas.List.{map_push, same_from_push}
use Rattle.a_pass.specs.Scope.{constant_in, type_in}
use Rattle.a_pass.proofs.nodes.only.Goals as goal

pub returns-in-Some-clause-ty : goal.returns-in-Some-clause-ty
returns-in-Some-clause-ty c =
    λ g t h. (same_from_push (map (type_in g) c.pop.new.self.items) [] (type_in g c.in-Some.seen) t
    (sym (map_push (type_in g) c.pop.new.self.items c.in-Some.seen)
    ∙ ap (map (type_in g)) (sym c.in-Some.ensures.items) ∙ h)).1

pub returns-in-Some-clause-constant : goal.returns-in-Some-clause-constant
returns-in-Some-clause-constant c =
    λ ls o h. (same_from_push (map (constant_in ls) c.pop.new.self.items) [] (constant_in ls c.in-Some.seen) o
    (sym (map_push (constant_in ls) c.pop.new.self.items c.in-Some.seen)
    ∙ ap (map (constant_in ls)) (sym c.in-Some.ensures.items) ∙ h)).1
