use Rattle.std.proofs.Common.{◌≡◌, ◌++◌, List, map}
use Rattle.std.specs.Vec.Iter.{into_iter_items}
use Rattle.a_terms.specs.Tree as a
use Rattle.a_pass.specs.Scope.{type_in, type_of}
use Rattle.a_pass.proofs.scope.kinds_of.Given as goal

abbrev pub invariant-loop-ty : goal.invariant-loop-ty
invariant-loop-ty l = (g : List a.ATy) →
    map (type_of g) l.made.items ++ map (type_in g) (into_iter_items l.ty-iterator) ≡ map (type_in g) l.fn.types.items
