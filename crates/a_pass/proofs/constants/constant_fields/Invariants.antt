use Rattle.std.proofs.Common.{◌≡◌, ◌++◌, map}
use Rattle.std.specs.Vec.Iter.{into_iter_items}
use Rattle.a_pass.specs.Scope.{field_at, knowns, scope}
use Rattle.a_pass.proofs.Every.{a_const}
use Rattle.a_pass.proofs.constants.constant_fields.Given as goal

abbrev pub invariant-loop-field : goal.invariant-loop-field
invariant-loop-field l =
    map a_const l.made.items ++ map (field_at (scope l.binders l.names) (knowns l.names))
    (into_iter_items l.field-iterator) ≡ map (field_at (scope l.binders l.names) (knowns l.names)) l.fn.fields.items
