use Rattle.std.proofs.Common.{◌≡◌, ◌++◌, map}
use Rattle.std.specs.Vec.Iter.{into_iter_items}
use Rattle.a_terms.specs.NodeTrees.{a_value}
use Rattle.a_pass.specs.Scope.{value_at}
use Rattle.a_pass.proofs.emit.under_all.Given as goal

abbrev pub invariant-loop-value : goal.invariant-loop-value
invariant-loop-value l = map a_value l.made.items ++ map (value_at l.depth) (into_iter_items l.value-iterator)
    ≡ map (value_at l.depth) l.fn.values.items
