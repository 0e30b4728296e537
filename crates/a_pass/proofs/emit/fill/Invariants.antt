use Rattle.std.proofs.Common.{◌≡◌, ◌+◌, List, length}
use Rattle.std.specs.Vec.Iter.{into_iter_items}
use Rattle.a_terms.specs.declared.nodes.ANode.{ANode}
use Rattle.a_pass.specs.Emits.{Emits, inits}
use Rattle.a_pass.proofs.emit.fill.Given as goal

abbrev pub invariant-loop-value : goal.invariant-loop-value
invariant-loop-value l = record {
  level : l.newest + length (into_iter_items l.value-iterator) ≡ l.fn.level + length l.fn.fields.items;
  emits : (end : List ANode) → Emits l.out.items end (inits l.newest l.field (into_iter_items l.value-iterator)) →
      Emits l.fn.out.items end (inits l.fn.level 1 l.fn.fields.items);
}
