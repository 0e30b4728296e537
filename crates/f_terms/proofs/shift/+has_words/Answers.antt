use Rattle.std.proofs.Common.{refl}
use Rattle.idx_core.specs.Over.{BelowAt, AnyDepth}
use Rattle.f_terms.specs.Ty.{Below}
use Rattle.f_terms.specs.Read.{tree}
use Rattle.f_terms.proofs.Trees.{tree_parts, tuple_has}
use Rattle.f_terms.proofs.shift.+has_words.Goals as goal
use Rattle.idx_core.proofs.Lists.{items_more}

pub loop-part-preserved : goal.loop-part-preserved
loop-part-preserved t c = λ m h.
    items_more (λ t. Below m (tree t)) _ _ _ c.part-item.is c.loop-part-test.true (c.loop-part.invariant m h)
    (c.has_words-in-loop-part.ensures.below m h)

pub returns-after-loop-part : goal.returns-after-loop-part
returns-after-loop-part t c =
    let whole = tree_parts _ _ _ c.in-Tuple.is c.deref-part-items.ensures.value in
    record {
      is_true = refl;
      below = λ m h. tuple_has BelowAt AnyDepth m _ _ _ whole (c.loop-part.invariant m h) c.loop-part-test.false;
    }
