use Rattle.std.proofs.Common.{List, subst}
use Rattle.t_types.specs.Tree.{IntTy}
use Rattle.t_terms.specs.declared.block.Block.{Block}
use Rattle.t_terms.specs.declared.data.Data.{Data}
use Rattle.t_intern.specs.Grown.{AreNumbers}
use Rattle.t_intern.proofs.Growing.{grown_next, grown_number, numbers_grown}
use Rattle.t_known.specs.Labels.{code_types, tuple_types}
use Rattle.t_known.proofs.labels.Labels.of_program.Goals as goal

pub returns-clause-grown : goal.returns-clause-grown
returns-clause-grown c =
    grown_next _ _ _ (grown_next _ _ _ c.in_ok-int.ensures.grown c.in_ok-blocks.ensures.grown)
    c.in_ok-tuples.ensures.grown

pub returns-clause-labels : goal.returns-clause-labels
returns-clause-labels c =
    let us = c.number_blocks.new.types in
    let vs = c.number_heap.new.types in
    record {
      int = grown_number c.intern.new.types vs
          (grown_next _ _ _ c.in_ok-blocks.ensures.grown c.in_ok-tuples.ensures.grown) IntTy c.in_ok-int.int
          c.in_ok-int.ensures.number;
      blocks = numbers_grown us vs _ c.in_ok-blocks.blocks.items c.in_ok-tuples.ensures.grown
          (subst (λ (bs : List Block). AreNumbers us (code_types bs) c.in_ok-blocks.blocks.items) c.deref.ensures.value
          c.in_ok-blocks.ensures.numbers);
      tuples = subst (λ (xs : List Data). AreNumbers vs (tuple_types xs) c.in_ok-tuples.tuples.items)
          c.deref-2.ensures.value c.in_ok-tuples.ensures.numbers;
    }
