use Rattle.std.proofs.Common.{rules, ap, List, arith, sum_by}
use Rattle.std.proofs.lemmas.List.{take_all}
use Rattle.f_terms.specs.Ty.{depth}
use Rattle.f_terms.specs.Read.{tree}
use Rattle.f_terms.specs.declared.types.FType.{FType}
use Rattle.f_terms.specs.declared.types.FType.TheViews.{the_lemmas}
use Rattle.f_terms.proofs.Trees.{tree_parts}
use Rattle.f_check.specs.Counts.{put_size}
use Rattle.f_check.proofs.Puts.{part_depth, put_sizes_tys}
use Rattle.f_check.proofs.count.+put_size.Goals as goal

pub put_size-requires-in-loop-part : goal.put_size-requires-in-loop-part
put_size-requires-in-loop-part t c =
    let whole = tree_parts _ _ _ c.in-Tuple.is c.deref-part-items.ensures.value in
    let r = part_depth c.deref-part-items.result.now c.loop-part.part-index c.part-item.result c.part-item.is
    c.loop-part-test.true in
    (search (rules, the_lemmas), omega (arith, r, ap depth whole, c.requires))

pub returns-after-loop-part : goal.returns-after-loop-part
returns-after-loop-part t c =
    let whole = tree_parts _ _ _ c.in-Tuple.is c.deref-part-items.ensures.value in
    let xs = c.deref-part-items.result.now in
    let all = ap (λ (ys : List FType). sum_by (λ t. put_size c.args.what c.args.at (tree t)) ys)
    (take_all c.loop-part.part-index xs c.loop-part-test.false) in
    omega (
      arith,
      c.loop-part.invariant,
      all,
      put_sizes_tys c.args.what c.args.at xs,
      ap (put_size c.args.what c.args.at) whole,
    )
