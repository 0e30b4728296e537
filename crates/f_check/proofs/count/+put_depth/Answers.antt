use Rattle.std.proofs.Common.{rules, List, map, ap, arith}
use Rattle.std.proofs.lemmas.List.{take_all}
use Rattle.f_terms.specs.Ty.{tys, depth}
use Rattle.f_terms.specs.Read.{tree}
use Rattle.f_terms.specs.declared.types.FType.{FType}
use Rattle.f_terms.specs.declared.types.FType.TheViews.{the_lemmas}
use Rattle.f_terms.proofs.Trees.{tree_parts}
use Rattle.f_check.specs.Counts.{put_depth, put_depths}
use Rattle.f_check.proofs.Puts.{part_depth, put_depths_more}
use Rattle.f_check.proofs.count.+put_depth.Goals as goal

pub put_depth-requires-in-loop-part : goal.put_depth-requires-in-loop-part
put_depth-requires-in-loop-part t c =
    let whole = tree_parts _ _ _ c.in-Tuple.is c.deref-part-items.ensures.value in
    let r = part_depth c.deref-part-items.result.now c.loop-part.part-index c.part-item.result c.part-item.is
    c.loop-part-test.true in
    (search (rules, the_lemmas), omega (arith, r, ap depth whole, c.requires))

pub loop-part-preserved : goal.loop-part-preserved
loop-part-preserved t c =
    let more = put_depths_more c.args.what c.args.at c.deref-part-items.result.now c.loop-part.part-index
    c.part-item.result c.part-item.is c.loop-part-test.true in
    omega (arith, more, c.loop-part.invariant)

pub returns-after-loop-part : goal.returns-after-loop-part
returns-after-loop-part t c =
    let whole = tree_parts _ _ _ c.in-Tuple.is c.deref-part-items.ensures.value in
    let xs = c.deref-part-items.result.now in
    let all = ap (λ (ys : List FType). put_depths c.args.what c.args.at (tys (map tree ys)))
    (take_all c.loop-part.part-index xs c.loop-part-test.false) in
    omega (arith, c.loop-part.invariant, all, ap (put_depth c.args.what c.args.at) whole)
