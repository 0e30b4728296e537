use Rattle.std.proofs.Common.{List, map, ap, arith}
use Rattle.std.proofs.lemmas.List.{take_all}
use Rattle.f_terms.specs.Ty.{tys, depth, depths}
use Rattle.f_terms.specs.Read.{tree}
use Rattle.f_terms.specs.declared.types.FType.{FType}
use Rattle.f_terms.proofs.Trees.{tree_parts, depths_more}
use Rattle.f_terms.proofs.count.+depth.Goals as goal

pub loop-part-preserved : goal.loop-part-preserved
loop-part-preserved t c =
    let more = depths_more c.deref-part-items.result.now c.loop-part.part-index c.part-item.result c.part-item.is
    c.loop-part-test.true in
    omega (arith, more, c.loop-part.invariant)

pub returns-after-loop-part : goal.returns-after-loop-part
returns-after-loop-part t c =
    let whole = tree_parts _ _ _ c.in-Tuple.is c.deref-part-items.ensures.value in
    let xs = c.deref-part-items.result.now in
    let all = ap (λ (ys : List FType). depths (tys (map tree ys)))
    (take_all c.loop-part.part-index xs c.loop-part-test.false) in
    omega (arith, c.loop-part.invariant, all, ap depth whole)
