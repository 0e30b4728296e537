use Rattle.std.proofs.Common.{ap, List, arith, sum_by}
use Rattle.std.proofs.lemmas.List.{take_all}
use Rattle.f_terms.specs.Ty.{size}
use Rattle.f_terms.specs.Read.{tree}
use Rattle.f_terms.specs.declared.types.FType.{FType}
use Rattle.f_terms.proofs.Trees.{tree_parts, size_tys}
use Rattle.f_terms.proofs.count.+size.Goals as goal

pub returns-after-loop-part : goal.returns-after-loop-part
returns-after-loop-part t c =
    let whole = tree_parts _ _ _ c.in-Tuple.is c.deref-part-items.ensures.value in
    let xs = c.deref-part-items.result.now in
    let all = ap (λ (ys : List FType). sum_by (λ t. size (tree t)) ys)
    (take_all c.loop-part.part-index xs c.loop-part-test.false) in
    omega (arith, c.loop-part.invariant, all, size_tys xs, ap size whole)
