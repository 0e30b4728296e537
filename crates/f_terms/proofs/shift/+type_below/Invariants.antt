use Rattle.std.proofs.Common.{take, All}
use Rattle.f_terms.specs.Ty.{Below}
use Rattle.f_terms.specs.Read.{tree}
use Rattle.f_terms.proofs.shift.+type_below.Given as goal

abbrev pub invariant-loop-part : goal.invariant-loop-part
invariant-loop-part l = All (λ t. Below l.n (tree t)) (take l.part-index l.part-items)
