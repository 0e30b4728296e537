use Rattle.std.proofs.Common.{ℕ, take, All}
use Rattle.idx_core.specs.Bound.{IsBound}
use Rattle.calc_core.specs.Walks.{Below}
use Rattle.calc_core.specs.Read.{tree}
use Rattle.calc_core.proofs.walks.+below.Given as goal

abbrev pub invariant-types_below-loop-t : goal.invariant-types_below-loop-t
invariant-types_below-loop-t l = (n : ℕ) → IsBound l.bound n → All (λ t. Below n (tree t)) (take l.t-index l.ts)
