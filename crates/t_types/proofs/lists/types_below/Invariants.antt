use Rattle.std.proofs.Common.{ℕ, take, All}
use Rattle.idx_core.specs.Bound.{IsBound}
use Rattle.t_types.specs.Tree.{Below}
use Rattle.t_types.specs.Read.{tree}
use Rattle.t_types.proofs.lists.types_below.Given as goal

abbrev pub invariant-loop-t : goal.invariant-loop-t
invariant-loop-t l = (n : ℕ) → IsBound l.bound n → All (λ t. Below n (tree t)) (take l.t-index l.ts)
