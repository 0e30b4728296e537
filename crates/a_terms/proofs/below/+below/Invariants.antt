use Rattle.std.proofs.Common.{ℕ, Bool, take, All}
use Rattle.idx_core.specs.Bound.{IsBound}
use Rattle.a_terms.specs.declared.types.AType.{AType}
use Rattle.a_terms.specs.Tree.{ABelow}
use Rattle.a_terms.specs.Read.{atree}
use Rattle.a_terms.proofs.below.+below.Given as goal

abbrev pub invariant-all_below-loop-t : goal.invariant-all_below-loop-t
invariant-all_below-loop-t l =
    (n : ℕ) → IsBound l.bound n → All (λ (x : AType). ABelow n (atree x)) (take l.t-index l.ts)

abbrev pub invariant-fields_below-loop-field : goal.invariant-fields_below-loop-field
invariant-fields_below-loop-field l =
    (n : ℕ) → IsBound l.bound n → All (λ (x : AType × Bool). ABelow n (atree x.0)) (take l.field-index l.fs)
