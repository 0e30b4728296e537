use Rattle.std.proofs.Common.{ℕ, Bool, take, All}
use Rattle.t_types.specs.declared.types.TType.{TType}
use Rattle.idx_core.specs.Bound.{IsBound}
use Rattle.t_types.specs.Tree.{Below}
use Rattle.t_types.specs.Read.{tree}
use Rattle.t_types.proofs.walks.+below.Given as goal

abbrev pub invariant-regs_below-loop-reg : goal.invariant-regs_below-loop-reg
invariant-regs_below-loop-reg l =
    (n : ℕ) → IsBound l.bound n → All (λ (x : ℕ × TType). Below n (tree x.1)) (take l.reg-index l.regs)

abbrev pub invariant-fields_below-loop-field : goal.invariant-fields_below-loop-field
invariant-fields_below-loop-field l =
    (n : ℕ) → IsBound l.bound n → All (λ (x : TType × Bool). Below n (tree x.0)) (take l.field-index l.fs)
