use Rattle.std.proofs.Common.{ℕ}
use Rattle.idx_core.specs.Bound.{IsBound}
use Rattle.t_terms.specs.Read.{end_of}
use Rattle.t_terms.proofs.BodyWalks.{BelowFrom}
use Rattle.t_terms.proofs.bodies.body_below.Given as goal

abbrev pub invariant-loop-entry : goal.invariant-loop-entry
invariant-loop-entry l =
    (n : ℕ) → IsBound l.fn.bound n → (m : ℕ) × IsBound l.here m × BelowFrom n l.entries (end_of l.last) l.entry-index m
