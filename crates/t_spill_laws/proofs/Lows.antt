-- How many registers stay.
use Rattle.std.proofs.Common.{ℕ, ◌+◌, ◌≤◌, arith}
use Rattle.t_types.specs.WellFormed.{max_number}
use Rattle.t_spill_rules.specs.Spill.{lows}

pub one_low : (k : ℕ) → 8 ≤ k → 1 ≤ lows k
one_low k h = omega arith

pub six_more : (k : ℕ) → 8 ≤ k → lows k + 6 ≤ k
six_more k h = omega arith

pub six_fit : (k : ℕ) → 8 ≤ k → lows k + 6 ≤ max_number
six_fit k h = omega arith
