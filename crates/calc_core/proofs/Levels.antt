-- Levels of names.
use Rattle.std.proofs.Common.{◌≡◌, ◌<◌, ℕ, zero, suc, ◌+◌, arith}
use Rattle.calc_core.specs.Levels.{level_of}

pub level_below : (d i : ℕ) → i < d → level_of d i + suc i ≡ d
level_below zero i h = absurd (omega arith)
level_below (suc d) zero h = omega arith
level_below (suc d) (suc i) h = omega (arith, level_below d i (omega arith))
