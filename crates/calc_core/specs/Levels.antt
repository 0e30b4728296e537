-- Names by level, counted from the outermost, beside indices, counted from the innermost.
use Rattle.std.specs.Prelude.{ℕ, zero, suc}

-- the level of index i under d names
abbrev pub level_of : ℕ → ℕ → ℕ
level_of zero i = 0
level_of (suc d) zero = d
level_of (suc d) (suc i) = level_of d i
