-- Integers of 64 bits: two's complement, and they wrap.
use Rattle.std.specs.Prelude.{ℤ, ◌+ℤ◌, ◌-ℤ◌, ◌*ℤ◌, pos, Bool}
use Rattle.std.specs.Int.{int_wrap, w64}
use Rattle.std.specs.Ordering.{int_eq}
use Rattle.idx_core.specs.declared.arith.Op.{Op}
use Rattle.idx_core.specs.declared.arith.Op.TheVariants.{Add, Sub, Mul}

-- the result of an operation
abbrev pub compute : Op → ℤ → ℤ → ℤ
compute Add a b = int_wrap w64 (a +ℤ b)
compute Sub a b = int_wrap w64 (a -ℤ b)
compute Mul a b = int_wrap w64 (a *ℤ b)

-- the test of a branch
abbrev pub is_zero : ℤ → Bool
is_zero i = int_eq i (pos 0)
