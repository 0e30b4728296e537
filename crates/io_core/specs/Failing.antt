-- Lists of calls that fail, and counters of 64 bits.
use Rattle.std.specs.Prelude.{ℕ, ◌+◌, List, [], ◌∷◌, Option, Some, None, if◌then◌else◌, ◌==◌, min}
use Rattle.io_core.specs.Outside.{last_count}

-- the second number of the first pair that begins with this call's number, where there is one: the call fails
abbrev pub failing_at : List (ℕ × ℕ) → ℕ → Option ℕ
failing_at [] call = None
failing_at (pair ∷ pairs) call = if pair.0 == call then Some pair.1 else failing_at pairs call

-- one more, or the counter's last value
abbrev pub counted : ℕ → ℕ
counted n = min (n + 1) last_count
