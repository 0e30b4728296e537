-- What the walks over bytes know of those that they have passed.
use Rattle.std.proofs.Common.{◌≡◌, ℕ, ◌+◌, ◌≤◌, ◌++◌, List, take, drop}
use Rattle.page_core.specs.Spot.{lines, last_begin, first_line}

-- no line end stands among the first i bytes
abbrev pub NoneBefore : List ℕ → ℕ → Type 0
NoneBefore xs i = first_line xs ≡ take i xs ++ first_line (drop i xs)

-- what the first i bytes tell of the last line
pub record Passed (xs : List ℕ) (i number begin : ℕ) : Type 0 where
  pub counted : number ≡ lines (take i xs)
  pub begins : last_begin begin i (drop i xs) ≡ last_begin 0 0 xs
  pub least : number ≤ i + 1
  pub bound : begin ≤ i
