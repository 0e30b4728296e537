-- The block that a place of the code is in, by where the blocks begin.
use Rattle.std.specs.Prelude.{ℕ, ◌+◌, ◌<◌, ◌≤◌, List, length, slice_index_or}

abbrev pub begin_at : List ℕ → ℕ → ℕ
begin_at es b = slice_index_or es b 0

-- the block b begins at the place or before it, and the next one, if there is one, behind it
pub record IsBlockAt (es : List ℕ) (at b : ℕ) : Type 0 where
  pub there : b < length es
  pub begun : begin_at es b ≤ at
  pub next : b + 1 < length es → at < begin_at es (b + 1)
