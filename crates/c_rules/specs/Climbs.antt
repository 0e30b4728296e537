-- Ascending lists.
use Rattle.std.specs.Prelude.{◌<◌, ℕ, List, length, slice_index_or}

-- each is less than those after it
abbrev pub Climbs : List ℕ → Type 0
Climbs xs = (i j : ℕ) → i < j → j < length xs → slice_index_or xs i 0 < slice_index_or xs j 0
