-- What stands at a place of a text.
use Rattle.std.specs.Prelude.{ℕ, ◌-◌, List, take, drop}

-- the bytes from start up to end: of the fault of a token the token
abbrev pub bytes_at : List ℕ → (start end : ℕ) → List ℕ
bytes_at text start end = take (end - start) (drop start text)
