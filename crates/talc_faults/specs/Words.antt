-- Words of the language that are looked for in a text.
use Rattle.std.specs.Prelude.{◌||◌, Bool, ℕ, List, codes, bytes_eq}

-- what an `in` closes
abbrev pub opens : List ℕ → Bool
opens word = bytes_eq word (codes "let") || bytes_eq word (codes "open")

-- what a bracket behind it belongs to
abbrev pub owns : List ℕ → Bool
owns word = bytes_eq word (codes "if0") || bytes_eq word (codes "pack") || bytes_eq word (codes "open")
