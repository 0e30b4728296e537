-- Names in scope by their levels: a level is how many names there are from a name on outwards.
use Rattle.std.specs.Prelude.{◌≡◌, ℕ, ◌+◌, List, [], ◌∷◌, length, Option, Some, if◌then◌else◌, bytes_eq, unwrap_or}
use Rattle.idx_core.specs.Names.{Name}

-- the level of the innermost name that is equal to x, or 0 where none is
abbrev pub level_of : Name → List Name → ℕ
level_of x [] = 0
level_of x (n ∷ ns) = if bytes_eq x n then 1 + length ns else level_of x ns

-- what is kept for each spelling is the level of its innermost name, and 0 or nothing where none is in scope
abbrev pub HasLevels : (Name → Option ℕ) → List Name → Type 0
HasLevels kept names = (x : Name) → unwrap_or (kept x) 0 ≡ level_of x names

-- this level is kept for the name, and for others what was
abbrev pub SetsLevel : (Name → Option ℕ) → (Name → Option ℕ) → Name → ℕ → Type 0
SetsLevel old new name level = (x : Name) → new x ≡ (if bytes_eq name x then Some level else old x)
