-- What a process has told: the bytes that the system took from it, call by call. Lists of calls have the last one
-- first.
use Rattle.std.specs.Prelude.{◌≡◌, ℕ, ◌<◌, List, [], ◌∷◌, ◌++◌, length}
use Rattle.x_terms.specs.Machine.{Call, Wrote}

-- each call wrote to this file
abbrev pub AllTo : ℕ → List Call → Type 0
AllTo file [] = Unit {0}
AllTo file (Wrote f bytes ∷ calls) = (f ≡ file) × AllTo file calls

-- the bytes that were taken, the first first
abbrev pub taken : List Call → List ℕ
taken [] = []
taken (Wrote f bytes ∷ calls) = taken calls ++ bytes

-- All of the line was taken, in order, in one piece or more.
abbrev pub AllWritten : ℕ → List ℕ → List Call → Type 0
AllWritten file line calls = AllTo file calls × (taken calls ≡ line)

-- A first part of the line was taken, maybe nothing of it or all.
abbrev pub PartWritten : ℕ → List ℕ → List Call → Type 0
PartWritten file line calls = AllTo file calls × (rest : List ℕ) × (line ≡ taken calls ++ rest)

-- A first part of the line was taken, and not all (of a line that has bytes at all). Then the system took nothing: it
-- answered the last call with 0 or with an error.
pub record CutShort (file : ℕ) (line : List ℕ) (calls : List Call) : Type 0 where
  pub before : List Call
  pub last : calls ≡ Wrote file [] ∷ before
  pub files : AllTo file before
  pub rest : List ℕ
  pub is : line ≡ taken before ++ rest
  pub some : 0 < length line → 0 < length rest
