-- Names in scope, innermost first.
use Rattle.std.specs.Prelude.{◌≡◌, ◌≢◌, ℕ, zero, suc, List, [], ◌∷◌, Option, MatchOption}

-- the bytes of a name
abbrev pub Name : Type 0
Name = List ℕ

-- i is the first place of the name
abbrev pub IsPlace : Name → List Name → ℕ → Type 0
IsPlace name [] i = ⊥
IsPlace name (n ∷ ns) zero = name ≡ n
IsPlace name (n ∷ ns) (suc i) = (name ≢ n) × IsPlace name ns i

-- the name is not there
abbrev pub IsAbsent : Name → List Name → Type 0
IsAbsent name [] = Unit {0}
IsAbsent name (n ∷ ns) = (name ≢ n) × IsAbsent name ns

-- the first place of the name, or none exactly where it is not there
abbrev pub FindsPlace : Name → List Name → Option ℕ → Type 0
FindsPlace name names result = MatchOption result (IsAbsent name names) (λ i. IsPlace name names i)
