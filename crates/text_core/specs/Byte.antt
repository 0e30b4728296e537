-- The bytes of a text by their kinds, and the value of digits.
use Rattle.std.specs.Prelude.{ℕ, ◌+◌, ◌-◌, ◌*◌, ◌==◌, ◌&&◌, ◌||◌, not, nat_lt, Bool, List, [], ◌∷◌}

-- a space, a tab, a line feed or a carriage return
abbrev pub space : ℕ → Bool
space b = b == 32 || b == 9 || b == 10 || b == 13

abbrev pub digit : ℕ → Bool
digit b = nat_lt 47 b && nat_lt b 58

-- an ASCII letter, large or small
abbrev pub letter : ℕ → Bool
letter b = nat_lt 64 b && nat_lt b 91 || nat_lt 96 b && nat_lt b 123

-- a letter, a digit or an underscore
abbrev pub of_word : ℕ → Bool
of_word b = letter b || digit b || b == 95

-- a byte other than a line feed
abbrev pub of_line : ℕ → Bool
of_line b = not (b == 10)

-- a byte that a sign may begin with: no letter, no digit and no `~`
abbrev pub mark : ℕ → Bool
mark b = not (letter b || digit b || b == 126)

-- the value of decimal digits that follow on a value
abbrev pub value_from : ℕ → List ℕ → ℕ
value_from n [] = n
value_from n (b ∷ s) = value_from (n * 10 + (b - 48)) s

abbrev pub value : List ℕ → ℕ
value ds = value_from 0 ds
