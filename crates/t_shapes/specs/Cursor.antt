-- What the reading of a token promises.
use Rattle.std.specs.Prelude.{◌≡◌, ◌<◌, ◌≤◌, ℕ, ◌+◌, ◌⊎◌, List, slice_get, Some, None, Result, MatchResult}
use Rattle.text_core.specs.Going.{next_of}
use Rattle.t_text.specs.declared.token.Token.{Token}
use Rattle.t_text.specs.declared.wanted.Wanted.{Wanted}
use Rattle.t_text.specs.GrammarTable.{table}
use Rattle.t_text.specs.Text.{most_open}
use Rattle.t_shapes.specs.declared.cursor.Stopped.{Stopped}
use Rattle.t_shapes.specs.declared.cursor.Stopped.TheVariants.{Unexpected, TooDeep}

-- c is the token at i, and of this class
abbrev pub Next : List Token → ℕ → Wanted → Token → Type 0
Next ts i w c = next_of table w (slice_get ts i) ≡ Some c

-- no token of this class is at i
abbrev pub Misses : List Token → ℕ → Wanted → Type 0
Misses ts i w = next_of table w (slice_get ts i) ≡ None

-- the reading stops there for want of it
abbrev pub IsMissed : List Token → ℕ → Wanted → Stopped → Type 0
IsMissed ts i w e = (e ≡ Unexpected i) × Misses ts i w

-- the token at i is not of the first class, or the one after it not of the second
abbrev pub TwoMissed : List Token → ℕ → Wanted → Wanted → Stopped → Type 0
TwoMissed ts i v w e =
    IsMissed ts i v e ⊎ ((e ≡ Unexpected (i + 1)) × ((c : Token) × Next ts i v c × Misses ts (i + 1) w))

-- the token at i, which has to be of this class
abbrev pub IsExpected : List Token → ℕ → Wanted → Result Token Stopped → Type 0
IsExpected ts i w r = MatchResult r (λ c. Next ts i w c) (λ e. IsMissed ts i w e)

-- the tokens at i and after it, which have to be of these classes
abbrev pub AreExpected : List Token → ℕ → Wanted → Wanted → Result (Token × Token) Stopped → Type 0
AreExpected ts i v w r =
    MatchResult r (λ t. Next ts i v t.0 × Next ts (i + 1) w t.1) (λ e. TwoMissed ts i v w e)

-- what the token at i holds, which has to be of this class
abbrev pub IsHeld : {A : Type 0} → (Token → A) → List Token → ℕ → Wanted → Result A Stopped → Type 0
IsHeld held ts i w r = MatchResult r (λ x. (c : Token) × Next ts i w c × (x ≡ held c)) (λ e. IsMissed ts i w e)

-- one more open construct than d, unless the limit is reached at the token i
abbrev pub IsOpened : ℕ → ℕ → Result ℕ Stopped → Type 0
IsOpened i d r = MatchResult r (λ n. (n ≡ d + 1) × (d < most_open)) (λ e. (e ≡ TooDeep i) × (most_open ≤ d))
