-- How many type variables are in scope, where they may be more than any index.
use Rattle.std.specs.Prelude.{◌≡◌, ℕ, ◌≤◌, ◌^◌, ◌↔◌, Bool, IsTrue, Option, Some, None}

-- n variables are in scope: as many as the bound has, or more than any index where it has no number
abbrev pub IsBound : Option ℕ → ℕ → Type 0
IsBound (Some k) n = n ≡ k
IsBound None n = 2 ^ 64 ≤ n

-- the answer tells whether P is so of a number of variables that the bound stands for
abbrev pub Tells : Option ℕ → (ℕ → Type 0) → Bool → Type 0
Tells bound P answer = (n : ℕ) → IsBound bound n → (IsTrue answer ↔ P n)
