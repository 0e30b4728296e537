-- What holds of the registers of variables.
use Rattle.std.specs.Prelude.{◌≡◌, ℕ, ◌≤◌, List, Bool, true}
use Rattle.t_gen_rules.specs.Gen.{place}

-- variables that are used and have the same register, from 1 on, are one
abbrev pub Own : List ℕ → (ℕ → Bool) → Type 0
Own m u = (i j : ℕ) → u i ≡ true → u j ≡ true → 1 ≤ place m i → place m i ≡ place m j → i ≡ j
