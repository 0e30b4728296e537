-- The registers of the variables that a term uses.
use Rattle.std.specs.Prelude.{ℕ, ◌==◌, ◌&&◌, ◌||◌, List, [], ◌∷◌, Bool, true, false, Option, Some, None}
use Rattle.a_terms.specs.Tree as a
use Rattle.t_gen_rules.specs.Gen.{place, busy, uses}
use Rattle.t_gen_laws.specs.Registers.{Own}
use Rattle.t_gen.specs.Registers.{Holds}
use Rattle.t_gen.specs.declared.registers.Registers.{Registers}

-- the registers in use are those of the variables that u tells, and each of these has its own
pub record Keeps (s : Registers) (m : List ℕ) (u : ℕ → Bool) : Type 0 where
  pub holds : Holds s (λ r. busy r m u)
  pub own : Own m u

-- whether r is the register of one of these variables of which p is true
abbrev pub among : (ℕ → Bool) → List ℕ → List ℕ → ℕ → Bool
among p m [] r = false
among p m (x ∷ xs) r = (p x && place m x == r) || among p m xs r

abbrev pub each : ℕ → Bool
each n = true

-- whether n is the variable, if there is one
abbrev pub is_one : Option ℕ → ℕ → Bool
is_one None n = false
is_one (Some i) n = i == n

-- whether a declaration stores variable n in a tuple
abbrev pub stores : a.ADecl → ℕ → Bool
stores (a.Init v i w) n = uses w n
stores _ n = false
