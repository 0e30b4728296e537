-- Laws of the allocated calculus.
use Rattle.std.specs.Prelude.{◌≡◌, ℕ, ◌+◌, ◌≤◌}
use Rattle.a_terms.specs.Tree.{ATy, ATm, AProg, ashift, aput}
use Rattle.a_terms.specs.Typing.{TypedProgram}
use Rattle.a_terms.specs.Meaning.{NeverWrong}

-- a typed program never goes wrong
abbrev pub NeverWrongLaw : Type 0
NeverWrongLaw = (p : AProg) (main : ATm) → TypedProgram p main → NeverWrong p main

-- two puts exchange, the one put into the other
abbrev pub PutsExchange : Type 0
PutsExchange =
    (i j : ℕ) (u v t : ATy) → i ≤ j → aput j v (aput i u t) ≡ aput i (aput j v u) (aput (j + 1) (ashift 1 i v) t)
