-- Paths into types, and where two types first differ. Which difference is the first is our own choice: the one that is
-- written furthest to the left.
use Rattle.std.specs.Prelude.{◌≡◌, ◌≢◌, ◌⊎◌, ℕ, ◌+◌, ◌*◌, ◌<◌, Bool, List, [], ◌∷◌, Option, Some, None, option_map, Vec}
use Rattle.std.specs.Global.{Global}
use Rattle.type_path.specs.declared.step.Step.{Step}
use Rattle.type_path.specs.declared.step.Step.TheVariants.{Argument, Result, Body, Cell, Field, Flag, Register}

-- ---- paths

-- the steps from a whole to a part of it
abbrev pub Path : Type 0
Path = List Step

-- where a step stands among the steps into one type, from left to right: the flag of a field stands behind its type
abbrev pub place : Step → ℕ
place Argument = 0
place Result = 1
place Body = 2
place Cell = 3
place (Field i) = 3 * i + 4
place (Flag i) = 3 * i + 5
place (Register r) = 3 * r + 6

-- A path leads to what begins before that to which another one leads: to a whole of which that is a part; or, where
-- they part, to what stands further left.
abbrev pub Before : Path → Path → Type 0
Before q [] = ⊥
Before [] (s ∷ p) = Unit {0}
Before (r ∷ q) (s ∷ p) = (place r < place s) ⊎ ((r ≡ s) × Before q p)

-- what is behind a step that may lead nowhere
abbrev pub and_then : {A : Type 0} → Option A → (A → Option A) → Option A
and_then None go = None
and_then (Some a) go = go a

-- the part of a whole at a path, where it has one, by what it has behind each step
abbrev pub follow : {A : Type 0} → (Step → A → Option A) → Path → A → Option A
follow into [] a = Some a
follow into (s ∷ p) a = and_then (into s a) (follow into p)

-- ---- heads

-- what a type is, apart from its parts; and a flag of a field
pub data Head : Type 0 where
  Integer : Head
  Variable : (i : ℕ) → Head
  Function : Head
  Polymorphic : Head
  Tuple : Head
  Package : Head
  Reference : Head
  Code : (owes : ℕ) → Head
  Initialised : (flag : Bool) → Head

-- Two wholes, each by the heads of its parts, first differ at this path: there they have other heads, or one of them
-- has no part there; and at each path before it both have the same head, or neither has a part.
pub record IsFirst (a b : Path → Option Head) (p : Path) : Type 0 where
  pub here : a p ≢ b p
  pub before : (q : Path) → Before q p → a q ≡ b q

-- ---- the search for a first difference

-- the first of two, where there is one, else the second
abbrev pub or_else : Option Path → Option Path → Option Path
or_else (Some p) other = Some p
or_else None other = other

-- one from a part on, from the whole
abbrev pub inside : Step → Option Path → Option Path
inside s None = None
inside s (Some p) = Some (s ∷ p)

-- a path as the code holds it, the last step first
abbrev pub onto : List Step → Path → Path
onto [] p = p
onto (s ∷ steps) p = onto steps (s ∷ p)

abbrev pub path_of : List Step → Path
path_of steps = onto steps []

abbrev pub read : Option (Vec Step Global) → Option Path
read found = option_map (λ steps. path_of steps.items) found
