-- Laws of types.
use Rattle.std.specs.Prelude.{◌≡◌, ◌↔◌, ◌+◌, ◌≤◌, ℕ}
use Rattle.calc_core.specs.Ends.{lift}
use Rattle.calc_core.specs.Types.{Ty, VarTy}
use Rattle.calc_core.specs.Substitution.{renamed, with_type, substituted}
use Rattle.calc_core.specs.Scope.{InScope}
use Rattle.calc_core.specs.Walks.{shift, put, Below}

-- two puts exchange, the one put into the other
abbrev pub PutsExchange : Type 0
PutsExchange = (i j : ℕ) (u v t : Ty) → i ≤ j → put j v (put i u t) ≡ put i (put j v u) (put (j + 1) (shift 1 i v) t)

-- the words of typing in those of shift, put and below
abbrev pub LiftIsShift : Type 0
LiftIsShift = (n : ℕ) (t : Ty) → renamed (lift n) t ≡ shift n 0 t

abbrev pub FirstIsPut : Type 0
FirstIsPut = (s t : Ty) → substituted (with_type s VarTy) t ≡ put 0 s t

abbrev pub InIsBelow : Type 0
InIsBelow = (n : ℕ) (t : Ty) → InScope n t ↔ Below n t
