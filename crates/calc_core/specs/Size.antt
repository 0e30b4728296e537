-- How many nodes a term has, types aside.
use Rattle.std.specs.Prelude.{ℕ, suc, ◌+◌}
use Rattle.calc_core.specs.Types.{count}
use Rattle.calc_core.specs.Calculus.{Body, Open, Shut, Kind, Val, Var, Int, Tuple, Code, Label, Apply, Pack}
use Rattle.calc_core.specs.Calculus.{Vals, NoVals, MoreVals, Decl, Name, Proj, Arith, Packs, Unpack, Cell, Get, Set}
use Rattle.calc_core.specs.Calculus.{Tm, Let, Call, If, Halt}

-- what a code has inside counts where it sees what is around it; a closed code counts as one
abbrev pub inside : Body → ℕ → ℕ
inside Open n = n
inside Shut n = 0

abbrev mutual
  pub size_v : {k : Kind} → Val k → ℕ
  size_v (Var i) = 1
  size_v (Int n) = 1
  size_v (Tuple vs) = 1 + size_vs vs
  size_v (Code {b = b} owes args body) = suc (inside b (count args + size_t body))
  size_v (Label l) = 1
  size_v (Apply v ts) = 1 + size_v v
  size_v (Pack h v s) = 1 + size_v v

  pub size_vs : {k : Kind} → Vals k → ℕ
  size_vs NoVals = 0
  size_vs (MoreVals v vs) = size_v v + size_vs vs

  pub size_d : {k : Kind} → Decl k → ℕ
  size_d (Name v) = 1 + size_v v
  size_d (Proj i v) = 1 + size_v v
  size_d (Arith op v w) = 1 + size_v v + size_v w
  size_d (Packs h v s) = 1 + size_v v
  size_d (Unpack v) = 1 + size_v v
  size_d (Cell v) = 1 + size_v v
  size_d (Get v) = 1 + size_v v
  size_d (Set v w) = 1 + size_v v + size_v w

  pub size_t : {k : Kind} → Tm k → ℕ
  size_t (Let d t) = size_d d + size_t t
  size_t (Call f ts vs) = 1 + size_v f + size_vs vs
  size_t (If v t u) = 1 + size_v v + size_t t + size_t u
  size_t (Halt v) = 1 + size_v v
