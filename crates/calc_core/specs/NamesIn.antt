-- Terms whose names are in scope, under d names.
use Rattle.std.specs.Prelude.{◌<◌, ℕ, suc}
use Rattle.calc_core.specs.Ends.{lift}
use Rattle.calc_core.specs.Types.{count}
use Rattle.calc_core.specs.Calculus.{Body, Open, Shut, Kind, Val, Var, Int, Tuple, Code, Label, Apply, Pack}
use Rattle.calc_core.specs.Calculus.{Vals, NoVals, MoreVals, Decl, Name, Proj, Arith, Packs, Unpack, Cell, Get, Set}
use Rattle.calc_core.specs.Calculus.{Tm, Let, Call, If, Halt}

-- how many names the body of a code with m arguments sees
abbrev pub names_seen : Body → ℕ → ℕ → ℕ
names_seen Open m d = lift m (suc d)
names_seen Shut m d = lift m 1

abbrev mutual
  pub NamesIn_v : {k : Kind} → ℕ → Val k → Type 0
  NamesIn_v d (Var i) = i < d
  NamesIn_v d (Int m) = Unit {0}
  NamesIn_v d (Tuple vs) = NamesIn_vs d vs
  NamesIn_v d (Code {b = b} owes args body) = NamesIn (names_seen b (count args) d) body
  NamesIn_v d (Label l) = Unit {0}
  NamesIn_v d (Apply v ts) = NamesIn_v d v
  NamesIn_v d (Pack h v s) = NamesIn_v d v

  pub NamesIn_vs : {k : Kind} → ℕ → Vals k → Type 0
  NamesIn_vs d NoVals = Unit {0}
  NamesIn_vs d (MoreVals v vs) = NamesIn_v d v × NamesIn_vs d vs

  pub NamesIn_d : {k : Kind} → ℕ → Decl k → Type 0
  NamesIn_d d (Name v) = NamesIn_v d v
  NamesIn_d d (Proj i v) = NamesIn_v d v
  NamesIn_d d (Arith op v w) = NamesIn_v d v × NamesIn_v d w
  NamesIn_d d (Packs h v s) = NamesIn_v d v
  NamesIn_d d (Unpack v) = NamesIn_v d v
  NamesIn_d d (Cell v) = NamesIn_v d v
  NamesIn_d d (Get v) = NamesIn_v d v
  NamesIn_d d (Set v w) = NamesIn_v d v × NamesIn_v d w

  pub NamesIn : {k : Kind} → ℕ → Tm k → Type 0
  NamesIn d (Let x t) = NamesIn_d d x × NamesIn (suc d) t
  NamesIn d (Call f ts vs) = NamesIn_v d f × NamesIn_vs d vs
  NamesIn d (If v t u) = NamesIn_v d v × NamesIn d t × NamesIn d u
  NamesIn d (Halt v) = NamesIn_v d v
