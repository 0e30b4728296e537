-- What a term does whose codes stand inside: in continuation-passing style, or closed. Types are not used.
use Rattle.std.specs.Prelude.{ℕ, zero, suc, Bool, true, nat_eq, ◌&&◌}
use Rattle.calc_core.specs.Ends.{if_fits, Spent, Stuck, Result, stops, enters}
use Rattle.calc_core.specs.Types.{Tys, count}
use Rattle.calc_core.specs.Words.{Word, WInt, WTuple, WCode, WCell, Words, NoWords, MoreWords, at, size, onto, project}
use Rattle.calc_core.specs.Words.{operate, one_more, Made, Makes, given, get, set, with_value, at_zero, halt_with}
use Rattle.calc_core.specs.Calculus.{Kind, Body, Open, Shut, Inside, Kinded, Val, Var, Int, Tuple, Code, Apply}
use Rattle.calc_core.specs.Calculus.{Pack, Vals, NoVals, MoreVals}
use Rattle.calc_core.specs.Calculus.{Decl, Name, Proj, Arith, Packs, Unpack, Cell, Get, Set, Tm, Let, Call, If, Halt}
use Rattle.calc_core.specs.Calculus.{v_next, d_next, t_next}

-- what a declaration names, and the store then, where x tells what its operand is, and y what one behind another is
abbrev pub declared : {C : Type 0} {k : Kind} → (Val k → Word C) → (Val k → Val k → Word C) → Decl k → Words C → Made C
declared x y (Name v) st = Makes (x v) st
declared x y (Proj i v) st = given (project i (x v)) st
declared x y (Arith op v w) st = given (operate op (x v) (y v w)) st
declared x y (Packs h v s) st = Makes (x v) st
declared x y (Unpack v) st = Makes (x v) st
declared x y (Cell v) st = Makes (WCell (size st)) (one_more st (x v))
declared x y (Get v) st = get (x v) st
declared x y (Set v w) st = set (x v) (y v w) st

-- a code, with its number
pub data Numbered (c : Body) : Type 0 where
  CodeAt : (number : ℕ) (owes : ℕ) (args : Tys) (body : Tm (Kinded Inside c)) → Numbered c

-- what a code keeps of the values that it is made among
abbrev pub kept : (c : Body) → Words (Numbered c) → Words (Numbered c)
kept Open env = env
kept Shut env = NoWords

-- whether a call gives as many types as the code takes: a closed code may have been applied to types before
abbrev pub types_fit : Body → ℕ → ℕ → Bool
types_fit Open m owes = nat_eq m owes
types_fit Shut m owes = true

-- the value of a tree whose codes are numbered from b on
abbrev mutual
  pub v_value : {c : Body} → ℕ → Val (Kinded Inside c) → Words (Numbered c) → Word (Numbered c)
  v_value b (Var i) env = at env i
  v_value b (Int n) env = WInt n
  v_value b (Tuple vs) env = WTuple (vs_value b vs env)
  v_value b (Code {b = c} owes args body) env = WCode (CodeAt b owes args body) (kept c env)
  v_value b (Apply v ts) env = v_value b v env
  v_value b (Pack h v s) env = v_value b v env

  pub vs_value : {c : Body} → ℕ → Vals (Kinded Inside c) → Words (Numbered c) → Words (Numbered c)
  vs_value b NoVals env = NoWords
  vs_value b (MoreVals v vs) env = MoreWords (v_value b v env) (vs_value (v_next b v) vs env)

abbrev pub d_value : {c : Body} → ℕ → Decl (Kinded Inside c) → Words (Numbered c) → Words (Numbered c) →
    Made (Numbered c)
d_value b d env st = declared (λ v. v_value b v env) (λ v w. v_value (v_next b v) w env) d st

-- what the body of a code does: its number, the body, the values in scope, the store
abbrev pub Enter : Body → Type 0
Enter c = ℕ → Tm (Kinded Inside c) → Words (Numbered c) → Words (Numbered c) → Result

-- a call gives as many types and values as the code takes; the body sees these, the code, and what the code keeps
abbrev pub open_code : (c : Body) → Enter c → ℕ → Word (Numbered c) → Words (Numbered c) → Words (Numbered c) → Result
open_code c enter m (WCode (CodeAt b owes args body) env) vs st =
    if_fits (types_fit c m owes && nat_eq (size vs) (count args))
    (enter b body (onto vs (MoreWords (WCode (CodeAt b owes args body) (kept c env)) (kept c env))) st)
open_code c enter m _ vs st = stops Stuck

-- what a term does from the values in scope and a store; its codes are numbered from b on
abbrev pub t_value : {c : Body} → Enter c → ℕ → Tm (Kinded Inside c) → Words (Numbered c) → Words (Numbered c) → Result
t_value enter b (Let d t) env st = with_value (d_value b d env st)
    (λ v st2. t_value enter (d_next b d) t (MoreWords v env) st2)
t_value {c = c} enter b (Call f ts vs) env st =
    open_code c enter (count ts) (v_value b f env) (vs_value (v_next b f) vs env) st
t_value enter b (If v t u) env st =
    at_zero (v_value b v env) (t_value enter (v_next b v) t env st) (t_value enter (t_next (v_next b v) t) u env st)
t_value enter b (Halt v) env st = halt_with (v_value b v env)

-- within n calls
abbrev pub entered : {c : Body} → ℕ → Enter c
entered zero b body env st = stops Spent
entered (suc n) b body env st = enters b (t_value (entered n) (suc b) body env st)

-- a whole program within n calls
abbrev pub run : {c : Body} → ℕ → Tm (Kinded Inside c) → Result
run n t = t_value (entered n) 0 t NoWords NoWords
