-- The values of the machines of the calculi with codes, the stores that hold them, and what is done with them.
use Rattle.std.specs.Prelude.{ℤ, pos, ℕ, zero, suc, Option, Some, None}
use Rattle.idx_core.specs.declared.arith.Op.{Op}
use Rattle.idx_core.specs.Arith.{compute, is_zero}
use Rattle.calc_core.specs.Ends.{Halted, Result, Stuck, pick, stops}

-- a value, where codes are of the kind C: an integer, a tuple, a code with the values that it was made among (none
-- where codes are closed), or a cell, by its place in the store
mutual
  pub data Word (C : Type 0) : Type 0 where
    WInt : (n : ℤ) → Word C
    WTuple : (fields : Words C) → Word C
    WCode : (code : C) (env : Words C) → Word C
    WCell : (place : ℕ) → Word C

  pub data Words (C : Type 0) : Type 0 where
    NoWords : Words C
    MoreWords : (w : Word C) (ws : Words C) → Words C

-- the value of variable i, the innermost first
abbrev pub at : {C : Type 0} → Words C → ℕ → Word C
at NoWords i = WInt (pos 0)
at (MoreWords v vs) zero = v
at (MoreWords v vs) (suc i) = at vs i

-- how many values there are
abbrev pub size : {C : Type 0} → Words C → ℕ
size NoWords = 0
size (MoreWords v vs) = suc (size vs)

-- values put onto others, the first one first
abbrev pub onto : {C : Type 0} → Words C → Words C → Words C
onto NoWords env = env
onto (MoreWords v vs) env = onto vs (MoreWords v env)

-- field i, from 1 on
abbrev pub field : {C : Type 0} → ℕ → Words C → Option (Word C)
field i NoWords = None
field zero (MoreWords v vs) = None
field (suc zero) (MoreWords v vs) = Some v
field (suc (suc i)) (MoreWords v vs) = field (suc i) vs

-- a field of a tuple
abbrev pub project : {C : Type 0} → ℕ → Word C → Option (Word C)
project i (WTuple vs) = field i vs
project i _ = None

-- the result of an operation on integers
abbrev pub operate : {C : Type 0} → Op → Word C → Word C → Option (Word C)
operate op (WInt x) (WInt y) = Some (WInt (compute op x y))
operate op _ _ = None

-- a store: the values that the cells hold, by place. It only grows. What the cell at p holds
abbrev pub held : {C : Type 0} → ℕ → Words C → Option (Word C)
held p NoWords = None
held zero (MoreWords v vs) = Some v
held (suc p) (MoreWords v vs) = held p vs

-- the store with w in the cell at p
abbrev pub hold : {C : Type 0} → ℕ → Word C → Words C → Words C
hold p w NoWords = NoWords
hold zero w (MoreWords v vs) = MoreWords w vs
hold (suc p) w (MoreWords v vs) = MoreWords v (hold p w vs)

-- the store with one more cell
abbrev pub one_more : {C : Type 0} → Words C → Word C → Words C
one_more NoWords w = MoreWords w NoWords
one_more (MoreWords v vs) w = MoreWords v (one_more vs w)

-- what a declaration names, and the store then
pub data Made (C : Type 0) : Type 0 where
  Makes : (w : Word C) (st : Words C) → Made C
  Fails : Made C

-- a value, where there is one
abbrev pub given : {C : Type 0} → Option (Word C) → Words C → Made C
given None st = Fails
given (Some v) st = Makes v st

-- what a cell holds
abbrev pub get : {C : Type 0} → Word C → Words C → Made C
get (WCell p) st = given (held p st) st
get _ st = Fails

-- a cell set to a value; the result is the empty tuple
abbrev pub set : {C : Type 0} → Word C → Word C → Words C → Made C
set (WCell p) w st = Makes (WTuple NoWords) (hold p w st)
set _ w st = Fails

-- what follows a declaration
abbrev pub with_value : {C : Type 0} → Made C → (Word C → Words C → Result) → Result
with_value Fails go = stops Stuck
with_value (Makes v st) go = go v st

-- the one result for zero, the other for any other integer
abbrev pub at_zero : {C : Type 0} → Word C → Result → Result → Result
at_zero (WInt n) r s = pick (is_zero n) r s
at_zero _ r s = stops Stuck

-- a program halts with an integer
abbrev pub halt_with : {C : Type 0} → Word C → Result
halt_with (WInt n) = stops (Halted n)
halt_with _ = stops Stuck
