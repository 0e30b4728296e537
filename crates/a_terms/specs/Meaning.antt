-- What an allocated program does within a number of calls. Types are not used.
use Rattle.std.specs.Prelude.{◌≡◌, ℕ, zero, suc, ℤ, ◌==◌, ◌++◌, List, [], ◌∷◌, length, Option, Some, None, Bool, true}
use Rattle.std.specs.Prelude.{false, map, slice_get, slice_set}
use Rattle.idx_core.specs.Arith.{compute, is_zero}
use Rattle.a_terms.specs.Tree.{ATys, NoATys, MoreATys, AVal, Var, Num, Lab, Data, Apply, Pack, ADecl, Value, Proj}
use Rattle.a_terms.specs.Tree.{Arith, Unpack, Malloc, Init, ATm, Let, Call, If0, Halt, ABlk, AConsts, AProg, arity}

pub data AWord : Type 0 where
  ZInt : (i : ℤ) → AWord
  ZTuple : (a : ℕ) → AWord
  ZLabel : (l : ℕ) → AWord

-- tuples of fields, which are filled or not
abbrev pub AHeap : Type 0
AHeap = List (List (Option AWord))

-- how a run ends, with the blocks entered, the last one first
pub data Result : Type 0 where
  Halted : (i : ℤ) (log : List ℕ) → Result
  Spent : (log : List ℕ) → Result
  Wrong : (log : List ℕ) → Result

abbrev pub value : List AWord → AVal → Option AWord
value env (Var n) = slice_get env n
value env (Num i) = Some (ZInt i)
value env (Lab l) = Some (ZLabel l)
value env (Data n) = Some (ZTuple n)
value env (Apply v ts) = value env v
value env (Pack t v s) = value env v

abbrev pub with_more : AWord → Option (List AWord) → Option (List AWord)
with_more w None = None
with_more w (Some ws) = Some (w ∷ ws)

abbrev pub with_first : Option AWord → Option (List AWord) → Option (List AWord)
with_first None o = None
with_first (Some w) o = with_more w o

abbrev pub values : List AWord → List AVal → Option (List AWord)
values env [] = Some []
values env (v ∷ vs) = with_first (value env v) (values env vs)

-- a declared value, and the heap after it
pub data Made : Type 0 where
  Gives : (w : AWord) (h : AHeap) → Made
  Fails : Made

abbrev pub number : Option AWord → (ℤ → Made) → Made
number (Some (ZInt i)) go = go i
number _ go = Fails

abbrev pub address : Option AWord → (ℕ → Made) → Made
address (Some (ZTuple a)) go = go a
address _ go = Fails

abbrev pub given : {A : Type 0} → Option A → (A → Made) → Made
given None go = Fails
given (Some w) go = go w

abbrev pub at_field : ℕ → (ℕ → Made) → Made
at_field zero go = Fails
at_field (suc i) go = go i

abbrev pub empties : ATys → List (Option AWord)
empties NoATys = []
empties (MoreATys t ts) = None ∷ empties ts

abbrev pub decl : ADecl → List AWord → AHeap → Made
decl (Value v) env h = given (value env v) (λ w. Gives w h)
decl (Proj i v) env h =
    address (value env v)
    (λ a. at_field i (λ j. given (slice_get h a) (λ t. given (slice_get t j) (λ f. given f (λ w. Gives w h)))))
decl (Arith o v w) env h = number (value env v) (λ a. number (value env w) (λ b. Gives (ZInt (compute o a b)) h))
decl (Unpack v) env h = given (value env v) (λ w. Gives w h)
decl (Malloc ts) env h = Gives (ZTuple (length h)) (h ++ empties ts ∷ [])
decl (Init v i w) env h =
    address (value env v)
    (λ a. at_field i (λ j. given (value env w)
    (λ x. given (slice_get h a)
    (λ t. given (slice_get t j) (λ f. Gives (ZTuple a) (slice_set h a (slice_set t j (Some x))))))))

-- what a call does: the block, the arguments, the heap, the blocks entered so far
abbrev pub Next : Type 0
Next = ℕ → List AWord → AHeap → List ℕ → Result

abbrev pub made : Made → List ℕ → (AWord → AHeap → Result) → Result
made Fails log go = Wrong log
made (Gives w h) log go = go w h

abbrev pub halt_with : Option AWord → List ℕ → Result
halt_with None log = Wrong log
halt_with (Some (ZInt i)) log = Halted i log
halt_with (Some (ZTuple a)) log = Wrong log
halt_with (Some (ZLabel l)) log = Wrong log

abbrev pub pick : {A : Type 0} → Bool → A → A → A
pick true a b = a
pick false a b = b

abbrev pub branch : Option AWord → List ℕ → Result → Result → Result
branch None log a b = Wrong log
branch (Some (ZInt i)) log a b = pick (is_zero i) a b
branch (Some (ZTuple p)) log a b = Wrong log
branch (Some (ZLabel l)) log a b = Wrong log

abbrev pub call_with : Option (List AWord) → List ℕ → (List AWord → Result) → Result
call_with None log go = Wrong log
call_with (Some ws) log go = go ws

abbrev pub call_of : Option AWord → List ℕ → (ℕ → Result) → Result
call_of None log go = Wrong log
call_of (Some (ZInt i)) log go = Wrong log
call_of (Some (ZTuple a)) log go = Wrong log
call_of (Some (ZLabel l)) log go = go l

abbrev pub term : Next → ATm → List AWord → AHeap → List ℕ → Result
term next (Let d e) env h log = made (decl d env h) log (λ w h2. term next e (w ∷ env) h2 log)
term next (Call v ts vs) env h log =
    call_of (value env v) log (λ l. call_with (values env vs) log (λ ws. next l ws h log))
term next (If0 v a b) env h log = branch (value env v) log (term next a env h log) (term next b env h log)
term next (Halt v) env h log = halt_with (value env v) log

-- the arguments become the environment, the last one first
abbrev pub push_all : List AWord → List AWord → List AWord
push_all [] env = env
push_all (w ∷ ws) env = push_all ws (w ∷ env)

abbrev pub enter : Option ABlk → ℕ → List ℕ → (ABlk → Result) → Result
enter None n log go = Wrong log
enter (Some b) n log go = pick (arity b.args == n) (go b) (Wrong log)

-- a call, where c calls are left
abbrev pub calls : List ABlk → ℕ → Next
calls bs zero l ws h log = enter (slice_get bs l) (length ws) log (λ b. Spent log)
calls bs (suc c) l ws h log =
    enter (slice_get bs l) (length ws) log (λ b. term (calls bs c) b.body (push_all ws []) h (l ∷ log))

-- a data tuple in the heap, all of its fields filled
abbrev pub datum : AConsts → List (Option AWord)
datum cs = map (λ c. value [] c.value) cs

-- the data are the heap's first tuples
abbrev pub start_heap : List AConsts → AHeap
start_heap xs = map datum xs

-- the program within c calls
abbrev pub meaning : AProg → ATm → ℕ → Result
meaning p main c = term (calls p.blocks c) main [] (start_heap p.tuples) []

abbrev pub NeverWrong : AProg → ATm → Type 0
NeverWrong p main = (c : ℕ) (log : List ℕ) → meaning p main c ≡ Wrong log → ⊥
