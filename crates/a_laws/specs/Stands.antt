-- Which hoisted term an allocated term stands for: a data tuple is put back as the tuple of constants that it stands
-- for, a malloc, with the initialisations of all fields at once after it and in order, as the tuple that the last of
-- them names, which is not one of constants alone, and types are those of hoisted types with every flag at 1. Each
-- tuple that is made is taken once, and tuples are taken in the order in which they are made: by the next tuple, as a
-- field, or by the next declaration, call, choice or halt. So none is idle, and none stands for two. A cell looks like
-- a tuple of one field, so at a malloc, an initialisation and a projection either may be meant. The type that is
-- written at a field of data is that of its value.
use Rattle.std.specs.Prelude.{◌≡◌, ◌⊎◌, ◌++◌, ℕ, zero, suc, ◌-◌, List, [], ◌∷◌, length, slice_get, Option, Some, None}
use Rattle.c_terms.specs.C.{CTy, CTys}
use Rattle.h_terms.specs.H.{HVal, HVar, HInt, HLabel, HTuple, HApply, HPack, HVals, NoHVals, MoreHVals, HName, HProj}
use Rattle.h_terms.specs.H.{HArith, HUnpack, HCell, HGet, HSet, HTm, HLet, HCall, HIf, HHalt, HBlks}
use Rattle.h_terms.specs.Typing.{HProgramGood}
use Rattle.a_terms.specs.Tree.{ATys, NoATys, MoreATys, AConsts, AVal, Var, Num, Lab, Data, Apply, Pack, Value, Proj}
use Rattle.a_terms.specs.Tree.{Arith, Unpack, Malloc, Init, ATm, Let, Call, If0, Halt, ABlk, AProg, arity}
use Rattle.a_terms.specs.Typing.{type_of}
use Rattle.a_laws.specs.Allocate.{atype, atypes, alloc_prog, alloc_main}
use Rattle.a_laws.specs.Constants.{Constants, constant, of_args, tuples_in}

-- a value of the hoisted program, for each number of its variables
abbrev pub Shown : Type 0
Shown = ℕ → HVal

-- variable l, counted from the outermost
abbrev pub named : ℕ → Shown
named l m = HVar (m - suc l)

abbrev pub listed : List HVal → HVals
listed [] = NoHVals
listed (w ∷ ws) = MoreHVals w (listed ws)

-- what a variable of the allocated term stands for: variable l of the hoisted term; tuple number l, made under k
-- variables, with these fields; or nothing, as a cell that is not yet set, or a tuple that is not yet filled
pub data Thing : Type 0 where
  Is : (l : ℕ) → Thing
  Made : (l k : ℕ) (fs : List HVal) → Thing
  Gone : Thing

abbrev pub thing_at : List Thing → ℕ → Thing
thing_at [] i = Gone
thing_at (x ∷ xs) zero = x
thing_at (x ∷ xs) (suc i) = thing_at xs i

-- under m variables, which name the constants os; a tuple that is made is no constant
abbrev pub Means : Constants → Thing → ℕ → HVal → Type 0
Means os (Is l) m w = w ≡ named l m
Means os (Made l k fs) m w = (k ≡ m) × (w ≡ HTuple (listed fs)) × (constant os w ≡ None)
Means os Gone m w = ⊥

-- the tuples that a value takes, and several values, one after the other
abbrev pub tuple_of : Thing → List Thing
tuple_of (Is l) = []
tuple_of (Made l k fs) = Made l k fs ∷ []
tuple_of Gone = []

abbrev pub takes : List Thing → AVal → List Thing
takes env (Var i) = tuple_of (thing_at env i)
takes env (Apply v ts) = takes env v
takes env (Pack h v s) = takes env v
takes env _ = []

abbrev pub all_take : List Thing → List AVal → List Thing
all_take env [] = []
all_take env (v ∷ vs) = takes env v ++ all_take env vs

-- what is in scope of a part of the allocated term: the values that the program's data stand for; the constants that
-- the variables of the hoisted term name, and how many these are; and what the allocated term's variables stand for
pub record Scope : Type 0 where
  pub tuples : List HVal
  pub constants : Constants
  pub things : List Thing
  pub names : ℕ

abbrev pub scope : List HVal → Constants → List Thing → ℕ → Scope
scope ds os env k = record { tuples = ds; constants = os; things = env; names = k }

-- with one more variable of the hoisted term, which names this constant, if any, and is the new variable
abbrev pub with_name : Option HVal → Scope → Scope
with_name o s = scope s.tuples (o ∷ s.constants) (Is s.names ∷ s.things) (suc s.names)

-- with one more variable of the allocated term alone
abbrev pub with_thing : Thing → Scope → Scope
with_thing x s = scope s.tuples s.constants (x ∷ s.things) s.names

-- the tuple that is made with these fields
abbrev pub made_at : List Thing → ℕ → List HVal → Thing
made_at env k fs = Made (length env) k fs

-- the value v stands for w
abbrev pub Stands_v : Scope → AVal → HVal → Type 0
Stands_v s (Var i) w = Means s.constants (thing_at s.things i) s.names w
Stands_v s (Num n) w = w ≡ HInt n
Stands_v s (Lab l) w = w ≡ HLabel l
Stands_v s (Data n) w =
    (vs : HVals) × (c : HVal) × (w ≡ HTuple vs) × (constant s.constants w ≡ Some c) × (slice_get s.tuples n ≡ Some c)
Stands_v s (Apply v ts) w =
    (x : HVal) × (us : CTys) × (w ≡ HApply x us) × (atypes us ≡ ts) × Stands_v s v x
Stands_v s (Pack h v t) w =
    (a : CTy) × (x : HVal) × (b : CTy) × (w ≡ HPack a x b) × (atype a ≡ h) × (atype b ≡ t) × Stands_v s v x

abbrev pub Stands_vs : Scope → List AVal → HVals → Type 0
Stands_vs s [] ws = ws ≡ NoHVals
Stands_vs s (v ∷ vs) ws =
    (x : HVal) × (xs : HVals) × (ws ≡ MoreHVals x xs) × Stands_v s v x × Stands_vs s vs xs

-- the value of a data field, in which no variable stands, is w
abbrev pub Carries_v : List HVal → AVal → HVal → Type 0
Carries_v ds (Var i) w = ⊥
Carries_v ds (Num n) w = w ≡ HInt n
Carries_v ds (Lab l) w = w ≡ HLabel l
Carries_v ds (Data n) w = slice_get ds n ≡ Some w
Carries_v ds (Apply v ts) w = (x : HVal) × (us : CTys) × (w ≡ HApply x us) × (atypes us ≡ ts) × Carries_v ds v x
Carries_v ds (Pack h v s) w =
    (a : CTy) × (x : HVal) × (b : CTy) × (w ≡ HPack a x b) × (atype a ≡ h) × (atype b ≡ s) × Carries_v ds v x

abbrev pub Carries_fields : List HVal → AConsts → HVals → Type 0
Carries_fields ds [] ws = ws ≡ NoHVals
Carries_fields ds (c ∷ cs) ws =
    (x : HVal) × (xs : HVals) × (ws ≡ MoreHVals x xs) × Carries_v ds c.value x × Carries_fields ds cs xs

-- data tuples, one after the other, are these values
abbrev pub Carries : List HVal → List AConsts → List HVal → Type 0
Carries ds [] ws = ws ≡ []
Carries ds (x ∷ xs) ws =
    (vs : HVals) × (us : List HVal) × (ws ≡ HTuple vs ∷ us) × Carries_fields ds x vs × Carries ds xs us

-- the type that is written at each field of data is that of its value, in which no variable stands: so each flag in it
-- is set
abbrev pub HasKinds : AProg → AConsts → Type 0
HasKinds p [] = Unit {0}
HasKinds p (c ∷ cs) = (type_of p [] c.value ≡ Some c.kind) × HasKinds p cs

abbrev pub AllHaveKinds : AProg → List AConsts → Type 0
AllHaveKinds p [] = Unit {0}
AllHaveKinds p (x ∷ xs) = HasKinds p x × AllHaveKinds p xs

-- what is to come: anything; a tuple's fields, where these are filled, n + 1 are not, and those took these tuples; the
-- content of a new cell; or the empty tuple that names an assignment
pub data Mode : Type 0 where
  Any : Mode
  Filling : (fs : List HVal) (n : ℕ) (taken : List Thing) → Mode
  Content : Mode
  Unit_named : Mode

-- where these tuples are made and not taken, and this is to come, the term a stands for h
abbrev pub Stands_t : Scope → List Thing → ATm → Mode → HTm → Type 0
Stands_t s made (Let (Value v) e) Any h =
    (w : HVal) × (t : HTm) × (h ≡ HLet (HName w) t) × Stands_v s v w × (takes s.things v ≡ made)
    × Stands_t (with_name (constant s.constants w) s) [] e Any t
Stands_t s made (Let (Proj i v) e) Any h =
    (w : HVal) × (t : HTm) × ((h ≡ HLet (HProj i w) t) ⊎ ((i ≡ 1) × (h ≡ HLet (HGet w) t)))
    × Stands_v s v w × (takes s.things v ≡ made) × Stands_t (with_name None s) [] e Any t
Stands_t s made (Let (Arith op v w) e) Any h =
    (x : HVal) × (y : HVal) × (t : HTm) × (h ≡ HLet (HArith op x y) t) × Stands_v s v x × Stands_v s w y
    × (takes s.things v ++ takes s.things w ≡ made) × Stands_t (with_name None s) [] e Any t
Stands_t s made (Let (Unpack v) e) Any h =
    (w : HVal) × (t : HTm) × (h ≡ HLet (HUnpack w) t) × Stands_v s v w × (takes s.things v ≡ made)
    × Stands_t (with_name None s) [] e Any t
Stands_t s made (Let (Malloc ts) e) Any h =
    ((n : ℕ) × (arity ts ≡ suc n) × Stands_t (with_thing Gone s) made e (Filling [] n []) h)
    ⊎ ((arity ts ≡ 1) × Stands_t (with_thing Gone s) made e Content h)
Stands_t s made (Let (Init v i w) e) Any h =
    (x : HVal) × (y : HVal) × (t : HTm) × (i ≡ 1) × (h ≡ HLet (HSet x y) t) × Stands_v s v x × Stands_v s w y
    × (takes s.things v ++ takes s.things w ≡ made)
    × Stands_t (scope s.tuples (None ∷ s.constants) (Gone ∷ s.things) s.names) [] e Unit_named t
Stands_t s made (Call v ts vs) Any h =
    (x : HVal) × (us : CTys) × (xs : HVals) × (h ≡ HCall x us xs) × (atypes us ≡ ts) × Stands_v s v x
    × Stands_vs s vs xs × (takes s.things v ++ all_take s.things vs ≡ made)
Stands_t s made (If0 v a b) Any h =
    (x : HVal) × (t : HTm) × (u : HTm) × (h ≡ HIf x t u) × Stands_v s v x × (takes s.things v ≡ made)
    × Stands_t s [] a Any t × Stands_t s [] b Any u
Stands_t s made (Halt v) Any h =
    (x : HVal) × (h ≡ HHalt x) × Stands_v s v x × (takes s.things v ≡ made)
-- the last field; the tuples that the fields took are the last that were made, and the new one comes in their place
Stands_t s made (Let (Init v i w) e) (Filling fs zero taken) h =
    (y : HVal) × (left : List Thing) × (v ≡ Var 0) × (i ≡ suc (length fs)) × Stands_v s w y
    × (made ≡ left ++ (taken ++ takes s.things w))
    × Stands_t (with_thing (made_at s.things s.names (fs ++ y ∷ [])) s) (left ++ made_at s.things s.names (fs ++ y ∷ [])
    ∷ [])
    e Any h
Stands_t s made (Let (Init v i w) e) (Filling fs (suc n) taken) h =
    (y : HVal) × (v ≡ Var 0) × (i ≡ suc (length fs)) × Stands_v s w y
    × Stands_t (with_thing Gone s) made e (Filling (fs ++ y ∷ []) n (taken ++ takes s.things w)) h
Stands_t s made (Let (Init v i w) e) Content h =
    (x : HVal) × (t : HTm) × (v ≡ Var 0) × (i ≡ 1) × (h ≡ HLet (HCell x) t) × Stands_v s w x
    × (takes s.things w ≡ made) × Stands_t (with_name None s) [] e Any t
Stands_t s made (Let (Malloc ts) e) Unit_named h =
    (ts ≡ NoATys)
    × Stands_t (scope s.tuples s.constants (Is s.names ∷ s.things) (suc s.names)) made e Any h
Stands_t s made _ _ h = ⊥

-- the arguments of a block are its first variables
abbrev pub arg_things : ℕ → List Thing → ATys → List Thing
arg_things k env NoATys = env
arg_things k env (MoreATys t ts) = arg_things (suc k) (Is k ∷ env) ts

abbrev pub Stands_all : List HVal → List ABlk → HBlks → Type 0
Stands_all ds [] [] = Unit {0}
Stands_all ds [] (x ∷ xs) = ⊥
Stands_all ds (b ∷ bs) [] = ⊥
Stands_all ds (b ∷ bs) (x ∷ xs) =
    ((b.owes ≡ x.owes) × (atypes x.args ≡ b.args)
    × Stands_t (scope ds (of_args x.args []) (arg_things 0 [] b.args) (arity b.args)) [] b.body Any x.body)
    × Stands_all ds bs xs

-- a program stands for a hoisted program, block by block; its data tuples, one after the other, are the tuples of
-- constants of that, and have their types
abbrev pub Stands : AProg → ATm → HBlks → HTm → Type 0
Stands p main ks t =
    Carries (tuples_in ks t) p.tuples (tuples_in ks t) × AllHaveKinds p p.tuples
    × Stands_all (tuples_in ks t) p.blocks ks × Stands_t (scope (tuples_in ks t) [] [] 0) [] main Any t

-- the allocation of a typed program stands for it
abbrev pub AllocStands : Type 0
AllocStands = (ks : HBlks) (t : HTm) → HProgramGood ks t → Stands (alloc_prog ks t) (alloc_main ks t) ks t
