-- Code generation. Block 0 holds the main term; each block has its own, and each `if0` one more for its third part. A
-- call leaves argument j in register j. Each data tuple has its own too. Values stand in place, in instructions and in
-- jumps, and what is not in its register is moved there once. A variable has one register, from its declaration on: the
-- one in which the call at the end wants it, where that is free. A tuple that gets a field stays where it is.
use Rattle.std.specs.Prelude.{ℕ, zero, suc, ◌+◌, ◌-◌, ◌++◌, ◌==◌, nat_lt, List, [], ◌∷◌, length, map, Bool, true, false}
use Rattle.std.specs.Prelude.{cond, not, ◌&&◌, ◌||◌}
use Rattle.t_types.specs.Tree.{Ty, IntTy, VarTy, CodeTy, ExistsTy, TupleTy, TFile, NoRegs, MoreRegs, TFields, NoFields}
use Rattle.t_types.specs.Tree.{MoreFields}
use Rattle.t_terms.specs.Tree as T
use Rattle.t_terms.specs.Tree.{TValue, TSeq, Then, Ends, TBlock, TDatum, TData, TProg}
use Rattle.a_terms.specs.Tree.{ATy, AInt, AVar, ATuple, ACode, AExists, ATys, NoATys, MoreATys, AFields, NoAFields}
use Rattle.a_terms.specs.Tree.{MoreAFields, AVal, Var, Num, Lab, Data, Apply, Pack, ADecl, Value, Proj, Arith, Unpack}
use Rattle.a_terms.specs.Tree.{Malloc, Init, ATm, Let, Call, If0, Halt, ABlk, AConst, AConsts, AProg, arity}
use Rattle.a_terms.specs.Typing.{declared, more_vars, types_of}
use Rattle.a_terms.specs.Bound.{thirds}

-- types: code takes its arguments in the registers from 1 on
abbrev mutual
  pub ty : ATy → Ty
  ty AInt = IntTy
  ty (AVar i) = VarTy i
  ty (ATuple fs) = TupleTy (ty_fields fs)
  ty (ACode n ts) = CodeTy n (ty_args ts 1)
  ty (AExists t) = ExistsTy (ty t)

  -- the arguments from register r on
  pub ty_args : ATys → ℕ → TFile
  ty_args NoATys r = NoRegs
  ty_args (MoreATys t ts) r = MoreRegs r (ty t) (ty_args ts (suc r))

  pub ty_fields : AFields → TFields
  ty_fields NoAFields = NoFields
  ty_fields (MoreAFields t f fs) = MoreFields (ty t) f (ty_fields fs)

-- a list of types
abbrev pub tys : ATys → List Ty
tys NoATys = []
tys (MoreATys t ts) = ty t ∷ tys ts

-- register r
abbrev pub reg : ℕ → TValue
reg r = T.Plain (T.Reg r) []

-- whether variable n stands in a value
abbrev pub uses : AVal → ℕ → Bool
uses (Var i) n = i == n
uses (Apply v ts) n = uses v n
uses (Pack h v s) n = uses v n
uses _ n = false

abbrev pub uses_any : List AVal → ℕ → Bool
uses_any [] n = false
uses_any (v ∷ vs) n = uses v n || uses_any vs n

abbrev pub uses_decl : ADecl → ℕ → Bool
uses_decl (Value v) n = uses v n
uses_decl (Proj i v) n = uses v n
uses_decl (Arith o v w) n = uses v n || uses w n
uses_decl (Unpack v) n = uses v n
uses_decl (Malloc ts) n = false
uses_decl (Init v i w) n = uses v n || uses w n

-- whether it is free in a term
abbrev pub used : ATm → ℕ → Bool
used (Let x e) n = uses_decl x n || used e (suc n)
used (Call v ts vs) n = uses v n || uses_any vs n
used (If0 v a b) n = uses v n || (used a n || used b n)
used (Halt v) n = uses v n

-- a value at once with types
abbrev pub applied_to : TValue → List Ty → TValue
applied_to (T.Plain b us) ts = T.Plain b (us ++ ts)
applied_to (T.Pack h v s) ts = T.Pack h v s

-- the register of variable n, where those of the variables in scope are m, the last one first
abbrev pub place : List ℕ → ℕ → ℕ
place [] n = 0
place (r ∷ m) zero = r
place (r ∷ m) (suc n) = place m n

-- what a package holds in place of a value: a package is in register t instead
abbrev pub inside : ℕ → TValue → TValue
inside t (T.Plain b us) = T.Plain b us
inside t (T.Pack h v s) = reg t

-- a value in place, where a package inside a package is in register t
abbrev pub small : ℕ → List ℕ → AVal → TValue
small t m (Var n) = reg (place m n)
small t m (Num i) = T.Plain (T.Int i) []
small t m (Lab l) = T.Plain (T.Label (suc l)) []
small t m (Data n) = T.Plain (T.Data n) []
small t m (Apply v ts) = applied_to (small t m v) (tys ts)
small t m (Pack h v s) = T.Pack (ty h) (inside t (small t m v)) (ty s)

-- a package put into register t, and any other value not; then the rest
abbrev pub boxed : ℕ → TValue → TSeq → TSeq
boxed t (T.Plain b us) rest = rest
boxed t (T.Pack h v s) rest = Then (T.Mov t (T.Pack h v s)) rest

-- the packages inside the packages of a value put into register t, one after the other; then the rest
abbrev pub unnest : ℕ → List ℕ → AVal → TSeq → TSeq
unnest t m (Var n) rest = rest
unnest t m (Num i) rest = rest
unnest t m (Lab l) rest = rest
unnest t m (Data n) rest = rest
unnest t m (Apply v ts) rest = unnest t m v rest
unnest t m (Pack h v s) rest = unnest t m v (boxed t (small t m v) rest)

-- whether the value is what register r holds
abbrev pub stands : ℕ → TValue → Bool
stands r (T.Plain (T.Reg q) []) = r == q
stands r _ = false

-- a value put into register r, unless it stands there; then the rest
abbrev pub move : ℕ → TValue → TSeq → TSeq
move r v rest = cond (stands r v) rest (Then (T.Mov r v) rest)

-- the register that the value is, or else t
abbrev pub home : ℕ → TValue → ℕ
home t (T.Plain (T.Reg r) []) = r
home t (T.Plain (T.Reg r) (u ∷ us)) = t
home t (T.Plain (T.Int i) us) = t
home t (T.Plain (T.Label l) us) = t
home t (T.Plain (T.Data n) us) = t
home t (T.Pack h v s) = t

-- a value that is no register put into register t; then the rest
abbrev pub settle : ℕ → TValue → TSeq → TSeq
settle t (T.Plain (T.Reg r) []) rest = rest
settle t (T.Plain (T.Reg r) (u ∷ us)) rest = Then (T.Mov t (T.Plain (T.Reg r) (u ∷ us))) rest
settle t (T.Plain (T.Int i) us) rest = Then (T.Mov t (T.Plain (T.Int i) us)) rest
settle t (T.Plain (T.Label l) us) rest = Then (T.Mov t (T.Plain (T.Label l) us)) rest
settle t (T.Plain (T.Data n) us) rest = Then (T.Mov t (T.Plain (T.Data n) us)) rest
settle t (T.Pack h v s) rest = Then (T.Mov t (T.Pack h v s)) rest

-- the greatest register of a variable that is used, or b where none is greater
abbrev pub top : ℕ → List ℕ → (ℕ → Bool) → ℕ
top b [] u = b
top b (r ∷ m) u = top (cond (u 0 && nat_lt b r) r b) m (λ n. u (suc n))

-- the first register above them
abbrev pub over : List ℕ → (ℕ → Bool) → ℕ
over m u = suc (top 0 m u)

-- whether register r holds a variable that is used
abbrev pub busy : ℕ → List ℕ → (ℕ → Bool) → Bool
busy r [] u = false
busy r (q ∷ m) u = (u 0 && q == r) || busy r m (λ n. u (suc n))

-- the first of n registers from r on that holds none, or else the one after them
abbrev pub first_free : ℕ → ℕ → List ℕ → (ℕ → Bool) → ℕ
first_free zero r m u = r
first_free (suc n) r m u = cond (busy r m u) (first_free n (suc r) m u) r

-- whether the value is variable n
abbrev pub names : AVal → ℕ → Bool
names (Var i) n = i == n
names _ n = false

-- the register of the first of these arguments that is variable n, where the first one's is j, or 0 where none is
abbrev pub argument : ℕ → List AVal → ℕ → ℕ
argument j [] n = 0
argument j (v ∷ vs) n = cond (names v n) j (argument (suc j) vs n)

-- the register in which the end of a term wants variable n, or 0 where it wants it in none; the end of an `if0` is that
-- of its second part, whose code goes on in the same block
abbrev pub wanted : ATm → ℕ → ℕ
wanted (Let x e) n = wanted e (suc n)
wanted (Call v ts vs) n = argument 1 vs n
wanted (If0 v a b) n = wanted a n
wanted (Halt v) n = cond (names v n) 1 0

-- how many arguments the end of a term has
abbrev pub arguments : ATm → ℕ
arguments (Let x e) = arguments e
arguments (Call v ts vs) = length vs
arguments (If0 v a b) = arguments a
arguments (Halt v) = 0

-- register h, if it is one and holds none, or else the least register from s on that holds none
abbrev pub picked : ℕ → ℕ → List ℕ → (ℕ → Bool) → ℕ
picked h s m u = cond (nat_lt 0 h && not (busy h m u)) h (first_free (top 0 m u) s m u)

-- the register of a new variable, the last one of the rest e, where u tells which other ones are still used: the one in
-- which the end of e wants it, if it is free, or else the first free one above the arguments of that end
abbrev pub free : List ℕ → (ℕ → Bool) → ATm → ℕ
free m u e = picked (wanted e 0) (suc (arguments e)) m u

-- the register in which a declaration that names a value, or a tuple with one field more, leaves it: a variable's own,
-- unless the rest uses both names, and else a free one, where u tells which variables are still used
abbrev pub owner : List ℕ → AVal → (ℕ → Bool) → ATm → ℕ
owner m (Var n) u e = cond (used e (suc n) && used e 0) (free m u e) (place m n)
owner m (Num i) u e = free m u e
owner m (Lab l) u e = free m u e
owner m (Data n) u e = free m u e
owner m (Apply v ts) u e = free m u e
owner m (Pack h v s) u e = free m u e

-- the register of the variable that is declared
abbrev pub target : List ℕ → ADecl → ATm → ℕ
target m (Value v) e = owner m v (λ n. used e (suc n)) e
target m (Proj i v) e = free m (λ n. used e (suc n)) e
target m (Arith o v w) e = free m (λ n. used e (suc n)) e
target m (Unpack v) e = free m (λ n. used e (suc n)) e
target m (Malloc ts) e = free m (λ n. used e (suc n)) e
target m (Init v i w) e = owner m v (λ n. uses w n || used e (suc n)) e

-- the first register from t on but r
abbrev pub other_than : ℕ → ℕ → ℕ
other_than r t = cond (r == t) (suc t) t

-- a declaration, whose variable's register is r, where t and those after it hold nothing
abbrev pub decl_code : ℕ → List ℕ → ℕ → ADecl → TSeq → TSeq
decl_code t m r (Value v) rest = unnest t m v (move r (small t m v) rest)
decl_code t m r (Proj i v) rest =
    let x = small r m v in unnest r m v (settle r x (Then (T.Ld r (home r x) (i - 1)) rest))
decl_code t m r (Arith o v w) rest =
    let x = small t m v in
    let y = small (suc t) m w in
    unnest t m v (settle t x (unnest (suc t) m w (Then (T.Arith o r (home t x) y) rest)))
decl_code t m r (Unpack v) rest = unnest r m v (Then (T.Unpack r (small r m v)) rest)
decl_code t m r (Malloc ts) rest = Then (T.Malloc r (tys ts)) rest
decl_code t m r (Init v i w) rest =
    let s = other_than r t in
    let y = small s m w in
    unnest s m v (move r (small s m v) (unnest s m w (settle s y (Then (T.St r (i - 1) (home s y)) rest))))

-- the type variables in scope, as arguments
abbrev pub tvars : ℕ → List Ty
tvars zero = []
tvars (suc k) = VarTy k ∷ tvars k

-- whether the value names register r
abbrev pub reads : ℕ → List ℕ → AVal → Bool
reads r m (Var n) = place m n == r
reads r m (Apply v ts) = reads r m v
reads r m (Pack h v s) = reads r m v
reads r m _ = false

-- whether one of these arguments does, or the code
abbrev pub later : ℕ → List ℕ → List AVal → AVal → Bool
later r m [] c = reads r m c
later r m (v ∷ vs) c = reads r m v || later r m vs c

-- whether it is a variable in that register
abbrev pub owns : ℕ → List ℕ → AVal → Bool
owns r m (Var n) = place m n == r
owns r m _ = false

-- register r is saved in register b, where it has to be; then the rest
abbrev pub saved : Bool → ℕ → ℕ → TSeq → TSeq
saved false b r rest = rest
saved true b r rest = Then (T.Mov b (reg r)) rest

-- the first free register then
abbrev pub above_saved : Bool → ℕ → ℕ
above_saved false b = b
above_saved true b = suc b

-- b in the place of r
abbrev pub instead : ℕ → ℕ → ℕ → ℕ
instead b r q = cond (q == r) b q

-- the registers of the variables then
abbrev pub places_saved : Bool → ℕ → ℕ → List ℕ → List ℕ
places_saved false b r m = m
places_saved true b r m = map (instead b r) m

-- the arguments of a call, put into the registers from j on, and its jump: an argument that stands in its register is
-- not moved, and a register that a later one still needs, or the code, is saved first; b and those after it are free
abbrev pub call_code : ℕ → ℕ → List ℕ → List AVal → AVal → List Ty → TSeq
call_code j b m [] c ts = unnest b m c (Ends (T.Jmp (applied_to (small b m c) ts)))
call_code j b m (v ∷ vs) c ts =
    let lost = not (owns j m v) && later j m vs c in
    let a = above_saved lost b in
    let l = places_saved lost b j m in
    saved lost b j (unnest a l v (move j (small a l v) (call_code (suc j) a l vs c ts)))

-- the first register above all variables that the call uses, and all arguments
abbrev pub above : List ℕ → AVal → List AVal → ℕ
above m c vs = suc (top (length vs) m (λ n. uses c n || uses_any vs n))

-- the test of an `if0`, whose third part is block at and owes the k type variables in scope; t holds nothing
abbrev pub test_code : ℕ → ℕ → List ℕ → AVal → ℕ → TSeq → TSeq
test_code t k m v at rest =
    let x = small t m v in
    unnest t m v (settle t x (Then (T.Bnz (home t x) (T.Plain (T.Label at) (tvars k))) rest))

-- a term, where k type variables are in scope, the variables' registers are m, and the first third part's block is at
abbrev pub code : ℕ → List ℕ → ℕ → ATm → TSeq
code k m at (Let x e) =
    let r = target m x e in decl_code (over m (used (Let x e))) m r x (code (more_vars x k) (r ∷ m) at e)
code k m at (Call v ts vs) = call_code 1 (above m v vs) m vs v (tys ts)
code k m at (If0 v a b) = test_code (over m (used (If0 v a b))) k m v at (code k m (suc at) a)
code k m at (Halt v) = let t = over m (uses v) in unnest t m v (move 1 (small t m v) (Ends T.Halt))

-- the file with the type t at register r: the registers ascend
abbrev pub insert : ℕ → Ty → TFile → TFile
insert r t NoRegs = MoreRegs r t NoRegs
insert r t (MoreRegs q u f) =
    cond (r == q) (MoreRegs r t f) (cond (nat_lt r q) (MoreRegs r t (MoreRegs q u f)) (MoreRegs q u (insert r t f)))

-- the file of the variables in scope that are used
abbrev pub header : (ℕ → Bool) → List ℕ → List ATy → TFile
header u m [] = NoRegs
header u [] (t ∷ g) = NoRegs
header u (r ∷ m) (t ∷ g) = let f = header (λ n. u (suc n)) m g in cond (u 0) (insert r (ty t) f) f

-- a block of k type variables, with this file
abbrev pub block : ℕ → TFile → List ℕ → ℕ → ATm → TBlock
block k f m at e = record { owes = k; file = f; code = code k m at e }

-- the blocks of the third parts, from block at on: each owes the type variables, and takes the variables that it uses
abbrev pub extras : AProg → ℕ → List ℕ → List ATy → ℕ → ATm → List TBlock
extras p k m g at (Let x e) = extras p (more_vars x k) (target m x e ∷ m) (declared p g x) at e
extras p k m g at (Call v ts vs) = []
extras p k m g at (If0 v a b) =
    block k (header (used b) m g) m (suc at + thirds a) b
    ∷ (extras p k m g (suc at) a ++ extras p k m g (suc at + thirds a) b)
extras p k m g at (Halt v) = []

-- the registers of n arguments
abbrev pub rows : ℕ → List ℕ
rows zero = []
rows (suc n) = suc n ∷ rows n

-- the blocks' own, where the first third part is block at
abbrev pub firsts : List ABlk → ℕ → List TBlock
firsts [] at = []
firsts (b ∷ bs) at = block b.owes (ty_args b.args 1) (rows (arity b.args)) at b.body ∷ firsts bs (at + thirds b.body)

-- the third parts of the blocks, from block at on
abbrev pub seconds : AProg → List ABlk → ℕ → List TBlock
seconds p [] at = []
seconds p (b ∷ bs) at =
    extras p b.owes (rows (arity b.args)) (types_of b.args []) at b.body ++ seconds p bs (at + thirds b.body)

-- the main term, the blocks, and then the third parts of all of them in order
abbrev pub generated_blocks : AProg → ATm → List TBlock
generated_blocks p main =
    let at = suc (length p.blocks) in
    block 0 NoRegs [] at main
    ∷ (firsts p.blocks (at + thirds main) ++ (extras p 0 [] [] at main ++ seconds p p.blocks (at + thirds main)))

-- the value of a data field
abbrev pub constant : AVal → TValue
constant (Var n) = reg 0
constant (Num i) = T.Plain (T.Int i) []
constant (Lab l) = T.Plain (T.Label (suc l)) []
constant (Data n) = T.Plain (T.Data n) []
constant (Apply v ts) = applied_to (constant v) (tys ts)
constant (Pack h v s) = T.Pack (ty h) (constant v) (ty s)

-- a data field
abbrev pub datum_of : AConst → TDatum
datum_of c = record { value = constant c.value; ty = ty c.kind }

-- a data tuple
abbrev pub data_of : AConsts → TData
data_of cs = map datum_of cs

-- one data tuple for each
abbrev pub generated_heap : List AConsts → List TData
generated_heap xs = map data_of xs

-- the program
abbrev pub generated : AProg → ATm → TProg
generated p main = record { blocks = generated_blocks p main; heap = generated_heap p.tuples }
