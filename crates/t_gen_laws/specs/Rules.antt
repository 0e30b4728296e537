-- Code generation by rules. Each variable that is still used has a register of its own, and any registers will do. A
-- declaration becomes its instruction, a call its jump, with moves before it where an operand is not at hand, of its
-- operands and their parts alone. Moves are run on names: what value each register holds. A third part is a block of
-- its own, which takes the variables that it uses.
use Rattle.std.specs.Prelude.{◌≡◌, ◌⊎◌, ◌<◌, ◌≤◌, ℕ, suc, ◌+◌, ◌-◌, ◌==◌, List, [], ◌∷◌, length, slice_get, Option}
use Rattle.std.specs.Prelude.{Some, None, Bool, true, cond, ◌&&◌, ◌||◌}
use Rattle.t_types.specs.Tree.{Ty, TFile}
use Rattle.t_types.specs.Fits.{lookup}
use Rattle.t_terms.specs.Tree as T
use Rattle.t_terms.specs.Tree.{TValue, TSeq, Then, Ends, TBlock, TData, TProg}
use Rattle.t_terms.specs.Whole.{WellFormedProgram}
use Rattle.t_terms.specs.Registers.{with_reg}
use Rattle.t_rules.specs.Rules.{Accepted}
use Rattle.a_terms.specs.Tree.{ATy, ATys, NoATys, AVal, Var, Num, Lab, Data, Apply, Pack, ADecl, Value, Proj, Arith}
use Rattle.a_terms.specs.Tree.{Unpack, Malloc, Init, ATm, Let, Call, If0, Halt, ABlk, AConsts, AProg, arity}
use Rattle.a_terms.specs.Typing.{declared, more_vars, types_of, TypedProgram}
use Rattle.a_terms.specs.Bound.{thirds, all_thirds}
use Rattle.a_terms.specs.Meaning.{NeverWrong}
use Rattle.t_gen_rules.specs.Gen.{ty, ty_args, tys, reg, applied_to, place, used, tvars, rows, generated}
use Rattle.t_gen_laws.specs.Counting.{first_of, first_third}
use Rattle.t_gen_laws.specs.Correct.{Keeps}

-- the value that each register holds, where it is known
abbrev pub Held : Type 0
Held = ℕ → Option AVal

abbrev pub nothing : Held
nothing r = None

-- each variable in its register, where those of the variables from i on are m, and u tells which ones are used
abbrev pub holding : ℕ → List ℕ → (ℕ → Bool) → Held
holding i [] u r = None
holding i (q ∷ m) u r = cond (u 0 && q == r) (Some (Var i)) (holding (suc i) m (λ n. u (suc n)) r)

-- y is a register that holds v
abbrev pub InRegister : Held → AVal → TValue → Type 0
InRegister c v y = (r : ℕ) × (y ≡ reg r) × (c r ≡ Some v)

abbrev pub IsPlain : TValue → Type 0
IsPlain (T.Plain b us) = Unit {0}
IsPlain (T.Pack h v s) = ⊥

-- y is a register that holds v, or v in place, with no package inside a package
abbrev pub Reads : Held → AVal → TValue → Type 0
Reads c (Var n) y = InRegister c (Var n) y
Reads c (Num i) y = InRegister c (Num i) y ⊎ (y ≡ T.Plain (T.Int i) [])
Reads c (Lab l) y = InRegister c (Lab l) y ⊎ (y ≡ T.Plain (T.Label (suc l)) [])
Reads c (Data n) y = InRegister c (Data n) y ⊎ (y ≡ T.Plain (T.Data n) [])
Reads c (Apply v ts) y = InRegister c (Apply v ts) y ⊎ ((x : TValue) × Reads c v x × (y ≡ applied_to x (tys ts)))
Reads c (Pack h v s) y =
    InRegister c (Pack h v s) y ⊎ ((x : TValue) × Reads c v x × IsPlain x × (y ≡ T.Pack (ty h) x (ty s)))

pub record Move : Type 0 where
  pub to : ℕ
  pub value : TValue

abbrev pub before : List Move → TSeq → TSeq
before [] rest = rest
before (x ∷ ms) rest = Then (T.Mov x.to x.value) (before ms rest)

-- v is a value, or what is applied or packed in it
abbrev pub IsPart : AVal → AVal → Type 0
IsPart v (Apply w ts) = (v ≡ Apply w ts) ⊎ IsPart v w
IsPart v (Pack h w s) = (v ≡ Pack h w s) ⊎ IsPart v w
IsPart v w = v ≡ w

-- it is a part of one of these
abbrev pub IsPartOf : AVal → List AVal → Type 0
IsPartOf v [] = ⊥
IsPartOf v (w ∷ ws) = IsPart v w ⊎ IsPartOf v ws

-- moves of parts of the operands ws, in order, after which the registers hold d
abbrev pub Brings : List AVal → Held → List Move → Held → Type 0
Brings ws c [] d = c ≡ d
Brings ws c (x ∷ ms) d = (v : AVal) × IsPartOf v ws × Reads c v x.value × Brings ws (with_reg c x.to v) ms d

-- the operands of the instruction with which the code of a term begins
abbrev pub operands : ATm → List AVal
operands (Let (Value v) e) = v ∷ []
operands (Let (Proj i v) e) = v ∷ []
operands (Let (Arith o v w) e) = v ∷ w ∷ []
operands (Let (Unpack v) e) = v ∷ []
operands (Let (Malloc ts) e) = []
operands (Let (Init v i w) e) = v ∷ w ∷ []
operands (Call v ts vs) = Apply v ts ∷ vs
operands (If0 v a b) = v ∷ []
operands (Halt v) = v ∷ []

-- how many of them have to be in a register; an argument counts twice, as what its register holds may be wanted later
abbrev pub to_move : ATm → ℕ
to_move (Let (Unpack v) e) = 0
to_move (Let (Malloc ts) e) = 0
to_move (Let (Init v i w) e) = 2
to_move (Call v ts vs) = length vs + length vs
to_move _ = 1

-- and how many packages, as one inside another goes through a register
abbrev pub packages : AVal → ℕ
packages (Apply v ts) = packages v
packages (Pack h v s) = suc (packages v)
packages _ = 0

abbrev pub all_packages : List AVal → ℕ
all_packages [] = 0
all_packages (v ∷ vs) = packages v + all_packages vs

-- how the code of a term comes to its instruction, which is next: first moves of its operands and their parts, but few,
-- from where the registers m hold the variables that it uses to what is held then
pub record Comes (m : List ℕ) (e : ATm) (is next : TSeq) : Type 0 where
  pub moves : List Move
  pub first : is ≡ before moves next
  pub few : length moves ≤ to_move e + all_packages (operands e)
  pub held : Held
  pub brings : Brings (operands e) (holding 0 m (used e)) moves held

-- the variables that u tells are in their registers
abbrev pub Stay : List ℕ → (ℕ → Bool) → Held → Type 0
Stay m u c = (n : ℕ) → u n ≡ true → n < length m → c (place m n) ≡ Some (Var n)

-- register r is that of none of them
abbrev pub Spare : List ℕ → (ℕ → Bool) → ℕ → Type 0
Spare m u r = (n : ℕ) → u n ≡ true → n < length m → place m n ≡ r → ⊥

-- no two of them have one register
abbrev pub Distinct : List ℕ → (ℕ → Bool) → Type 0
Distinct m u = (i j : ℕ) → u i ≡ true → u j ≡ true → i < length m → j < length m → place m i ≡ place m j → i ≡ j

-- a file has the registers of the variables that u tells, each with its variable's type, and no other ones
pub record Covers (u : ℕ → Bool) (m : List ℕ) (g : List ATy) (f : TFile) : Type 0 where
  pub each : (n : ℕ) (t : ATy) → u n ≡ true → slice_get g n ≡ Some t → lookup f (place m n) ≡ Some (ty t)
  pub only : (r : ℕ) (s : Ty) → lookup f r ≡ Some s → (n : ℕ) × (u n ≡ true) × (n < length g) × (place m n ≡ r)

-- these values are in the registers from j on
abbrev pub InOrder : Held → ℕ → List AVal → Type 0
InOrder c j [] = Unit {0}
InOrder c j (v ∷ vs) = Reads c v (reg j) × InOrder c (suc j) vs

-- the instruction of a declaration, whose variable's register is r, where the registers hold c. A value that is named,
-- and a tuple that gets a field, are in r before
abbrev pub Declares : Held → ℕ → ADecl → TSeq → TSeq → Type 0
Declares c r (Value v) is rest = (is ≡ rest) × Reads c v (reg r)
Declares c r (Proj i v) is rest = (q : ℕ) × (is ≡ Then (T.Ld r q (i - 1)) rest) × Reads c v (reg q)
Declares c r (Arith o v w) is rest =
    (q : ℕ) × (y : TValue) × (is ≡ Then (T.Arith o r q y) rest) × Reads c v (reg q) × Reads c w y
Declares c r (Unpack v) is rest = (y : TValue) × (is ≡ Then (T.Unpack r y) rest) × Reads c v y
Declares c r (Malloc ts) is rest = is ≡ Then (T.Malloc r (tys ts)) rest
Declares c r (Init v i w) is rest =
    (q : ℕ) × (is ≡ Then (T.St r (i - 1) q) rest) × Reads c v (reg r) × Reads c w (reg q)

-- that instruction writes into r
abbrev pub Writes : ADecl → Type 0
Writes (Value v) = ⊥
Writes (Init v i w) = ⊥
Writes _ = Unit {0}

-- where a term stands: the blocks of the assembly program; the allocated program; how many type variables are in scope,
-- which a block there owes; and the registers and the types of the variables
pub record Scope : Type 0 where
  pub blocks : List TBlock
  pub program : AProg
  pub owes : ℕ
  pub regs : List ℕ
  pub types : List ATy

-- after a declaration, whose variable is in register r
abbrev pub with_decl : ADecl → ℕ → Scope → Scope
with_decl x r s = record s { owes = more_vars x s.owes; regs = r ∷ s.regs; types = declared s.program s.types x }

-- the code of a declaration, where e comes after it: the register of its variable; next, the instruction that declares
-- it there; and the rest. The variables that e uses are kept in their registers, its register is spare where that is
-- written into, and the registers of what e uses are apart
pub record LetCode (s : Scope) (x : ADecl) (e : ATm) (is : TSeq) : Type 0 where
  pub register : ℕ
  pub next : TSeq
  pub comes : Comes s.regs (Let x e) is next
  pub rest : TSeq
  pub declares : Declares comes.held register x next rest
  pub kept : Stay s.regs (λ n. used e (suc n)) comes.held
  pub spare : Writes x → Spare s.regs (λ n. used e (suc n)) register
  pub apart : Distinct (register ∷ s.regs) (used e)

-- the code of a call: a jump to the target, which is what is called, with the arguments in the registers from 1 on
pub record CallCode (s : Scope) (v : AVal) (ts : ATys) (vs : List AVal) (is : TSeq) : Type 0 where
  pub target : TValue
  pub comes : Comes s.regs (Call v ts vs) is (Ends (T.Jmp target))
  pub called : Reads comes.held (Apply v ts) target
  pub arguments : InOrder comes.held 1 vs

-- the code of an if0: the register that is tested; the second part, which follows; and the third part, found as block
-- at, which owes the type variables in scope and has a file that covers what it uses. What either part uses is kept
pub record IfCode (s : Scope) (at : ℕ) (v : AVal) (a b : ATm) (is : TSeq) : Type 0 where
  pub tested : ℕ
  pub second : TSeq
  pub comes : Comes s.regs (If0 v a b) is (Then (T.Bnz tested (T.Plain (T.Label at) (tvars s.owes))) second)
  pub tests : Reads comes.held v (reg tested)
  pub kept : Stay s.regs (λ n. used a n || used b n) comes.held
  pub third : TBlock
  pub found : slice_get s.blocks at ≡ Some third
  pub owes : third.owes ≡ s.owes
  pub covers : Covers (used b) s.regs s.types third.file

-- the code of a halt, with the answer in register 1
pub record HaltCode (s : Scope) (v : AVal) (is : TSeq) : Type 0 where
  pub comes : Comes s.regs (Halt v) is (Ends T.Halt)
  pub answer : Reads comes.held v (reg 1)

-- the code of a term, whose third parts are the blocks from number at on
abbrev pub Code : Scope → ℕ → ATm → TSeq → Type 0
Code s at (Let x e) is = (d : LetCode s x e is) × Code (with_decl x d.register s) at e d.rest
Code s at (Call v ts vs) is = CallCode s v ts vs is
Code s at (If0 v a b) is =
    (c : IfCode s at v a b is) × Code s (suc at) a c.second × Code s (suc at + thirds a) b c.third.code
Code s at (Halt v) is = HaltCode s v is

-- at the start of a block, whose arguments are in the registers from 1 on
abbrev pub in_block : List TBlock → AProg → ABlk → Scope
in_block P p b =
    record { blocks = P; program = p; owes = b.owes; regs = rows (arity b.args); types = types_of b.args [] }

-- block l is that of b, whose third parts are the blocks from number at on
pub record IsBlock (P : List TBlock) (p : AProg) (b : ABlk) (l at : ℕ) : Type 0 where
  pub block : TBlock
  pub found : slice_get P l ≡ Some block
  pub owes : block.owes ≡ b.owes
  pub file : block.file ≡ ty_args b.args 1
  pub code : Code (in_block P p b) at b.body block.code

-- data tuples, field by field
abbrev pub Fields : AConsts → TData → Type 0
Fields [] [] = Unit {0}
Fields (c ∷ cs) (d ∷ ds) = (Reads nothing c.value d.value × (d.ty ≡ ty c.kind)) × Fields cs ds
Fields _ _ = ⊥

abbrev pub Tuples : List AConsts → List TData → Type 0
Tuples [] [] = Unit {0}
Tuples (x ∷ xs) (d ∷ ds) = Fields x d × Tuples xs ds
Tuples _ _ = ⊥

-- block 0 is that of the main term, block l + 1 that of block l, and then come the third parts of all of them in order;
-- each data tuple has its own
pub record Generates (p : AProg) (main : ATm) (P : TProg) : Type 0 where
  pub main_block : IsBlock P.blocks p (record { owes = 0; args = NoATys; body = main }) 0 (suc (length p.blocks))
  pub blocks : (l : ℕ) (b : ABlk) → slice_get p.blocks l ≡ Some b →
      IsBlock P.blocks p b (suc l) (first_of p.blocks (first_third p main) l)
  pub count : length P.blocks ≡ suc (length p.blocks) + (thirds main + all_thirds p.blocks)
  pub tuples : Tuples p.tuples P.heap

-- what is generated for a typed program is so by the rules
abbrev pub GeneratedIsByRules : Type 0
GeneratedIsByRules = (p : AProg) (main : ATm) → TypedProgram p main → Generates p main (generated p main)

-- whatever is so by the rules, and is accepted, means the same as a program that is never wrong, as each typed one
abbrev pub RulesMeanTheSame : Type 0
RulesMeanTheSame =
    (p : AProg) (main : ATm) (P : TProg) → NeverWrong p main → Generates p main P → WellFormedProgram P → Accepted P →
    Keeps p main P
