-- The notation of allocated programs, with the types of what `let`s bind or without. Inside m value names the next one
-- is `x` and m, and the variable i is the one that has i others between. A block is `L` and its label, a data tuple `D`
-- and its number; both count from 0, fields from 1.
use Rattle.std.specs.Prelude.{ℕ, suc, ◌+◌, ◌-◌, Bool, true, false, List, [], ◌∷◌, ◌++◌, codes, decimal}
use Rattle.a_terms.specs.Tree.{AVal, Var, Num, Lab, Data, Apply, Pack, ADecl, Value, Proj, Arith, Unpack, Malloc}
use Rattle.a_terms.specs.Tree.{Init, ATm, Let, Call, If0, Halt, ABlk, AConsts, AProg, ATy, ATys, NoATys, MoreATys}
use Rattle.a_terms.specs.Tree.{arity}
use Rattle.a_terms.specs.Typing.{declared, types_of}
use Rattle.a_scope.specs.Scope.{decl_ty}
use Rattle.page_core.specs.Names.{margin, number, op_sign, separator, type_name, type_names, value_name}
use Rattle.a_notation.specs.Types.{applied_text, type_text, types_text}

-- a value inside n type names and m value names
abbrev pub value_text : ℕ → ℕ → AVal → List ℕ
value_text n m (Var i) = value_name (m - 1 - i)
value_text n m (Num z) = number z
value_text n m (Lab l) = codes "L" ++ decimal l
value_text n m (Data d) = codes "D" ++ decimal d
value_text n m (Apply v ts) = value_text n m v ++ applied_text n ts
value_text n m (Pack hidden v shape) =
    codes "pack [" ++ (type_text n hidden ++ (codes ", " ++ (value_text n m v ++ (codes "] as " ++ type_text n shape))))

-- values, where i stand before them
abbrev pub values_text : ℕ → ℕ → ℕ → List AVal → List ℕ
values_text i n m [] = []
values_text i n m (v ∷ vs) = separator i ++ (value_text n m v ++ values_text (suc i) n m vs)

-- what stands behind a name that is given to a value of this type, where types are shown
abbrev pub note_text : Bool → ℕ → ATy → List ℕ
note_text true n t = codes ": " ++ type_text n t
note_text false n t = []

-- the name that a declaration gives, and what stands behind it
abbrev pub let_text : ℕ → List ℕ → List ℕ
let_text m note = codes "let " ++ (value_name m ++ (note ++ codes " = "))

abbrev pub malloc_text : ℕ → ℕ → List ℕ → ATys → List ℕ
malloc_text n m note ts = let_text m note ++ (codes "malloc[" ++ (types_text 0 n ts ++ codes "]"))

abbrev pub decl_text : ℕ → ℕ → List ℕ → ADecl → List ℕ
decl_text n m note (Value v) = let_text m note ++ value_text n m v
decl_text n m note (Proj i v) = let_text m note ++ (codes "#" ++ (decimal i ++ (codes " " ++ value_text n m v)))
decl_text n m note (Arith op v w) = let_text m note ++ (value_text n m v ++ (op_sign op ++ value_text n m w))
decl_text n m note (Unpack v) =
    codes "let ["
    ++ (type_name n ++ (codes ", " ++ (value_name m ++ (note ++ (codes "] = unpack " ++ value_text n m v)))))
decl_text n m note (Malloc ts) = malloc_text n m note ts
decl_text n m note (Init v i w) =
    let_text m note ++ (value_text n m v ++ (codes "[" ++ (decimal i ++ (codes "] <- " ++ value_text n m w))))

-- how many type names are around what follows a declaration inside n of them
abbrev pub types_after : ADecl → ℕ → ℕ
types_after (Value v) n = n
types_after (Proj i v) n = n
types_after (Arith op v w) n = n
types_after (Unpack v) n = n + 1
types_after (Malloc ts) n = n
types_after (Init v i w) n = n

abbrev pub call_text : ℕ → ℕ → AVal → ATys → List AVal → List ℕ
call_text n m v ts vs =
    value_text n m v ++ (codes "[" ++ (types_text 0 n ts ++ (codes "](" ++ (values_text 0 n m vs ++ codes ")"))))

abbrev pub if_text : ℕ → ℕ → AVal → List ℕ
if_text n m v = codes "if0 " ++ (value_text n m v ++ codes " then")

-- a line at the level k
abbrev pub line : ℕ → List ℕ → List ℕ
line k s = margin k ++ (s ++ codes "\n")

-- what stands behind the name that a declaration gives, where the types of the variables are g: the type that typing
-- gives it
abbrev pub decl_note : Bool → AProg → List ATy → ℕ → ADecl → List ℕ
decl_note b p g n x = note_text b (types_after x n) (decl_ty p g x)

-- a term of a program inside n type names and m value names, of the types g, at the level k
abbrev pub term_text : Bool → AProg → List ATy → ℕ → ℕ → ℕ → ATm → List ℕ
term_text b p g n m k (Let x t) =
    line k (decl_text n m (decl_note b p g n x) x) ++ term_text b p (declared p g x) (types_after x n) (m + 1) k t
term_text b p g n m k (Call v ts vs) = line k (call_text n m v ts vs)
term_text b p g n m k (If0 v t u) =
    line k (if_text n m v)
    ++ (term_text b p g n m (k + 1) t ++ (line k (codes "else") ++ term_text b p g n m (k + 1) u))
term_text b p g n m k (Halt v) = line k (codes "halt " ++ value_text n m v)

-- arguments with their types inside n type names, where i stand before them
abbrev pub args_text : ℕ → ℕ → ATys → List ℕ
args_text i n NoATys = []
args_text i n (MoreATys t ts) =
    separator i ++ (value_name i ++ (codes ": " ++ (type_text n t ++ args_text (suc i) n ts)))

-- what stands before the body of a block
abbrev pub head_text : ℕ → ℕ → ATys → List ℕ
head_text l owes args =
    codes "L"
    ++ (decimal l ++ (codes ": code" ++ (type_names 0 owes ++ (codes "(" ++ (args_text 0 owes args ++ codes ").\n")))))

-- the block with the label l, and an empty line
abbrev pub block_text : Bool → AProg → ℕ → ABlk → List ℕ
block_text types p l b =
    head_text l b.owes b.args
    ++ (term_text types p (types_of b.args []) b.owes (arity b.args) 1 b.body ++ codes "\n")

-- blocks, the first of which has the label l
abbrev pub blocks_text : Bool → AProg → ℕ → List ABlk → List ℕ
blocks_text types p l [] = []
blocks_text types p l (b ∷ bs) = block_text types p l b ++ blocks_text types p (suc l) bs

-- the values of a data tuple, where i stand before them
abbrev pub consts_text : ℕ → AConsts → List ℕ
consts_text i [] = []
consts_text i (c ∷ cs) = separator i ++ (value_text 0 0 c.value ++ consts_text (suc i) cs)

-- the data tuple with the number d
abbrev pub tuple_text : ℕ → AConsts → List ℕ
tuple_text d cs = codes "D" ++ (decimal d ++ (codes ": <" ++ (consts_text 0 cs ++ codes ">\n")))

-- data tuples, the first of which has the number d
abbrev pub tuples_text : ℕ → List AConsts → List ℕ
tuples_text d [] = []
tuples_text d (x ∷ xs) = tuple_text d x ++ tuples_text (suc d) xs

-- all data tuples, and an empty line where there are any
abbrev pub data_text : List AConsts → List ℕ
data_text [] = []
data_text (x ∷ xs) = tuples_text 0 (x ∷ xs) ++ codes "\n"

-- a program with its main term, with types or without
abbrev pub a_text : Bool → AProg → ATm → List ℕ
a_text types p t =
    blocks_text types p 0 p.blocks
    ++ (data_text p.tuples ++ (codes "main:\n" ++ term_text types p [] 0 0 1 t))
