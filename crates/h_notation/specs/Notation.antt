-- The notation of hoisted programs, with the types of what `let`s bind or without. Inside m value names the next one
-- is `x` and m, and the variable i is the one that has i others between. A block is `L` and its label, which counts
-- from 0; fields count from 1.
use Rattle.std.specs.Prelude.{ℕ, suc, ◌+◌, ◌-◌, Bool, List, [], ◌∷◌, ◌++◌, codes, decimal}
use Rattle.c_terms.specs.C.{CTy, CTys, MoreCTys, NoCTys, ccount}
use Rattle.c_terms.specs.Typing.{cargs_onto}
pub use Rattle.let_types.specs.TypeTexts.{note_text}
use Rattle.let_types.specs.TypeTexts.{applied_text, pack_behind, pack_front, type_text, types_text}
use Rattle.h_terms.specs.H.{HApply, HArith, HBlk, HBlks, HCall, HCell, HDecl, HGet, HHalt, HIf, HInt, HLabel, HLet}
use Rattle.h_terms.specs.H.{HName, HPack, HProj, HSet, HTm, HTuple, HUnpack, HVal, HVals, HVar, MoreHVals, NoHVals}
use Rattle.let_types.specs.Hoisted.{decl_type, names_behind, types_behind}
use Rattle.page_core.specs.Names.{margin, number, op_sign, separator, type_name, type_names, value_name}

abbrev mutual
  -- a value inside n type names and m value names
  pub value_text : ℕ → ℕ → HVal → List ℕ
  value_text n m (HVar i) = value_name (m - 1 - i)
  value_text n m (HInt z) = number z
  value_text n m (HLabel l) = codes "L" ++ decimal l
  value_text n m (HTuple vs) = codes "<" ++ (values_text 0 n m vs ++ codes ">")
  value_text n m (HApply v ts) = value_text n m v ++ applied_text n ts
  value_text n m (HPack hidden v shape) =
      pack_front n hidden ++ (value_text n m v ++ pack_behind n shape)

  -- values, where i stand before them
  pub values_text : ℕ → ℕ → ℕ → HVals → List ℕ
  values_text i n m NoHVals = []
  values_text i n m (MoreHVals v vs) = separator i ++ (value_text n m v ++ values_text (suc i) n m vs)

-- the name that a declaration gives, and what stands behind it
abbrev pub let_text : ℕ → List ℕ → List ℕ
let_text m note = codes "let " ++ (value_name m ++ (note ++ codes " = "))

abbrev pub decl_text : ℕ → ℕ → List ℕ → HDecl → List ℕ
decl_text n m note (HName v) = let_text m note ++ value_text n m v
decl_text n m note (HProj i v) = let_text m note ++ (codes "#" ++ (decimal i ++ (codes " " ++ value_text n m v)))
decl_text n m note (HArith op v w) = let_text m note ++ (value_text n m v ++ (op_sign op ++ value_text n m w))
decl_text n m note (HUnpack v) =
    codes "let ["
    ++ (type_name n ++ (codes ", " ++ (value_name m ++ (note ++ (codes "] = unpack " ++ value_text n m v)))))
decl_text n m note (HCell v) = let_text m note ++ (codes "ref " ++ value_text n m v)
decl_text n m note (HGet v) = let_text m note ++ (codes "!" ++ value_text n m v)
decl_text n m note (HSet v w) = let_text m note ++ (value_text n m v ++ (codes " := " ++ value_text n m w))

abbrev pub call_text : ℕ → ℕ → HVal → CTys → HVals → List ℕ
call_text n m v ts vs =
    value_text n m v ++ (codes "[" ++ (types_text n ts ++ (codes "](" ++ (values_text 0 n m vs ++ codes ")"))))

abbrev pub if_text : ℕ → ℕ → HVal → List ℕ
if_text n m v = codes "if0 " ++ (value_text n m v ++ codes " then")

-- a line at the level k
abbrev pub line : ℕ → List ℕ → List ℕ
line k s = margin k ++ (s ++ codes "\n")

-- what stands behind the name that a declaration gives, where the types of the variables are g: the type that typing
-- gives it
abbrev pub decl_note : Bool → HBlks → List CTy → ℕ → HDecl → List ℕ
decl_note b ks g n x = note_text b (types_behind n x) (decl_type ks g x)

-- a term among blocks, inside n type names and m value names, of the types g, at the level k
abbrev pub term_text : Bool → HBlks → List CTy → ℕ → ℕ → ℕ → HTm → List ℕ
term_text b ks g n m k (HLet x t) =
    line k (decl_text n m (decl_note b ks g n x) x)
    ++ term_text b ks (names_behind ks g x) (types_behind n x) (m + 1) k t
term_text b ks g n m k (HCall v ts vs) = line k (call_text n m v ts vs)
term_text b ks g n m k (HIf v t u) =
    line k (if_text n m v)
    ++ (term_text b ks g n m (k + 1) t ++ (line k (codes "else") ++ term_text b ks g n m (k + 1) u))
term_text b ks g n m k (HHalt v) = line k (codes "halt " ++ value_text n m v)

-- arguments with their types inside n type names, where i stand before them
abbrev pub args_text : ℕ → ℕ → CTys → List ℕ
args_text i n NoCTys = []
args_text i n (MoreCTys t ts) =
    separator i ++ (value_name i ++ (codes ": " ++ (type_text n t ++ args_text (suc i) n ts)))

-- what stands before the body of a block
abbrev pub head_text : ℕ → ℕ → CTys → List ℕ
head_text l owes args =
    codes "L"
    ++ (decimal l ++ (codes ": code" ++ (type_names 0 owes ++ (codes "(" ++ (args_text 0 owes args ++ codes ").\n")))))

-- the block with the label l, and an empty line
abbrev pub block_text : Bool → HBlks → ℕ → HBlk → List ℕ
block_text types ks l b =
    head_text l b.owes b.args
    ++ (term_text types ks (cargs_onto b.args []) b.owes (ccount b.args) 1 b.body ++ codes "\n")

-- blocks, the first of which has the label l
abbrev pub blocks_text : Bool → HBlks → ℕ → List HBlk → List ℕ
blocks_text types ks l [] = []
blocks_text types ks l (b ∷ bs) = block_text types ks l b ++ blocks_text types ks (suc l) bs

-- a program with its main term, with types or without
abbrev pub h_text : Bool → HBlks → HTm → List ℕ
h_text types ks t = blocks_text types ks 0 ks ++ (codes "main:\n" ++ term_text types ks [] 0 0 1 t)
