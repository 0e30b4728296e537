-- The notation of terms whose codes stand inside, in continuation-passing style or closed (own choice), as bytes, with
-- the types of what `let`s bind or without. Inside n type names and m value names, with lines at the level k, a
-- variable i is the value name with m - 1 - i others around it. Where a code is closed, names begin anew in it: its own
-- is the first, and its arguments' the next.
use Rattle.std.specs.Prelude.{ℕ, suc, ◌+◌, ◌-◌, Bool, true, false, List, [], ◌++◌, codes, decimal}
use Rattle.calc_core.specs.Ends.{lift}
use Rattle.calc_core.specs.Types.{Ty, Tys, count}
use Rattle.calc_core.specs.TypeOf.{decl_type, names_behind, types_behind, untold}
use Rattle.calc_core.specs.Calculus.{Body, Open, Shut, Inside, Kinded, Cps, Closed, Val, Var, Int, Tuple, Code, Apply}
use Rattle.calc_core.specs.Calculus.{Pack, Vals, NoVals, MoreVals, Decl, Name, Proj, Arith, Packs, Unpack, Cell, Get}
use Rattle.calc_core.specs.Calculus.{Set, Tm, Let, Call, If, Halt, body_scope, names_in}
use Rattle.let_types.specs.TypeTexts as C
use Rattle.kc_notation.specs.CpsNotation as K
use Rattle.kc_notation.specs.Heads.{code_line}
use Rattle.page_core.specs.Names.{margin, number, op_sign, separator, type_name, value_name}

-- types inside n type names: those of closed terms have closures
abbrev pub closures : Body → Bool
closures Open = false
closures Shut = true

abbrev pub type_text : Body → ℕ → Ty → List ℕ
type_text c = C.text_of (closures c)

abbrev pub types_text : Body → ℕ → Tys → List ℕ
types_text c = C.texts_after (closures c) 0

-- what stands behind a name that is given to a value of this type, where types are shown
abbrev pub note_text : Body → Bool → ℕ → Ty → List ℕ
note_text Open = K.note_text
note_text Shut = C.note_text

-- how many of the names around a code its body sees
abbrev pub kept : Body → ℕ → ℕ
kept Open n = n
kept Shut n = 0

-- what is declared, of a name that has m names around it, with a text behind the name
abbrev pub bound_text : {c : Body} → ℕ → ℕ → List ℕ → Decl (Kinded Inside c) → List ℕ
bound_text n m note (Unpack v) = codes "[" ++ type_name n ++ codes ", " ++ value_name m ++ note ++ codes "]"
bound_text n m note _ = value_name m ++ note

-- what stands behind the name that a declaration gives, where the types of the names are g: the type that typing gives
-- it
abbrev pub decl_note : {c : Body} → Bool → List Ty → ℕ → Decl (Kinded Inside c) → List ℕ
decl_note {c = c} b g n d = note_text c b (types_behind n d) (decl_type untold g d)

-- a package of a value with this text
abbrev pub pack_text : Body → ℕ → Ty → List ℕ → Ty → List ℕ
pack_text c n h v s = codes "pack [" ++ type_text c n h ++ codes ", " ++ v ++ codes "] as " ++ type_text c n s

abbrev mutual
  pub value_text : {c : Body} → Bool → List Ty → (n m k : ℕ) → Val (Kinded Inside c) → List ℕ
  value_text b g n m k (Var i) = value_name (m - 1 - i)
  value_text b g n m k (Int z) = number z
  value_text b g n m k (Tuple vs) = codes "<" ++ values_after b g 0 n m k vs ++ codes ">"
  value_text b g n m k (Code {b = c} owes args body) =
      code_line (closures c) (kept c n) (kept c m) owes args
      ++ term_text b (body_scope c owes args g) (names_in c owes n) (lift (count args) (suc (kept c m))) (k + 1) body
      ++ margin k ++ codes "}"
  value_text b g n m k (Apply v ts) = value_text b g n m k v ++ C.applied_text n ts
  value_text b g n m k (Pack h v s) = pack_text Shut n h (value_text b g n m k v) s

  -- values with commas between them, with so many before them
  pub values_after : {c : Body} → Bool → List Ty → (before n m k : ℕ) → Vals (Kinded Inside c) → List ℕ
  values_after b g before n m k NoVals = []
  values_after b g before n m k (MoreVals v vs) =
      separator before ++ value_text b g n m k v ++ values_after b g (suc before) n m k vs

  pub declared_text : {c : Body} → Bool → List Ty → (n m k : ℕ) → Decl (Kinded Inside c) → List ℕ
  declared_text b g n m k (Name v) = value_text b g n m k v
  declared_text b g n m k (Proj i v) = codes "#" ++ decimal i ++ codes " " ++ value_text b g n m k v
  declared_text b g n m k (Arith op v w) = value_text b g n m k v ++ op_sign op ++ value_text b g n m k w
  declared_text b g n m k (Packs h v s) = pack_text Open n h (value_text b g n m k v) s
  declared_text b g n m k (Unpack v) = codes "unpack " ++ value_text b g n m k v
  declared_text b g n m k (Cell v) = codes "ref " ++ value_text b g n m k v
  declared_text b g n m k (Get v) = codes "!" ++ value_text b g n m k v
  declared_text b g n m k (Set v w) = value_text b g n m k v ++ codes " := " ++ value_text b g n m k w

  -- a term inside n type names and m names of the types g
  pub term_text : {c : Body} → Bool → List Ty → (n m k : ℕ) → Tm (Kinded Inside c) → List ℕ
  term_text b g n m k (Let d t) =
      margin k ++ codes "let " ++ bound_text n m (decl_note b g n d) d ++ codes " = " ++ declared_text b g n m k d
      ++ codes "\n" ++ term_text b (names_behind untold g d) (types_behind n d) (suc m) k t
  term_text {c = c} b g n m k (Call f ts vs) =
      margin k ++ value_text b g n m k f ++ codes "[" ++ types_text c n ts ++ codes "](" ++ values_after b g 0 n m k vs
      ++ codes ")\n"
  term_text b g n m k (If v t u) =
      margin k ++ codes "if0 " ++ value_text b g n m k v ++ codes " then\n" ++ term_text b g n m (k + 1) t ++ margin k
      ++ codes "else\n" ++ term_text b g n m (k + 1) u
  term_text b g n m k (Halt v) = margin k ++ codes "halt " ++ value_text b g n m k v ++ codes "\n"

-- the text of a program, with types or without
abbrev pub k_text : Bool → Tm Cps → List ℕ
k_text typed t = term_text typed [] 0 0 0 t

abbrev pub c_text : Bool → Tm Closed → List ℕ
c_text typed t = term_text typed [] 0 0 0 t
