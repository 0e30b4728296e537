-- How large a program is: the names and the arguments around a place of a type, and what a term needs of them.
use Rattle.std.specs.Prelude.{ℕ, suc, ◌+◌, ◌*◌, ◌≤◌, max, List, [], ◌∷◌, length}
use Rattle.a_terms.specs.Tree.{ATy, AInt, AVar, ATuple, ACode, AExists, ATys, NoATys, MoreATys, AFields, NoAFields}
use Rattle.a_terms.specs.Tree.{MoreAFields, AVal, Data, Apply, Pack, ADecl, Value, Proj, Arith, Unpack}
use Rattle.a_terms.specs.Tree.{Malloc, Init, ATm, Let, Call, If0, Halt, ABlk, AConsts, AProg, arity}

-- the greatest sum of names and numbers of arguments around a place
abbrev mutual
  pub bulk : ATy → ℕ
  bulk AInt = 0
  bulk (AVar i) = 0
  bulk (ATuple fs) = bulk_fields fs
  bulk (ACode owes args) = owes + (arity args + bulk_types args)
  bulk (AExists t) = suc (bulk t)

  pub bulk_types : ATys → ℕ
  bulk_types NoATys = 0
  bulk_types (MoreATys t ts) = max (bulk t) (bulk_types ts)

  pub bulk_fields : AFields → ℕ
  bulk_fields NoAFields = 0
  bulk_fields (MoreAFields t f fs) = max (bulk t) (bulk_fields fs)

abbrev pub bulk_sum : ATys → ℕ
bulk_sum NoATys = 0
bulk_sum (MoreATys t ts) = bulk t + bulk_sum ts

-- of the types that a value is written with
abbrev pub value_weight : AVal → ℕ
value_weight (Apply v ts) = value_weight v + bulk_sum ts
value_weight (Pack h v s) = bulk h + (value_weight v + bulk s)
value_weight _ = 0

abbrev pub values_weight : List AVal → ℕ
values_weight [] = 0
values_weight (v ∷ vs) = value_weight v + values_weight vs

abbrev pub decl_weight : ADecl → ℕ
decl_weight (Value v) = 2 + value_weight v
decl_weight (Proj i v) = 2 + (i + value_weight v)
decl_weight (Arith o v w) = 2 + (value_weight v + value_weight w)
decl_weight (Unpack v) = 3 + value_weight v
decl_weight (Malloc ts) = 2 + bulk_types ts
decl_weight (Init v i w) = 2 + (i + (value_weight v + value_weight w))

abbrev pub weight : ATm → ℕ
weight (Let x e) = decl_weight x + weight e
weight (Call v ts vs) = 2 + (2 * length vs + (value_weight v + (bulk_types ts + values_weight vs)))
weight (If0 v a b) = 2 + (value_weight v + (weight a + weight b))
weight (Halt v) = 2 + value_weight v

-- the types of the labels have at most l, and with it each body is at most m
abbrev pub Blocks-fit : ℕ → ℕ → List ABlk → Type 0
Blocks-fit l m [] = Unit {0}
Blocks-fit l m (b ∷ bs) =
    ((b.owes + (arity b.args + bulk_types b.args) ≤ l) × (b.owes + (l + weight b.body) ≤ m)) × Blocks-fit l m bs

-- the types of data have at most l, and their values at most m
abbrev pub Data-fit : ℕ → ℕ → AConsts → Type 0
Data-fit l m [] = Unit {0}
Data-fit l m (c ∷ cs) = ((bulk c.kind ≤ l) × (value_weight c.value ≤ m)) × Data-fit l m cs

abbrev pub Tuples-fit : ℕ → ℕ → List AConsts → Type 0
Tuples-fit l m [] = Unit {0}
Tuples-fit l m (x ∷ xs) = Data-fit l m x × Tuples-fit l m xs

-- a program within the bound m
abbrev pub Fits-in : ℕ → AProg → ATm → Type 0
Fits-in m p main = (l : ℕ) × Blocks-fit l m p.blocks × Tuples-fit l m p.tuples × (l + weight main ≤ m)
