-- The tuples of an allocated program and its data put back into its values, and the flags of its types dropped: the
-- hoisted program that it stands for, where no cell stands in that and a variable in a tuple of constants counts as the
-- constant that it names.
use Rattle.std.specs.Prelude.{pos, ◌≡◌, ℕ, zero, suc, List, [], ◌∷◌}
use Rattle.a_laws.specs.Constants.{Plain_all, Plain_t, settle_all, settle_t, tuples_in}
use Rattle.a_laws.specs.Stands.{Shown, Stands, named}
use Rattle.a_terms.specs.Tree.{ABlk, AConsts, AProg, ACode, AExists, AFields, AInt, ATm, ATuple, ATy, ATys, AVal, AVar}
use Rattle.a_terms.specs.Tree.{Apply, Arith, Call, Data, Halt, If0, Init, Lab, Let, Malloc, MoreAFields, MoreATys}
use Rattle.a_terms.specs.Tree.{NoAFields, NoATys, Num, Pack, Proj, Unpack, Value, Var}
use Rattle.c_terms.specs.C.{CTy, CTys, MoreCTys, NoCTys, TCCode, TCInt, TCRef, TCExists, TCTuple, TCVar}
use Rattle.h_terms.specs.H.{HApply, HArith, HBlk, HBlks, HCall, HDecl, HHalt, HIf, HInt, HLabel, HLet}
use Rattle.h_terms.specs.H.{HName, HPack, HProj, HTm, HTuple, HUnpack, HVal, HVals, HVar, MoreHVals, NoHVals}

-- a type without its flags
abbrev mutual
  pub drop : ATy → CTy
  drop AInt = TCInt
  drop (AVar i) = TCVar i
  drop (ATuple fs) = TCTuple (drop_fields fs)
  drop (ACode n ts) = TCCode n (drops ts)
  drop (AExists t) = TCExists (drop t)

  pub drops : ATys → CTys
  drops NoATys = NoCTys
  drops (MoreATys t ts) = MoreCTys (drop t) (drops ts)

  pub drop_fields : AFields → CTys
  drop_fields NoAFields = NoCTys
  drop_fields (MoreAFields t f fs) = MoreCTys (drop t) (drop_fields fs)

abbrev pub nothing : Shown
nothing k = HInt (pos 0)

abbrev pub shown_at : List Shown → ℕ → Shown
shown_at [] i = nothing
shown_at (f ∷ fs) zero = f
shown_at (f ∷ fs) (suc i) = shown_at fs i

abbrev pub add_last : HVals → HVal → HVals
add_last NoHVals w = MoreHVals w NoHVals
add_last (MoreHVals v vs) w = MoreHVals v (add_last vs w)

-- the next field
abbrev pub add_field : HVal → HVal → HVal
add_field (HVar i) w = HVar i
add_field (HInt n) w = HInt n
add_field (HLabel l) w = HLabel l
add_field (HTuple vs) w = HTuple (add_last vs w)
add_field (HApply v ts) w = HApply v ts
add_field (HPack h v s) w = HPack h v s

-- what a data tuple stands for; any value where there is none
abbrev pub held_by : List HVal → ℕ → HVal
held_by [] n = HInt (pos 0)
held_by (w ∷ ws) zero = w
held_by (w ∷ ws) (suc n) = held_by ws n

-- a value with its variables put back, and its data, which stand for ds
abbrev pub back_v : List HVal → List Shown → ℕ → AVal → HVal
back_v ds env k (Var i) = shown_at env i k
back_v ds env k (Num n) = HInt n
back_v ds env k (Lab l) = HLabel l
back_v ds env k (Data n) = held_by ds n
back_v ds env k (Apply v ts) = HApply (back_v ds env k v) (drops ts)
back_v ds env k (Pack h v s) = HPack (drop h) (back_v ds env k v) (drop s)

abbrev pub back_vs : List HVal → List Shown → ℕ → List AVal → HVals
back_vs ds env k [] = NoHVals
back_vs ds env k (v ∷ vs) = MoreHVals (back_v ds env k v) (back_vs ds env k vs)

-- a data tuple, in which no variable stands
abbrev pub back_fields : List HVal → AConsts → HVals
back_fields ds [] = NoHVals
back_fields ds (c ∷ cs) = MoreHVals (back_v ds [] 0 c.value) (back_fields ds cs)

abbrev pub back_data : List HVal → List AConsts → List HVal
back_data ds [] = []
back_data ds (x ∷ xs) = HTuple (back_fields ds x) ∷ back_data ds xs

-- a malloc names the tuple of no fields, and an initialisation the tuple with one field more; neither is a
-- declaration of the hoisted term
abbrev pub back_t : List HVal → List Shown → ℕ → ATm → HTm
back_t ds env k (Let (Value v) e) = HLet (HName (back_v ds env k v)) (back_t ds (named k ∷ env) (suc k) e)
back_t ds env k (Let (Proj i v) e) = HLet (HProj i (back_v ds env k v)) (back_t ds (named k ∷ env) (suc k) e)
back_t ds env k (Let (Arith op v w) e) =
    HLet (HArith op (back_v ds env k v) (back_v ds env k w)) (back_t ds (named k ∷ env) (suc k) e)
back_t ds env k (Let (Unpack v) e) = HLet (HUnpack (back_v ds env k v)) (back_t ds (named k ∷ env) (suc k) e)
back_t ds env k (Let (Malloc ts) e) = back_t ds ((λ m. HTuple NoHVals) ∷ env) k e
back_t ds env k (Let (Init v i w) e) =
    back_t ds ((λ m. add_field (back_v ds env m v) (back_v ds env m w)) ∷ env) k e
back_t ds env k (Call v ts vs) = HCall (back_v ds env k v) (drops ts) (back_vs ds env k vs)
back_t ds env k (If0 v a b) = HIf (back_v ds env k v) (back_t ds env k a) (back_t ds env k b)
back_t ds env k (Halt v) = HHalt (back_v ds env k v)

abbrev pub arg_names : ℕ → List Shown → ATys → List Shown
arg_names k env NoATys = env
arg_names k env (MoreATys t ts) = arg_names (suc k) (named k ∷ env) ts

abbrev pub arg_count : ℕ → ATys → ℕ
arg_count k NoATys = k
arg_count k (MoreATys t ts) = arg_count (suc k) ts

abbrev pub back_block : List HVal → ABlk → HBlk
back_block ds b =
    record { owes = b.owes; args = drops b.args; body = back_t ds (arg_names 0 [] b.args) (arg_count 0 b.args) b.body }

abbrev pub back_all : List HVal → List ABlk → HBlks
back_all ds [] = []
back_all ds (b ∷ bs) = back_block ds b ∷ back_all ds bs

-- no reference in a type
abbrev mutual
  pub NoRef : CTy → Type 0
  NoRef TCInt = Unit {0}
  NoRef (TCVar i) = Unit {0}
  NoRef (TCTuple ts) = NoRefs ts
  NoRef (TCCode n ts) = NoRefs ts
  NoRef (TCExists t) = NoRef t
  NoRef (TCRef t) = ⊥

  pub NoRefs : CTys → Type 0
  NoRefs NoCTys = Unit {0}
  NoRefs (MoreCTys t ts) = NoRef t × NoRefs ts

-- no cell in a term, and no reference in the types that are written in it
abbrev mutual
  pub NoCell_v : HVal → Type 0
  NoCell_v (HTuple vs) = NoCell_vs vs
  NoCell_v (HApply v ts) = NoCell_v v × NoRefs ts
  NoCell_v (HPack h v s) = NoRef h × NoCell_v v × NoRef s
  NoCell_v _ = Unit {0}

  pub NoCell_vs : HVals → Type 0
  NoCell_vs NoHVals = Unit {0}
  NoCell_vs (MoreHVals v vs) = NoCell_v v × NoCell_vs vs

abbrev pub NoCell_d : HDecl → Type 0
NoCell_d (HName v) = NoCell_v v
NoCell_d (HProj i v) = NoCell_v v
NoCell_d (HArith op v w) = NoCell_v v × NoCell_v w
NoCell_d (HUnpack v) = NoCell_v v
NoCell_d _ = ⊥

abbrev pub NoCell_t : HTm → Type 0
NoCell_t (HLet e t) = NoCell_d e × NoCell_t t
NoCell_t (HCall f ts vs) = NoCell_v f × NoRefs ts × NoCell_vs vs
NoCell_t (HIf v t u) = NoCell_v v × NoCell_t t × NoCell_t u
NoCell_t (HHalt v) = NoCell_v v

abbrev pub NoCells : HBlks → Type 0
NoCells [] = Unit {0}
NoCells (k ∷ ks) = (NoRefs k.args × NoCell_t k.body) × NoCells ks

-- what stands for a program with no cell: each data tuple put back, in which data name each other, is the tuple of
-- constants that it stands for; and the tuples put back, data too, and the flags dropped, give that program with the
-- variables in its tuples of constants written out
abbrev pub PutsBack : Type 0
PutsBack =
    (p : AProg) (main : ATm) (ks : HBlks) (t : HTm) → Stands p main ks t → NoCells ks → NoCell_t t →
    (back_data (tuples_in ks t) p.tuples ≡ tuples_in ks t) × (back_all (tuples_in ks t) p.blocks ≡ settle_all ks)
    × (back_t (tuples_in ks t) [] 0 main ≡ settle_t [] t)

-- and that is the program itself, if its tuples of constants hold no variables
abbrev pub Settled : Type 0
Settled = (ks : HBlks) (t : HTm) → Plain_all ks → Plain_t [] t → (settle_all ks ≡ ks) × (settle_t [] t ≡ t)
