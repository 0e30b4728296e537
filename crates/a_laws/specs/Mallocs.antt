-- How many mallocs an allocated program has, and how many tuples, cells and assignments of a hoisted program ask for
-- one.
use Rattle.std.specs.Prelude.{◌≡◌, ℕ, suc, ◌+◌, List, [], ◌∷◌, Option, Some, None}
use Rattle.h_terms.specs.H.{HVal, HTuple, HApply, HPack, HVals, NoHVals, MoreHVals, HName, HProj}
use Rattle.h_terms.specs.H.{HArith, HUnpack, HCell, HGet, HSet, HTm, HLet, HCall, HIf, HHalt, HBlks}
use Rattle.a_terms.specs.Tree.{ATm, Let, Call, If0, Halt, Value, Proj, Arith, Unpack, Malloc, Init, ABlk, AProg}
use Rattle.a_laws.specs.Constants.{Constants, constant, of_args}
use Rattle.a_laws.specs.Stands.{Stands}

abbrev pub mallocs : ATm → ℕ
mallocs (Let (Value v) e) = mallocs e
mallocs (Let (Proj i v) e) = mallocs e
mallocs (Let (Arith op v w) e) = mallocs e
mallocs (Let (Unpack v) e) = mallocs e
mallocs (Let (Malloc ts) e) = suc (mallocs e)
mallocs (Let (Init v i w) e) = mallocs e
mallocs (Call v ts vs) = 0
mallocs (If0 v a b) = mallocs a + mallocs b
mallocs (Halt v) = 0

abbrev pub all_mallocs : List ABlk → ℕ
all_mallocs [] = 0
all_mallocs (b ∷ bs) = mallocs b.body + all_mallocs bs

-- a tuple that is no constant, and n more inside it; a constant has none
abbrev pub unless_constant : Option HVal → ℕ → ℕ
unless_constant None n = suc n
unless_constant (Some c) n = 0

-- how many tuples of a value are no constants, where the variables name the constants os
abbrev mutual
  pub tuples_made : Constants → HVal → ℕ
  tuples_made os (HTuple vs) = unless_constant (constant os (HTuple vs)) (all_made os vs)
  tuples_made os (HApply v ts) = tuples_made os v
  tuples_made os (HPack h v s) = tuples_made os v
  tuples_made os _ = 0

  pub all_made : Constants → HVals → ℕ
  all_made os NoHVals = 0
  all_made os (MoreHVals v vs) = tuples_made os v + all_made os vs

-- of a term: its tuples that are no constants, its cells, and the empty tuples that its assignments name
abbrev pub made_in : Constants → HTm → ℕ
made_in os (HLet (HName v) t) = tuples_made os v + made_in (constant os v ∷ os) t
made_in os (HLet (HProj i v) t) = tuples_made os v + made_in (None ∷ os) t
made_in os (HLet (HArith op v w) t) = tuples_made os v + tuples_made os w + made_in (None ∷ os) t
made_in os (HLet (HUnpack v) t) = tuples_made os v + made_in (None ∷ os) t
made_in os (HLet (HCell v) t) = suc (tuples_made os v + made_in (None ∷ os) t)
made_in os (HLet (HGet v) t) = tuples_made os v + made_in (None ∷ os) t
made_in os (HLet (HSet v w) t) = suc (tuples_made os v + tuples_made os w + made_in (None ∷ os) t)
made_in os (HCall f ts vs) = tuples_made os f + all_made os vs
made_in os (HIf v t u) = tuples_made os v + (made_in os t + made_in os u)
made_in os (HHalt v) = tuples_made os v

abbrev pub made_in_all : HBlks → ℕ
made_in_all [] = 0
made_in_all (k ∷ ks) = made_in (of_args k.args []) k.body + made_in_all ks

-- what stands for a program has one malloc for each of its tuples that are no constants, its cells and its assignments
abbrev pub MallocsAreAsked : Type 0
MallocsAreAsked =
    (p : AProg) (main : ATm) (ks : HBlks) (t : HTm) → Stands p main ks t →
    (all_mallocs p.blocks ≡ made_in_all ks) × (mallocs main ≡ made_in [] t)
