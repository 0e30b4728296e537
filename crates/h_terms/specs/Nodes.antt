-- The trees of nodes: values of a node are read with a stack whose end is its top, terms from the last node to the
-- first.
use Rattle.std.specs.Prelude.{◌≡◌, pos, ℕ, zero, suc, ◌-◌, List, [], ◌∷◌, ◌++◌, length, take, drop}
use Rattle.h_terms.specs.declared.node.HPart.{HPart}
use Rattle.h_terms.specs.declared.node.HPart.TheVariants.{Var, Int, Label, Tuple, Apply, Pack}
use Rattle.h_terms.specs.declared.node.HForm.{HForm}
use Rattle.h_terms.specs.declared.node.HForm.TheVariants.{Name, Proj, Arith, Unpack, Cell, Get, Set, Call, If0, Halt}
use Rattle.h_terms.specs.declared.node.HNode.{HNode}
use Rattle.h_terms.specs.declared.node.HBlock.{HBlock}
use Rattle.calc_core.specs.Ends.{lift}
use Rattle.c_terms.specs.Read.{ctree, ctys}
use Rattle.h_terms.specs.H.{HApply, HArith, HBlk, HCall, HCell, HGet, HHalt, HIf, HInt, HLabel, HLet, HName, HPack}
use Rattle.h_terms.specs.H.{HProj, HSet, HTm, HTuple, HUnpack, HVal, HVals, HVar, MoreHVals, NoHVals}
use Rattle.calc_core.specs.Row.{IsOne, IsSome, IsTwo, others, top}

-- values in a row
abbrev pub tied : List HVal → HVals
tied [] = NoHVals
tied (v ∷ vs) = MoreHVals v (tied vs)

-- the last one is changed
abbrev pub at_last : {T : Type 0} → (T → T) → List T → List T
at_last f [] = []
at_last f (v ∷ []) = f v ∷ []
at_last f (v ∷ w ∷ vs) = v ∷ at_last f (w ∷ vs)

-- the last n become a tuple
abbrev pub tupled : ℕ → List HVal → List HVal
tupled n vs = take (length vs - n) vs ++ HTuple (tied (drop (length vs - n) vs)) ∷ []

-- one more part after values, of which the last is the newest
abbrev pub more : HPart → List HVal → List HVal
more (Var i) vs = vs ++ HVar i ∷ []
more (Int n) vs = vs ++ HInt n ∷ []
more (Label l) vs = vs ++ HLabel l ∷ []
more (Tuple n) vs = tupled n vs
more (Apply ts) vs = at_last (λ v. HApply v (ctys ts.items)) vs
more (Pack h s) vs = at_last (λ v. HPack (ctree h) v (ctree s)) vs

-- parts after values
abbrev pub reads : List HVal → List HPart → List HVal
reads vs [] = vs
reads vs (p ∷ ps) = reads (more p vs) ps

-- the values of a node
abbrev pub values : HNode → List HVal
values n = reads [] n.values.items

-- what stands for a value, and for a term, where there is none
abbrev pub no_value : HVal
no_value = HInt (pos 0)

abbrev pub no_term : HTm
no_term = HHalt no_value

-- one more node before the terms that follow it
abbrev pub h_build : HForm → List HVal → List HTm → List HTm
h_build Name vs ts = HLet (HName (top no_value vs)) (top no_term ts) ∷ others ts
h_build (Proj i) vs ts = HLet (HProj i (top no_value vs)) (top no_term ts) ∷ others ts
h_build (Arith o) vs ts = HLet (HArith o (top no_value vs) (top no_value (others vs))) (top no_term ts) ∷ others ts
h_build Unpack vs ts = HLet (HUnpack (top no_value vs)) (top no_term ts) ∷ others ts
h_build Cell vs ts = HLet (HCell (top no_value vs)) (top no_term ts) ∷ others ts
h_build Get vs ts = HLet (HGet (top no_value vs)) (top no_term ts) ∷ others ts
h_build Set vs ts = HLet (HSet (top no_value vs) (top no_value (others vs))) (top no_term ts) ∷ others ts
h_build (Call us) vs ts = HCall (top no_value vs) (ctys us.items) (tied (others vs)) ∷ ts
h_build If0 vs ts = HIf (top no_value vs) (top no_term ts) (top no_term (others ts)) ∷ others (others ts)
h_build Halt vs ts = HHalt (top no_value vs) ∷ ts

-- the terms of nodes
abbrev pub h_terms : List HNode → List HTm
h_terms [] = []
h_terms (n ∷ ns) = h_build n.form (values n) (h_terms ns)

-- the tree of a term
abbrev pub h_tree : List HNode → HTm
h_tree ns = top no_term (h_terms ns)

-- how many terms follow a node
abbrev pub h_kids : HForm → ℕ
h_kids Name = 1
h_kids (Proj i) = 1
h_kids (Arith o) = 1
h_kids Unpack = 1
h_kids Cell = 1
h_kids Get = 1
h_kids Set = 1
h_kids (Call us) = 0
h_kids If0 = 2
h_kids Halt = 0

-- a node has as many values as its form takes
abbrev pub HArity : HForm → List HVal → Type 0
HArity Name vs = IsOne vs
HArity (Proj i) vs = IsOne vs
HArity (Arith o) vs = IsTwo vs
HArity Unpack vs = IsOne vs
HArity Cell vs = IsOne vs
HArity Get vs = IsOne vs
HArity Set vs = IsTwo vs
HArity (Call us) vs = IsSome vs
HArity If0 vs = IsOne vs
HArity Halt vs = IsOne vs

-- these are the nodes of exactly n terms
abbrev pub HRow : List HNode → ℕ → Type 0
HRow [] n = n ≡ 0
HRow (x ∷ xs) zero = ⊥
HRow (x ∷ xs) (suc n) = HArity x.form (values x) × HRow xs (lift (h_kids x.form) n)

-- blocks of nodes as blocks of trees
abbrev pub h_block : HBlock → HBlk
h_block k = record { owes = k.owes; args = ctys k.args.items; body = h_tree k.body.items }

abbrev pub h_blocks : List HBlock → List HBlk
h_blocks [] = []
h_blocks (k ∷ ks) = h_block k ∷ h_blocks ks

-- the body of each block is the nodes of one term
abbrev pub HRows : List HBlock → Type 0
HRows [] = Unit {0}
HRows (k ∷ ks) = HRow k.body.items 1 × HRows ks
