-- Worked rows.
use Rattle.std.proofs.Common.{◌≡◌, refl, pos, List, [], ◌∷◌}
use Rattle.h_terms.specs.declared.node.HPart.TheVariants as P
use Rattle.h_terms.specs.declared.node.HForm.TheVariants as F
use Rattle.calc_core.specs.Ends.{Halted, Spent, Stuck}
use Rattle.c_terms.specs.C.{MoreCTys, NoCTys, TCInt}
use Rattle.h_terms.specs.H.{HBlks, HCall, HCell, HGet, HHalt, HIf, HInt, HLabel, HLet, HName, HSet, HTm, HTuple, HVal}
use Rattle.h_terms.specs.H.{HVar, MoreHVals, NoHVals}
use Rattle.h_terms.specs.Meaning.{hrun}
use Rattle.h_terms.specs.Nodes.{h_build, reads, tied}
use Rattle.h_terms.specs.Typing.{HProgramGood}

-- parts stand after what they are made of: a tuple takes the last values, the first of them first
a_pair : reads [] (P.Var 1 ∷ P.Int (pos 3) ∷ P.Tuple 2 ∷ [])
    ≡ HTuple (MoreHVals (HVar 1) (MoreHVals (HInt (pos 3)) NoHVals)) ∷ []
a_pair = refl

-- what stands before stays
beside_it : reads [] (P.Label 0 ∷ P.Var 1 ∷ P.Tuple 1 ∷ []) ≡ HLabel 0 ∷ HTuple (MoreHVals (HVar 1) NoHVals) ∷ []
beside_it = refl

-- a declaration stands before the term that follows it, and a test before its two terms, the one for zero first
named_first : (v : HVal) (t : HTm) → h_build F.Name (v ∷ []) (t ∷ []) ≡ HLet (HName v) t ∷ []
named_first v t = refl

zero_first : (v : HVal) (t u : HTm) (rest : List HTm) → h_build F.If0 (v ∷ []) (t ∷ u ∷ rest) ≡ HIf v t u ∷ rest
zero_first v t u rest = refl

-- the first value of a call is the code
code_first : (v w : HVal) → tied (v ∷ w ∷ []) ≡ MoreHVals v (MoreHVals w NoHVals)
code_first v w = refl

-- a block that calls itself, and halts where its argument is zero
loops : HBlks
loops = record {
  owes = 0;
  args = MoreCTys TCInt NoCTys;
  body = HIf (HVar 0) (HHalt (HInt (pos 7))) (HCall (HLabel 0) NoCTys (MoreHVals (HInt (pos 0)) NoHVals));
} ∷ []

calls : HVal → HTm
calls v = HCall (HLabel 0) NoCTys (MoreHVals v NoHVals)

halts_at_once : hrun 1 loops (calls (HInt (pos 0))) ≡ record { end = Halted (pos 7); entered = 0 ∷ [] }
unfolding calls loops
halts_at_once = refl

calls_itself : hrun 2 loops (calls (HInt (pos 5))) ≡ record { end = Halted (pos 7); entered = 0 ∷ 0 ∷ [] }
unfolding calls loops
calls_itself = refl

one_is_too_few : (hrun 1 loops (calls (HInt (pos 5)))).end ≡ Spent
unfolding calls loops
one_is_too_few = refl

-- a call of no block, and one with too few arguments, are stuck, even where no call is left
no_block : (hrun 0 loops (HCall (HLabel 1) NoCTys (MoreHVals (HInt (pos 0)) NoHVals))).end ≡ Stuck
unfolding loops
no_block = refl

too_few : (hrun 0 loops (HCall (HLabel 0) NoCTys NoHVals)).end ≡ Stuck
unfolding loops
too_few = refl

-- a cell holds what was put last
set_cell : HTm
set_cell = HLet (HCell (HInt (pos 1))) (HLet (HSet (HVar 0) (HInt (pos 2))) (HLet (HGet (HVar 1)) (HHalt (HVar 0))))

holds_the_last : (hrun 0 [] set_cell).end ≡ Halted (pos 2)
unfolding set_cell
holds_the_last = refl

it_is_typed : HProgramGood [] set_cell
unfolding set_cell
it_is_typed = (tt, (_, (TCInt, refl, refl), (_, (TCInt, refl, refl, refl), (_, refl, refl))))
