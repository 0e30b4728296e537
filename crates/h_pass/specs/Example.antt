-- A closed program with a code inside a code, a package and a cell, and its hoisted form; and one with a code twice.
use Rattle.std.specs.Prelude.{◌≡◌, pos, ℕ, List, [], ◌∷◌, ◌++◌}
use Rattle.c_terms.specs.declared.node.CNode.{CNode}
use Rattle.idx_core.specs.declared.arith.Op.TheVariants.{Sub}
use Rattle.c_terms.specs.C.{CArith, CCall, CCell, CCode, CGet, CHalt, CIf, CInt, CLet, CName, CPack, CProj, CTm, CTuple}
use Rattle.c_terms.specs.C.{CTy, CTys, CUnpack, CVal, CVar, MoreCTys, MoreCVals, NoCTys, NoCVals, TCCode, TCInt}
use Rattle.c_terms.specs.C.{TCExists}
use Rattle.c_terms.specs.C.{TCTuple, TCVar}
use Rattle.c_terms.specs.Read.{written}
use Rattle.c_terms.specs.Stream.{CNd}
use Rattle.h_terms.specs.H.{HArith, HBlk, HBlks, HCall, HCell, HGet, HHalt, HIf, HInt, HLabel, HLet, HName, HPack}
use Rattle.h_terms.specs.H.{HProj, HTm, HTuple, HUnpack, HVar, MoreHVals, NoHVals}

-- so many nodes are added
pub record Adds (old new : List CNode) (more : List CNd) : Type 0 where
  pub same : written new [] ≡ written old [] ++ more

abbrev pub one_integer : CTys
one_integer = MoreCTys TCInt NoCTys

-- ends with its argument
abbrev pub done : CVal
done = CCode 0 one_integer (CHalt (CVar 0))

-- counts down to zero by itself, and then goes on to the code inside
abbrev pub count_down : CVal
count_down =
    CCode 0 one_integer (CIf (CVar 0)
    (CCall done NoCTys (MoreCVals (CInt (pos 42)) NoCVals))
    (CLet (CArith Sub (CVar 0) (CInt (pos 1))) (CCall (CVar 2) NoCTys (MoreCVals (CVar 0) NoCVals))))

-- a code and its argument, whose type is hidden
abbrev pub hidden_pair : CTy
hidden_pair = TCExists (TCTuple (MoreCTys (TCCode 0 (MoreCTys (TCVar 0) NoCTys)) (MoreCTys (TCVar 0) NoCTys)))

abbrev pub call_it : CTm
call_it =
    CLet (CUnpack (CVar 0))
    (CLet (CProj 1 (CVar 0)) (CLet (CProj 2 (CVar 1)) (CCall (CVar 1) NoCTys (MoreCVals (CVar 0) NoCVals))))

abbrev pub example : CTm
example =
    CLet (CCell (CInt (pos 3))) (CLet (CGet (CVar 0))
    (CLet (CName (CPack TCInt (CTuple (MoreCVals count_down (MoreCVals (CVar 0) NoCVals))) hidden_pair)) call_it))

-- the block of the inner code
abbrev pub done_block : HBlk
done_block = record { owes = 0; args = one_integer; body = HHalt (HVar 0) }

-- the block of the outer code names itself by its label, and the inner code is the next block
abbrev pub example_blocks : HBlks
example_blocks =
    record {
      owes = 0;
      args = one_integer;
      body =
          HIf (HVar 0) (HCall (HLabel 1) NoCTys (MoreHVals (HInt (pos 42)) NoHVals))
          (HLet (HArith Sub (HVar 0) (HInt (pos 1))) (HCall (HLabel 0) NoCTys (MoreHVals (HVar 0) NoHVals)));
    }
    ∷ done_block ∷ []

abbrev pub example_main : HTm
example_main =
    HLet (HCell (HInt (pos 3))) (HLet (HGet (HVar 0))
    (HLet (HName (HPack TCInt (HTuple (MoreHVals (HLabel 0) (MoreHVals (HVar 0) NoHVals))) hidden_pair))
    (HLet (HUnpack (HVar 0))
    (HLet (HProj 1 (HVar 0))
    (HLet (HProj 2 (HVar 1)) (HCall (HVar 1) NoCTys (MoreHVals (HVar 0) NoHVals)))))))

-- one code twice, in a tuple, and two blocks that are the same
abbrev pub both_done : CTm
both_done = CLet (CName (CTuple (MoreCVals done (MoreCVals done NoCVals)))) (CHalt (CInt (pos 0)))

abbrev pub two_blocks : HBlks
two_blocks = done_block ∷ done_block ∷ []

abbrev pub both_labels : ℕ → ℕ → HTm
both_labels i j = HLet (HName (HTuple (MoreHVals (HLabel i) (MoreHVals (HLabel j) NoHVals)))) (HHalt (HInt (pos 0)))
