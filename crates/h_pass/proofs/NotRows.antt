-- Programs that are the hoisted form of nothing typed: a label without a block, a variable out of scope, and labels out
-- of order.
use Rattle.std.proofs.Common.{◌≡◌, pos, [], ◌∷◌, arith, refl, subst, sym}
use Rattle.c_terms.specs.C.{CTm, MoreCTys, NoCTys, TCInt}
use Rattle.c_terms.specs.Typing.{CTyped}
use Rattle.h_terms.specs.H.{HBlks, HCall, HHalt, HInt, HLabel, HTm, HVar, MoreHVals, NoHVals}
use Rattle.h_pass.proofs.Clean.{Clean_t, clean_t}
use Rattle.h_pass.specs.Back.{IsHoisted, put_back}
use Rattle.h_pass.specs.Example.{both_labels, two_blocks}

-- halt L5, where there is no block
no_block : (closed : CTm) → IsHoisted [] (HHalt (HLabel 5)) closed → CTyped 0 [] closed → ⊥
no_block closed is good = (subst Clean_t (sym is.back) (clean_t 0 [] closed good)).0

-- in a block of one argument variable 1 is none, and not the block itself
abbrev itself : HBlks
itself =
    record { owes = 0; args = MoreCTys TCInt NoCTys; body = HCall (HVar 1) NoCTys (MoreHVals (HVar 0) NoHVals) } ∷ []

abbrev starts : HTm
starts = HCall (HLabel 0) NoCTys (MoreHVals (HInt (pos 1)) NoHVals)

not_itself : (closed : CTm) → IsHoisted itself starts closed → CTyped 0 [] closed → ⊥
not_itself closed is good = (subst Clean_t (sym is.back) (clean_t 0 [] closed good)).0.0.0

-- <L1, L0>, where the two blocks have one code: what it gives is what <L0, L1> gives, but the labels are out of order
same_code : put_back two_blocks (both_labels 1 0) ≡ put_back two_blocks (both_labels 0 1)
same_code = refl

out_of_order : (closed : CTm) → IsHoisted two_blocks (both_labels 1 0) closed → ⊥
out_of_order closed is = absurd (omega (arith, is.order.0.0.0))
