-- A worked program, with each form once.
use Rattle.std.proofs.Common.{◌≡◌, [], ◌∷◌, ◌++◌, pos, negsuc, codes, false, true, refl}
use Rattle.std.specs.Fmt.{digits}
use Rattle.idx_core.specs.declared.arith.Op.TheVariants.{Sub}
use Rattle.c_terms.specs.C.{CTy, MoreCTys, NoCTys, TCCode, TCInt, TCRef, TCExists, TCTuple, TCVar}
use Rattle.h_terms.specs.H.{HApply, HArith, HBlks, HCall, HCell, HGet, HHalt, HIf, HInt, HLabel, HLet, HName, HPack}
use Rattle.h_terms.specs.H.{HProj, HSet, HTm, HTuple, HUnpack, HVar, MoreHVals, NoHVals}
use Rattle.h_notation.specs.Notation.{h_text}

-- some b. <code[](b, a), b>, inside a
abbrev closure : CTy
closure = TCExists (TCTuple
    (MoreCTys (TCCode 0 (MoreCTys (TCVar 0) (MoreCTys (TCVar 1) NoCTys))) (MoreCTys (TCVar 0) NoCTys)))

-- a package of a tuple of the code and of an empty environment
abbrev body : HTm
body = HLet
    (HName (HPack (TCTuple NoCTys) (HTuple (MoreHVals (HApply (HLabel 0) (MoreCTys (TCVar 0) NoCTys))
    (MoreHVals (HTuple NoHVals) NoHVals))) closure))
    (HLet (HUnpack (HVar 0)) (HLet (HProj 1 (HVar 0))
    (HCall (HVar 0) NoCTys (MoreHVals (HVar 1) (MoreHVals (HVar 3) NoHVals)))))

abbrev main : HTm
main = HLet (HCell (HInt (negsuc 1))) (HLet (HGet (HVar 0)) (HLet (HSet (HVar 1) (HInt (pos 4)))
    (HIf (HVar 1) (HHalt (HInt (pos 0))) (HLet (HArith Sub (HVar 1) (HInt (pos 1)))
    (HIf (HVar 0) (HHalt (HVar 0)) (HCall (HLabel 0) (MoreCTys (TCRef TCInt) NoCTys) (MoreHVals (HVar 3) NoHVals)))))))

abbrev blocks : HBlks
blocks = record { owes = 1; args = MoreCTys (TCTuple NoCTys) (MoreCTys (TCVar 0) NoCTys); body = body } ∷ []

program_is : h_text false blocks main ≡
    codes "L0: code[a](x0: <>, x1: a).\n  let x2 = pack [<>, <L0[a], <>>] as closure[](a)\n"
    ++ (codes "  let [b, x3] = unpack x2\n  let x4 = #1 x3\n  x4[](x3, x1)\n\n"
    ++ (codes "main:\n  let x0 = ref ~2\n  let x1 = !x0\n  let x2 = x0 := 4\n  if0 x1 then\n    halt 0\n  else\n"
    ++ codes "    let x3 = x1 - 1\n    if0 x3 then\n      halt x3\n    else\n      L0[ref int](x0)\n"))
unfolding digits
program_is = refl

-- with types: that of an unpacked value may name its type name, and a cell that is set gives the empty tuple
typed_is : h_text true blocks main ≡
    codes "L0: code[a](x0: <>, x1: a).\n  let x2: closure[](a) = pack [<>, <L0[a], <>>] as closure[](a)\n"
    ++ (codes "  let [b, x3: <code[](b, a), b>] = unpack x2\n  let x4: code[](b, a) = #1 x3\n  x4[](x3, x1)\n\n"
    ++ (codes "main:\n  let x0: ref int = ref ~2\n  let x1: int = !x0\n  let x2: <> = x0 := 4\n  if0 x1 then\n"
    ++ (codes "    halt 0\n  else\n    let x3: int = x1 - 1\n    if0 x3 then\n      halt x3\n    else\n"
    ++ codes "      L0[ref int](x0)\n")))
unfolding digits
typed_is = refl
