-- Worked types and a worked program.
use Rattle.std.proofs.Common.{◌≡◌, ◌++◌, pos, negsuc, codes, false, true, refl}
use Rattle.std.specs.Fmt.{digits}
use Rattle.idx_core.specs.declared.arith.Op.TheVariants.{Mul}
use Rattle.c_terms.specs.C.{CTy, CTys, TCInt, TCVar, TCTuple, TCCode, TCExists, TCRef, NoCTys, MoreCTys, CVar, CInt}
use Rattle.c_terms.specs.C.{CTuple}
use Rattle.c_terms.specs.C.{CCode, CApply, CPack, CVals, NoCVals, MoreCVals, CVal, CName, CProj, CArith, CUnpack, CCell}
use Rattle.c_terms.specs.C.{CGet, CSet, CTm, CLet, CCall, CIf, CHalt}
use Rattle.let_types.specs.TypeTexts.{type_text}
use Rattle.kc_notation.specs.Notation.{c_text}

abbrev one : CTy → CTys
one t = MoreCTys t NoCTys

abbrev two : CTy → CTy → CTys
two t u = MoreCTys t (one u)

-- `some` of a code that takes these and of the variable that it hides
abbrev hides : CTys → CTy
hides args = TCExists (TCTuple (two (TCCode 0 args) (TCVar 0)))

closure_of_one : type_text 0 (hides (two (TCVar 0) TCInt)) ≡ codes "closure[](int)"
closure_of_one = refl

closure_of_none : type_text 0 (hides (one (TCVar 0))) ≡ codes "closure[]()"
closure_of_none = refl

-- the hidden type takes a name, and so does each inside
closure_of_closure : type_text 0 (TCExists (TCTuple (two (TCCode 1 (two (TCVar 1) (hides (two (TCVar 0) (TCVar 1)))))
    (TCVar 0)))) ≡
    codes "closure[b](closure[](b))"
closure_of_closure = refl

-- what is hidden is named by another argument too, is not the first, or does not stand beside the code
named_elsewhere : type_text 0 (hides (two (TCVar 0) (TCVar 0))) ≡ codes "some a. <code[](a, a), a>"
named_elsewhere = refl

named_inside : type_text 0 (hides (two (TCVar 0) (TCRef (TCTuple (one (TCVar 0))))))
    ≡ codes "some a. <code[](a, ref <a>), a>"
named_inside = refl

named_second : type_text 0 (hides (two TCInt (TCVar 0))) ≡ codes "some a. <code[](int, a), a>"
named_second = refl

no_environment : type_text 1 (TCExists (TCTuple (two (TCCode 0 (one (TCVar 0))) (TCVar 1))))
    ≡ codes "some b. <code[](b), a>"
no_environment = refl

three_fields : type_text 0 (TCExists (TCTuple (MoreCTys (TCCode 0 (one (TCVar 0))) (two (TCVar 0) TCInt)))) ≡
    codes "some a. <code[](a), a, int>"
three_fields = refl

code_of_two : type_text 0 (TCCode 2 (two (TCVar 0) (TCRef (TCVar 1)))) ≡ codes "code[a, b](b, ref a)"
code_of_two = refl

abbrev pair : CVal → CVal → CVals
pair v w = MoreCVals v (MoreCVals w NoCVals)

-- a code that takes two types, applied to one, and called with the other
abbrev branch : CTm
branch =
    CCall (CApply (CCode 2 (two (TCVar 1) (TCVar 0)) (CHalt (CVar 0))) (one (TCVar 0))) (one TCInt)
    (pair (CVar 0) (CInt (pos 7)))

-- each form once
abbrev forms : CTm
forms =
    CLet (CName (CInt (pos 5))) (CLet (CCell (CVar 0)) (CLet (CGet (CVar 0)) (CLet (CArith Mul (CVar 0) (CInt (negsuc
    2)))
    (CLet (CSet (CVar 2) (CVar 0)) (CLet (CName (CTuple (pair (CVar 4) (CVar 3)))) (CLet (CProj 2 (CVar 0))
    (CLet (CName (CPack TCInt (CTuple (MoreCVals (CVar 6) NoCVals)) (TCExists (TCTuple (one (TCVar 0))))))
    (CLet (CUnpack (CVar 0)) (CIf (CVar 8) branch (CHalt (CVar 5)))))))))))

forms_text : c_text false forms ≡
    codes "let x0 = 5\nlet x1 = ref x0\nlet x2 = !x1\nlet x3 = x2 * ~3\nlet x4 = x1 := x3\nlet x5 = <x0, x1>\n"
    ++ codes "let x6 = #2 x5\nlet x7 = pack [int, <x0>] as some a. <a>\nlet [a, x8] = unpack x7\nif0 x0 then\n"
    ++ codes "  code x0[a, b](x1: a, x2: b) {\n    halt x2\n  }[a][int](x8, 7)\nelse\n  halt x3\n"
unfolding digits
forms_text = refl

-- a value that is applied to no types is written as it is
applied_to_none : c_text false (CHalt (CApply (CInt (pos 1)) NoCTys)) ≡ codes "halt 1\n"
unfolding digits
applied_to_none = refl

-- with types: a cell that is set gives the empty tuple, and an unpacked value's type names its type name
typed_text : c_text true forms ≡
    codes "let x0: int = 5\nlet x1: ref int = ref x0\nlet x2: int = !x1\nlet x3: int = x2 * ~3\n"
    ++ (codes "let x4: <> = x1 := x3\nlet x5: <int, ref int> = <x0, x1>\nlet x6: ref int = #2 x5\n"
    ++ (codes "let x7: some a. <a> = pack [int, <x0>] as some a. <a>\nlet [a, x8: <a>] = unpack x7\nif0 x0 then\n"
    ++ codes "  code x0[a, b](x1: a, x2: b) {\n    halt x2\n  }[a][int](x8, 7)\nelse\n  halt x3\n"))
unfolding digits
typed_text = refl

-- names begin anew in a code: a code that calls itself, applied to a type, and a type that is shown under one more name
abbrev again : CTm
again =
    CLet (CName (CCode 1 (two (TCVar 0) (TCExists (TCVar 0))) (CLet (CUnpack (CVar 0)) (CLet (CName (CApply (CVar 3)
    (one (TCVar 0)))) (CCall (CVar 0) NoCTys (pair (CVar 1) (CVar 2)))))))
    (CHalt (CInt (pos 0)))

again_text : c_text true again ≡
    codes "let x0: code[a](a, some b. b) = code x0[a](x1: a, x2: some b. b) {\n"
    ++ (codes "  let [b, x3: b] = unpack x2\n  let x4: code[](b, some c. c) = x0[b]\n  x4[](x3, x2)\n}\n"
    ++ codes "halt 0\n")
unfolding digits
again_text = refl
