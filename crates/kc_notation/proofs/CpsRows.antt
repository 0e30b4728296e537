-- A term with every form, and one with type names beyond the letters.
use Rattle.std.proofs.Common.{◌≡◌, ◌++◌, pos, negsuc, codes, false, true, refl}
use Rattle.std.specs.Fmt.{digits}
use Rattle.idx_core.specs.declared.arith.Op.TheVariants.{Mul}
use Rattle.k_terms.specs.K.{TKInt, TKVar, TKTuple, TKCode, TKExists, TKRef, NoKTys, MoreKTys, KVar, KInt, KTuple, KCode}
use Rattle.k_terms.specs.K.{NoKVals, MoreKVals, KName, KProj, KArith, KPack, KUnpack, KCell, KGet, KSet, KTm, KLet}
use Rattle.k_terms.specs.K.{KCall, KIf, KHalt}
use Rattle.kc_notation.specs.CpsNotation.{type_text}
use Rattle.kc_notation.specs.Notation.{k_text}

-- a code of a type a, that calls the second of its arguments with -3
abbrev of_two : KTm → KTm
of_two t = KLet (KName (KCode 1 (MoreKTys (TKVar 0) (MoreKTys (TKCode 0 (MoreKTys TKInt NoKTys)) NoKTys))
    (KCall (KVar 0) NoKTys (MoreKVals (KInt (negsuc 2)) NoKVals)))) t

abbrev with_package : KTm → KTm
with_package t = KLet (KPack TKInt (KTuple (MoreKVals (KVar 0) (MoreKVals (KInt (pos 1)) NoKVals)))
    (TKExists (TKTuple (MoreKTys (TKVar 0) (MoreKTys (TKRef TKInt) NoKTys)))))
    (KLet (KUnpack (KVar 0)) (KLet (KProj 1 (KVar 0)) t))

abbrev branches : KTm
branches = KIf (KVar 0)
    (KCall (KVar 6) (MoreKTys (TKVar 0) NoKTys)
    (MoreKVals (KVar 0) (MoreKVals (KCode 0 (MoreKTys TKInt NoKTys) (KHalt (KVar 0))) NoKVals)))
    (KHalt (KInt (pos 0)))

abbrev program : KTm
program = KLet (KCell (KInt (pos 5))) (of_two (KLet (KSet (KVar 1) (KVar 1)) (KLet (KGet (KVar 2))
    (KLet (KArith Mul (KVar 0) (KInt (pos 2))) (with_package branches)))))

every_form : k_text false program ≡
    codes "let x0 = ref 5\n"
    ++ codes "let x1 = code x1[a](x2: a, x3: code[](int)) {\n"
    ++ codes "  x3[](~3)\n"
    ++ codes "}\n"
    ++ codes "let x2 = x0 := x0\n"
    ++ codes "let x3 = !x0\n"
    ++ codes "let x4 = x3 * 2\n"
    ++ codes "let x5 = pack [int, <x4, 1>] as some a. <a, ref int>\n"
    ++ codes "let [a, x6] = unpack x5\n"
    ++ codes "let x7 = #1 x6\n"
    ++ codes "if0 x7 then\n"
    ++ codes "  x1[a](x7, code x8[](x9: int) {\n"
    ++ codes "    halt x9\n"
    ++ codes "  })\n"
    ++ codes "else\n"
    ++ codes "  halt 0\n"
unfolding digits
every_form = refl

-- with types: that of an unpacked value may name its type name, and a cell that is set gives the empty tuple
typed_is : k_text true program ≡
    codes "let x0: ref int = ref 5\n"
    ++ codes "let x1: code[a](a, code[](int)) = code x1[a](x2: a, x3: code[](int)) {\n"
    ++ codes "  x3[](~3)\n"
    ++ codes "}\n"
    ++ codes "let x2: <> = x0 := x0\n"
    ++ codes "let x3: int = !x0\n"
    ++ codes "let x4: int = x3 * 2\n"
    ++ codes "let x5: some a. <a, ref int> = pack [int, <x4, 1>] as some a. <a, ref int>\n"
    ++ codes "let [a, x6: <a, ref int>] = unpack x5\n"
    ++ codes "let x7: a = #1 x6\n"
    ++ codes "if0 x7 then\n"
    ++ codes "  x1[a](x7, code x8[](x9: int) {\n"
    ++ codes "    halt x9\n"
    ++ codes "  })\n"
    ++ codes "else\n"
    ++ codes "  halt 0\n"
unfolding digits
typed_is = refl

beyond_letters : type_text 25 (TKExists (TKCode 1 (MoreKTys (TKVar 2) (MoreKTys (TKVar 1)
    (MoreKTys (TKVar 0) NoKTys)))))
    ≡ codes "some z. code[a1](y, z, a1)"
unfolding digits
beyond_letters = refl
