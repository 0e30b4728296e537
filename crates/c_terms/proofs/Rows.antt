-- Worked rows of the closed calculus.
use Rattle.std.proofs.Common.{◌≡◌, pos, [], ◌∷◌, refl, arith}
use Rattle.std.specs.Int.{int_wrap}
use Rattle.idx_core.specs.declared.arith.Op.TheVariants.{Add}
use Rattle.calc_core.specs.Ends.{Halted, Spent, Stuck}
use Rattle.c_terms.specs.C.{CTy, CTys, TCInt, TCVar, TCTuple, TCCode, TCExists, NoCTys, MoreCTys, CVal, CVar, CInt}
use Rattle.c_terms.specs.C.{CTuple, CCode, CApply, CPack, NoCVals, MoreCVals, CName, CProj, CArith, CUnpack, CCell}
use Rattle.c_terms.specs.C.{CGet, CSet, CTm, CLet, CCall, CHalt}
use Rattle.c_terms.specs.Meaning.{crun}
use Rattle.c_terms.specs.Typing.{CTyped}
use Rattle.c_terms.specs.Reach.{creach, cbinds}
use Rattle.c_terms.specs.Stream.{MVar, MInt, MTuple, MCode, MEnd, MArith, MCall, MHalt, clin_t}
use Rattle.c_terms.specs.Decode.{cdecode}
use Rattle.calc_core.specs.Walks.{put, shift}

abbrev one_integer : CTys
one_integer = MoreCTys TCInt NoCTys

-- code(x: int). y = x + 1; halt y
abbrev next : CVal
next = CCode 0 one_integer (CLet (CArith Add (CVar 0) (CInt (pos 1))) (CHalt (CVar 0)))

abbrev of_four : CTm
of_four = CCall next NoCTys (MoreCVals (CInt (pos 4)) NoCVals)

-- one call is needed
of_four_halts : crun 1 of_four ≡ record { end = Halted (pos 5); entered = 0 ∷ [] }
unfolding int_wrap
of_four_halts = refl

of_four_is_spent : crun 0 of_four ≡ record { end = Spent; entered = [] }
of_four_is_spent = refl

of_four_typed : CTyped 0 [] of_four
of_four_typed = (_, (refl, (tt, tt), (_, (refl, refl, refl), refl)), tt, (_, _, refl, refl, refl))

-- in its body a code sees its arguments and itself, 0 being its last argument, and nothing around it
sees_nothing_around : CTyped 0 []
    (CLet (CName (CInt (pos 1)))
    (CCall (CCode 0 one_integer (CHalt (CVar 2))) NoCTys (MoreCVals (CInt (pos 4)) NoCVals))) → ⊥
sees_nothing_around h = h.2.1.2

-- a code's types have no free type variable
no_free_type : CTyped 1 (TCVar 0 ∷ [])
    (CCall (CCode 0 (MoreCTys (TCVar 0) NoCTys) (CHalt (CInt (pos 0)))) NoCTys (MoreCVals (CVar 0) NoCVals)) → ⊥
no_free_type h = omega (arith, h.1.1.0)

-- a pack hides a type, and an unpack names it: a, y = unpack pack[int, 2] as some a. a; halt 1
abbrev opened : CVal → CTm
opened result = CLet (CUnpack (CPack TCInt (CInt (pos 2)) (TCExists (TCVar 0)))) (CHalt result)

opened_halts : crun 0 (opened (CInt (pos 1))) ≡ record { end = Halted (pos 1); entered = [] }
opened_halts = refl

opened_typed : CTyped 0 [] (opened (CInt (pos 1)))
opened_typed = (_, (_, refl, refl, tt, omega arith, refl), refl)

-- what is hidden is no integer by its type, though the meaning halts with it
hidden_halts : crun 0 (opened (CVar 0)) ≡ record { end = Halted (pos 2); entered = [] }
hidden_halts = refl

hidden_not_typed : CTyped 0 [] (opened (CVar 0)) → ⊥
hidden_not_typed (u, (w, shape, is, h, s, v), int) = clash u w shape is int
  where
    clash : (u w : CTy) → TCExists (TCVar 0) ≡ TCExists w → TCExists u ≡ TCExists (TCVar 0) → TCInt ≡ u → ⊥
    clash u w shape is int = cc

-- code that takes a type is applied to it: (code[a](x: a). halt 7)[int](3)
abbrev any : CVal
any = CCode 1 (MoreCTys (TCVar 0) NoCTys) (CHalt (CInt (pos 7)))

abbrev at_integer : CTm
at_integer = CCall (CApply any one_integer) NoCTys (MoreCVals (CInt (pos 3)) NoCVals)

at_integer_halts : crun 1 at_integer ≡ record { end = Halted (pos 7); entered = 0 ∷ [] }
at_integer_halts = refl

-- a cell: both names see what was set last
abbrev cell : CTm
cell =
    CLet (CCell (CInt (pos 3)))
    (CLet (CSet (CVar 0) (CInt (pos 9))) (CLet (CGet (CVar 1)) (CHalt (CVar 0))))

cell_halts : crun 0 cell ≡ record { end = Halted (pos 9); entered = [] }
cell_halts = refl

cell_typed : CTyped 0 [] cell
cell_typed = (_, (_, refl, refl), (_, (_, refl, refl, refl), (_, refl, refl)))

-- an integer is no tuple
stuck : crun 0 (CLet (CProj 1 (CInt (pos 3))) (CHalt (CVar 0))) ≡ record { end = Stuck; entered = [] }
stuck = refl

-- operands stand before what takes them; in a code level 0 is the code, and level 1 its first argument
abbrev as_nodes : CTm
as_nodes = CCall next NoCTys (MoreCVals (CTuple (MoreCVals (CInt (pos 4)) NoCVals)) NoCVals)

nodes : clin_t 0 as_nodes []
    ≡ MCode 0 one_integer ∷ MVar 1 ∷ MInt (pos 1) ∷ MArith 2 Add ∷ MVar 2 ∷ MHalt ∷ MEnd ∷ MCall NoCTys 1
    ∷ MInt (pos 4) ∷ MTuple 1 ∷ []
nodes = refl

read_back : cdecode (clin_t 0 as_nodes []) ≡ as_nodes
read_back = refl

-- the type of a closure, some a. <code(a, int), a>: a package, a tuple, and the two of a code's file
abbrev closure : CTy
closure = TCExists (TCTuple (MoreCTys (TCCode 0 (MoreCTys (TCVar 0) one_integer)) (MoreCTys (TCVar 0) NoCTys)))

closure_reach : creach closure ≡ 4
closure_reach = refl

closure_binds : cbinds closure ≡ 1
closure_binds = refl

-- b put for a in some c. <a, c>, where a is the variable before it
put_under : put 0 (TCVar 4) (TCExists (TCTuple (MoreCTys (TCVar 1) (MoreCTys (TCVar 0) NoCTys))))
    ≡ TCExists (TCTuple (MoreCTys (TCVar 5) (MoreCTys (TCVar 0) NoCTys)))
put_under = refl

shift_free : shift 2 0 (TCExists (TCTuple (MoreCTys (TCVar 1) (MoreCTys (TCVar 0) NoCTys))))
    ≡ TCExists (TCTuple (MoreCTys (TCVar 3) (MoreCTys (TCVar 0) NoCTys)))
shift_free = refl
