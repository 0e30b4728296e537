-- Worked texts of types and programs.
use Rattle.std.proofs.Common.{◌≡◌, [], ◌∷◌, ◌++◌, pos, negsuc, codes, refl}
use Rattle.std.specs.Prelude.{true, false}
use Rattle.std.specs.Fmt.{digits}
use Rattle.idx_core.specs.declared.arith.Op.TheVariants.{Mul}
use Rattle.a_terms.specs.Tree.{ATy, AInt, AVar, ATuple, ACode, AExists, NoATys, MoreATys, NoAFields, MoreAFields, Var}
use Rattle.a_terms.specs.Tree.{Num, Lab, Data, Apply, Pack, Value, Proj, Arith, Unpack, Malloc, Init, ATm, Let, Call}
use Rattle.a_terms.specs.Tree.{If0}
use Rattle.a_terms.specs.Tree.{Halt, AProg}
use Rattle.a_notation.specs.Types.{type_text}
use Rattle.a_notation.specs.Notation.{a_text}

-- some b. <code[c](b, a, c), b>, inside a: the type of a closure
abbrev closure : ATy
closure = AExists (ATuple (MoreAFields
    (ACode 1 (MoreATys (AVar 1) (MoreATys (AVar 2) (MoreATys (AVar 0) NoATys)))) true
    (MoreAFields (AVar 0) true NoAFields)))

closure_is : type_text 1 closure ≡ codes "closure[c](a, c)"
closure_is = refl

-- the hidden type is named once more
again : type_text 0 (AExists (ATuple (MoreAFields (ACode 0 (MoreATys (AVar 0) (MoreATys (AVar 0) NoATys))) true
    (MoreAFields (AVar 0) true NoAFields))))
    ≡ codes "some a. <code[](a, a), a>"
again = refl

-- its environment is not initialised
not_filled : type_text 0
    (AExists (ATuple (MoreAFields (ACode 0 (MoreATys (AVar 0) NoATys)) true (MoreAFields (AVar 0) false NoAFields))))
    ≡ codes "some a. <code[](a), a?>"
not_filled = refl

-- each form once
abbrev block : ATm
block = Let (Malloc (MoreATys AInt NoATys)) (Let (Init (Var 0) 1 (Num (negsuc 4))) (If0 (Var 3)
    (Let (Unpack (Var 2)) (Let (Proj 2 (Var 0)) (Halt (Var 0))))
    (Call (Apply (Lab 0) (MoreATys AInt NoATys)) NoATys (Var 3 ∷ (Pack AInt (Data 0) (AExists (AVar 0)) ∷ [])))))

abbrev main : ATm
main = Let (Value (Data 0)) (Let (Arith Mul (Num (pos 2)) (Num (pos 3))) (Halt (Var 0)))

abbrev program : AProg
program = record {
  blocks = record { owes = 1; args = MoreATys AInt (MoreATys (AExists (AVar 0)) NoATys); body = block } ∷ [];
  tuples = (record { value = Num (pos 7); kind = AInt } ∷ (record { value = Lab 0; kind = AInt } ∷ [])) ∷ ([] ∷ []);
}

program_is : a_text false program main ≡
    codes "L0: code[a](x0: int, x1: some b. b).\n  let x2 = malloc[int]\n  let x3 = x2[1] <- ~5\n  if0 x0 then\n"
    ++ (codes "    let [b, x4] = unpack x1\n    let x5 = #2 x4\n    halt x5\n  else\n"
    ++ (codes "    L0[int][](x0, pack [int, D0] as some b. b)\n\nD0: <7, L0>\nD1: <>\n\n"
    ++ codes "main:\n  let x0 = D0\n  let x1 = 2 * 3\n  halt x1\n"))
unfolding digits
program_is = refl

-- and with the types of what is bound
abbrev small : ATm
small = Let (Malloc (MoreATys AInt (MoreATys AInt NoATys))) (Let (Init (Var 0) 2 (Num (pos 5)))
    (Let (Value (Pack AInt (Num (pos 7)) (AExists (AVar 0)))) (Let (Unpack (Var 0)) (Let (Arith Mul (Num (pos 2))
    (Num (pos 3))) (Let (Value (Lab 0)) (Halt (Num (pos 0))))))))

typed_is : a_text true (record { blocks = []; tuples = [] }) small ≡
    codes "main:\n  let x0: <int?, int?> = malloc[int, int]\n  let x1: <int?, int> = x0[2] <- 5\n"
    ++ (codes "  let x2: some a. a = pack [int, 7] as some a. a\n  let [a, x3: a] = unpack x2\n"
    ++ codes "  let x4: int = 2 * 3\n  let x5: int = L0\n  halt 0\n")
unfolding digits
typed_is = refl
