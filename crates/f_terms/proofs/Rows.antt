-- Worked rows on the definitions, proved by computing. The comment above each program is its text.
use Rattle.std.proofs.Common.{◌≡◌, pos, negsuc, refl, lit<}
use Rattle.std.specs.Int.{int_wrap}
use Rattle.idx_core.specs.declared.arith.Op.TheVariants.{Add, Sub, Mul}
use Rattle.f_terms.specs.Ty.{TInt, TVar, TArrow, TAll, TTuple, TSome, TRef, NoTys, MoreTys, size, depth}
use Rattle.f_terms.specs.Tm.{Term, MVar, MNum, MFix, MApp, MGen, MInst, MTuple, MProj, MArith, MIf0, MLet, MPack, MOpen}
use Rattle.f_terms.specs.Tm.{MRef, MDeref, MAssign, NoTerms, MoreTerms}
use Rattle.f_terms.specs.Limits.{nodes}
use Rattle.f_terms.specs.Typing.{IsTyped, IsProgram}
use Rattle.f_terms.specs.Eval.{Empty, EvaluatesLeaving, IsSpent}

-- fix f(n:int):int. if0(n, 1, n * f(n - 1))
abbrev factorial : Term
factorial = MFix TInt TInt
    (MIf0 (MVar 0) (MNum (pos 1)) (MArith Mul (MVar 0) (MApp (MVar 1) (MArith Sub (MVar 0) (MNum (pos 1))))))

factorial_types : IsTyped factorial (TArrow TInt TInt)
factorial_types = (refl, tt, tt, (refl, refl, (refl, refl, (TInt, refl, (refl, refl, refl)))))

-- factorial 5
five_is_a_program : IsProgram (MApp factorial (MNum (pos 5)))
five_is_a_program = (TInt, factorial_types, refl)

five_in_six_turns : EvaluatesLeaving (MApp factorial (MNum (pos 5))) 6 (pos 120) 0
unfolding int_wrap
five_in_six_turns = (Empty, refl)

five_in_five_turns : IsSpent (MApp factorial (MNum (pos 5))) 5
unfolding int_wrap
five_in_five_turns = refl

-- factorial 21: the product wraps
product_wraps : EvaluatesLeaving (MApp factorial (MNum (pos 21))) 100 (negsuc 4249290049419214847) 78
unfolding int_wrap
product_wraps = (Empty, refl)

-- (gen a. fix f(x:a):a. x)[int] 3
abbrev identity_at_int : Term
identity_at_int = MApp (MInst (MGen (MFix (TVar 0) (TVar 0) (MVar 0))) TInt) (MNum (pos 3))

identity_is_a_program : IsProgram identity_at_int
identity_is_a_program = (
  TInt,
  (TArrow (TVar 0) (TVar 0), refl, tt, (TArrow (TVar 0) (TVar 0), refl, (refl, lit< tt, lit< tt, refl))),
  refl,
)

-- a type application is a turn
identity_in_two_turns : EvaluatesLeaving identity_at_int 2 (pos 3) 0
identity_in_two_turns = (Empty, refl)

identity_in_one_turn : IsSpent identity_at_int 1
identity_in_one_turn = refl

-- gen b. (gen a. gen b. fix f(x:a):b -> a. fix g(y:b):a. x)[b]: a capture would give t1 first
no_capture :
    IsTyped
    (MGen (MInst (MGen (MGen (MFix (TVar 1) (TArrow (TVar 0) (TVar 1)) (MFix (TVar 0) (TVar 1) (MVar 2))))) (TVar 0)))
    (TAll (TAll (TArrow (TVar 1) (TArrow (TVar 0) (TVar 1)))))
no_capture = (
  _,
  refl,
  (
    TAll (TArrow (TVar 1) (TArrow (TVar 0) (TVar 1))),
    refl,
    lit< tt,
    (_, refl, (_, refl, (refl, lit< tt, (lit< tt, lit< tt), (refl, lit< tt, lit< tt, refl)))),
  ),
)

-- #1 <1, gen a. (fix f(x:int):int. f x) 0>: nothing runs under `gen`
abbrev under_gen : Term
under_gen =
    MProj 1
    (MTuple
    (MoreTerms (MNum (pos 1))
    (MoreTerms (MGen (MApp (MFix TInt TInt (MApp (MVar 1) (MVar 0))) (MNum (pos 0)))) NoTerms)))

under_gen_is_a_program : IsProgram under_gen
under_gen_is_a_program = (
  MoreTys TInt (MoreTys (TAll TInt) NoTys),
  refl,
  (
    _,
    refl,
    (
      TInt,
      _,
      refl,
      refl,
      (
        TAll TInt,
        _,
        refl,
        (TInt, refl, (TInt, (refl, tt, tt, (TInt, refl, refl)), refl)),
        refl,
      ),
    ),
  ),
)

under_gen_in_no_turn : EvaluatesLeaving under_gen 0 (pos 1) 0
under_gen_in_no_turn = (Empty, refl)

-- (fix f(x:int):int. f x) 0
goes_on : IsSpent (MApp (MFix TInt TInt (MApp (MVar 1) (MVar 0))) (MNum (pos 0))) 1000
goes_on = refl

-- ~9223372036854775808 - 1: the difference wraps
difference_wraps : EvaluatesLeaving (MArith Sub (MNum (negsuc 9223372036854775807)) (MNum (pos 1))) 0
    (pos 9223372036854775807) 0
unfolding int_wrap
difference_wraps = (Empty, refl)

-- (fix f(x:<>):int. 4) <>
abbrev of_nothing : Term
of_nothing = MApp (MFix (TTuple NoTys) TInt (MNum (pos 4))) (MTuple NoTerms)

of_nothing_is_a_program : IsProgram of_nothing
of_nothing_is_a_program = (TTuple NoTys, (refl, tt, tt, refl), (NoTys, refl, refl))

of_nothing_in_one_turn : EvaluatesLeaving of_nothing 2 (pos 4) 1
of_nothing_in_one_turn = (Empty, refl)

-- #2 <5, 5 + 1, <>>
second_field :
    EvaluatesLeaving
    (MProj 2 (MTuple
    (MoreTerms (MNum (pos 5))
    (MoreTerms (MArith Add (MNum (pos 5)) (MNum (pos 1))) (MoreTerms (MTuple NoTerms) NoTerms))))) 0 (pos 6) 0
unfolding int_wrap
second_field = (Empty, refl)

-- gen a. 1 is no program
gen_is_typed : IsTyped (MGen (MNum (pos 1))) (TAll TInt)
gen_is_typed = (TInt, refl, refl)

gen_is_no_program : IsProgram (MGen (MNum (pos 1))) → ⊥
gen_is_no_program h = let e : TInt ≡ TAll h.0 = h.1 in cc

-- ((gen a. fix f(x:a):int -> a. fix g(y:int):a. x)[int] 8) 1
constant_in_three_turns :
    EvaluatesLeaving
    (MApp (MApp (MInst (MGen (MFix (TVar 0) (TArrow TInt (TVar 0)) (MFix TInt (TVar 0) (MVar 2)))) TInt)
    (MNum (pos 8))) (MNum (pos 1)))
    3 (pos 8) 0
constant_in_three_turns = (Empty, refl)

-- ((fix f(x:int):int -> int. fix h(y:int):int. (fix g(n:int):int. if0(n, x - y, 2 * g(n - 1))) 3) 9) 4
order_of_environments :
    EvaluatesLeaving
    (MApp
    (MApp
    (MFix TInt (TArrow TInt TInt)
    (MFix TInt TInt
    (MApp
    (MFix TInt TInt
    (MIf0 (MVar 0) (MArith Sub (MVar 4) (MVar 2))
    (MArith Mul (MNum (pos 2)) (MApp (MVar 1) (MArith Sub (MVar 0) (MNum (pos 1)))))))
    (MNum (pos 3)))))
    (MNum (pos 9)))
    (MNum (pos 4)))
    6 (pos 40) 0
unfolding int_wrap
order_of_environments = (Empty, refl)

-- 1 + 2 * 3 has five nodes
five_nodes : nodes (MArith Add (MNum (pos 1)) (MArith Mul (MNum (pos 2)) (MNum (pos 3)))) ≡ 5
five_nodes = refl

-- all t0. <t0 -> int, <>>
pair_measures : (size (TAll (TTuple (MoreTys (TArrow (TVar 0) TInt) (MoreTys (TTuple NoTys) NoTys)))) ≡ 6)
    × (depth (TAll (TTuple (MoreTys (TArrow (TVar 0) TInt) (MoreTys (TTuple NoTys) NoTys)))) ≡ 4)
pair_measures = (refl, refl)

-- open [a, x] = pack[int, <3, fix f(y:int):int. y + 1>] as some a. <a, a -> int> in (#2 x) (#1 x)
abbrev parcel : Term
parcel = MOpen (MPack TInt
    (MTuple (MoreTerms (MNum (pos 3)) (MoreTerms (MFix TInt TInt (MArith Add (MVar 0) (MNum (pos 1)))) NoTerms)))
    (TSome (TTuple (MoreTys (TVar 0) (MoreTys (TArrow (TVar 0) TInt) NoTys)))))
    (MApp (MProj 2 (MVar 0)) (MProj 1 (MVar 0)))

parcel_in_one_turn : EvaluatesLeaving parcel 1 (pos 4) 0
unfolding int_wrap
parcel_in_one_turn = (_, refl)

parcel_in_no_turn : IsSpent parcel 0
parcel_in_no_turn = refl

-- let x = 2 in let x = x + 1 in x * x
lets : EvaluatesLeaving
    (MLet (MNum (pos 2)) (MLet (MArith Add (MVar 0) (MNum (pos 1))) (MArith Mul (MVar 0) (MVar 0)))) 0 (pos 9) 0
unfolding int_wrap
lets = (_, refl)

-- let c = ref 5 in let u = c := !c + 2 in !c
abbrev seven : Term
seven = MLet (MRef (MNum (pos 5)))
    (MLet (MAssign (MVar 0) (MArith Add (MDeref (MVar 0)) (MNum (pos 2)))) (MDeref (MVar 1)))

seven_is_a_program : IsProgram seven
seven_is_a_program = (TRef TInt, (TInt, refl, refl), (TTuple NoTys, (TInt, refl, refl, (refl, refl, refl)), refl))

seven_without_turns : EvaluatesLeaving seven 0 (pos 7) 0
unfolding int_wrap
seven_without_turns = (_, refl)

-- let c = ref 1 in let d = c in let u = d := 9 in !c
two_names_of_a_cell :
    EvaluatesLeaving
    (MLet (MRef (MNum (pos 1))) (MLet (MVar 0) (MLet (MAssign (MVar 0) (MNum (pos 9))) (MDeref (MVar 2))))) 0 (pos 9) 0
two_names_of_a_cell = (_, refl)

-- let c = ref 1 in (let u = c := 2 in 10) + !c: from left to right
from_the_left :
    EvaluatesLeaving
    (MLet (MRef (MNum (pos 1)))
    (MArith Add (MLet (MAssign (MVar 0) (MNum (pos 2))) (MNum (pos 10))) (MDeref (MVar 0)))) 0 (pos 12) 0
unfolding int_wrap
from_the_left = (_, refl)

-- let r = ref (fix f(n:int):int. n) in let u = r := (fix g(n:int):int. if0(n, 0, 1 + (!r) (n - 1))) in (!r) 4
abbrev knot : Term
knot = MLet (MRef (MFix TInt TInt (MVar 0)))
    (MLet (MAssign (MVar 0)
    (MFix TInt TInt
    (MIf0 (MVar 0) (MNum (pos 0))
    (MArith Add (MNum (pos 1)) (MApp (MDeref (MVar 2)) (MArith Sub (MVar 0) (MNum (pos 1))))))))
    (MApp (MDeref (MVar 1)) (MNum (pos 4))))

knot_in_five_turns : EvaluatesLeaving knot 5 (pos 4) 0
unfolding int_wrap
knot_in_five_turns = (_, refl)

knot_in_four_turns : IsSpent knot 4
unfolding int_wrap
knot_in_four_turns = refl
