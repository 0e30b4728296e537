-- Worked rows: a term of each form with its text, and where parentheses stand and where they do not.
use Rattle.std.proofs.Common.{◌≡◌, pos, negsuc, codes, refl}
use Rattle.std.specs.Fmt.{digits}
use Rattle.idx_core.specs.declared.arith.Op.TheVariants.{Add, Sub, Mul}
use Rattle.f_terms.specs.Ty.{TInt, TVar, TArrow, TAll, TTuple, TSome, TRef, NoTys, MoreTys}
use Rattle.f_terms.specs.Tm.{Term, MVar, MNum, MFix, MApp, MGen, MInst, MTuple, MProj, MArith, MIf0, MLet, MPack}
use Rattle.f_terms.specs.Tm.{MOpen, MRef, MDeref, MAssign, NoTerms, MoreTerms}
use Rattle.f_writer.specs.Notation.{term_text, written}

abbrev one : Term
one = MNum (pos 1)

abbrev two : Term
two = MNum (pos 2)

abbrev three : Term
three = MNum (pos 3)

-- numbers

negative : term_text (MNum (negsuc 4)) ≡ codes "~5\n"
unfolding digits
negative = refl

-- names: the function is bound before its argument, and a name is the number of those around its binder
factorial : term_text
    (MApp (MFix TInt TInt (MIf0 (MVar 0) one (MArith Mul (MVar 0) (MApp (MVar 1) (MArith Sub (MVar 0) one)))))
    (MNum (pos 5))) ≡
    codes "(fix x0(x1: int): int. if0(x1, 1, x1 * x0 (x1 - 1))) 5\n"
unfolding digits
factorial = refl

identity : term_text (MInst (MGen (MFix (TVar 0) (TVar 0) (MVar 0))) TInt) ≡ codes
    "(gen t0. fix x0(x1: t0): t0. x1)[int]\n"
unfolding digits
identity = refl

-- a type that is written inside type names counts on
inner_type : term_text (MGen (MFix (TAll (TArrow (TVar 0) (TVar 1))) TInt one)) ≡ codes
    "gen t0. fix x0(x1: all t1. t1 -> t0): int. 1\n"
unfolding digits
inner_type = refl

-- a line ends behind each `in`, and the value that is bound is not around its own part
lets : term_text (MLet one (MLet (MArith Add (MVar 0) two) (MArith Add (MVar 1) (MVar 0)))) ≡ codes
    "let x0 = 1 in\nlet x1 = x0 + 2 in\nx0 + x1\n"
unfolding digits
lets = refl

let_in_let : term_text (MLet (MLet one (MVar 0)) (MVar 0)) ≡ codes "let x0 = let x0 = 1 in\nx0 in\nx0\n"
unfolding digits
let_in_let = refl

packed : term_text (MOpen (MPack TInt three (TSome (TVar 0))) two) ≡ codes
    "open [t0, x0] = pack[int, 3] as some t0. t0 in\n2\n"
unfolding digits
packed = refl

opened : written 1 2 (MOpen (MVar 0) (MInst (MVar 0) (TArrow (TVar 0) (TVar 1)))) ≡ codes
    "open [t1, x2] = x1 in\nx2[t1 -> t0]"
unfolding digits
opened = refl

cells : term_text (MLet (MRef one) (MLet (MAssign (MVar 0) two) (MDeref (MVar 1)))) ≡ codes
    "let x0 = ref 1 in\nlet x1 = x0 := 2 in\n!x0\n"
unfolding digits
cells = refl

tuples : term_text (MProj 2
    (MTuple (MoreTerms one (MoreTerms (MTuple NoTerms) (MoreTerms (MLet two (MVar 0)) NoTerms))))) ≡ codes
    "#2 <1, <>, let x0 = 2 in\nx0>\n"
unfolding digits
tuples = refl

reference : term_text (MFix (TRef (TArrow TInt TInt)) (TTuple (MoreTys TInt NoTys))
    (MTuple (MoreTerms one NoTerms))) ≡ codes "fix x0(x1: ref (int -> int)): <int>. <1>\n"
unfolding digits
reference = refl

-- parentheses, and where there are none

left_sums : term_text (MArith Sub (MArith Add one two) three) ≡ codes "1 + 2 - 3\n"
unfolding digits
left_sums = refl

right_sum : term_text (MArith Sub one (MArith Add two three)) ≡ codes "1 - (2 + 3)\n"
unfolding digits
right_sum = refl

product_in_sum : term_text (MArith Add (MArith Mul one two) (MArith Mul two three)) ≡ codes "1 * 2 + 2 * 3\n"
unfolding digits
product_in_sum = refl

sum_in_product : term_text (MArith Mul (MArith Add one two) three) ≡ codes "(1 + 2) * 3\n"
unfolding digits
sum_in_product = refl

left_products : term_text (MArith Mul (MArith Mul one two) three) ≡ codes "1 * 2 * 3\n"
unfolding digits
left_products = refl

right_product : term_text (MArith Mul one (MArith Mul two three)) ≡ codes "1 * (2 * 3)\n"
unfolding digits
right_product = refl

left_calls : written 0 1 (MApp (MApp (MVar 0) one) two) ≡ codes "x0 1 2"
unfolding digits
left_calls = refl

right_call : written 0 1 (MApp (MVar 0) (MApp (MVar 0) two)) ≡ codes "x0 (x0 2)"
unfolding digits
right_call = refl

call_in_product : written 0 1 (MArith Mul (MApp (MVar 0) one) (MApp (MVar 0) two)) ≡ codes "x0 1 * x0 2"
unfolding digits
call_in_product = refl

sum_called : written 0 1 (MApp (MArith Add (MVar 0) one) (MArith Add one two)) ≡ codes "(x0 + 1) (1 + 2)"
unfolding digits
sum_called = refl

used_call : written 0 1 (MInst (MApp (MVar 0) one) TInt) ≡ codes "x0 1[int]"
unfolding digits
used_call = refl

argument_used : written 0 1 (MApp (MVar 0) (MInst (MVar 0) TInt)) ≡ codes "x0 (x0[int])"
unfolding digits
argument_used = refl

cell_of_call : written 0 1 (MRef (MApp (MVar 0) one)) ≡ codes "ref (x0 1)"
unfolding digits
cell_of_call = refl

call_of_cell : written 0 1 (MApp (MDeref (MVar 0)) (MRef one)) ≡ codes "!x0 ref 1"
unfolding digits
call_of_cell = refl

cells_in_cells : written 0 1 (MDeref (MDeref (MProj 1 (MVar 0)))) ≡ codes "!!#1 x0"
unfolding digits
cells_in_cells = refl

field_of_sum : written 0 1 (MProj 1 (MArith Add one two)) ≡ codes "#1 (1 + 2)"
unfolding digits
field_of_sum = refl

assigned_sum : written 0 1 (MAssign (MVar 0) (MArith Add one two)) ≡ codes "x0 := 1 + 2"
unfolding digits
assigned_sum = refl

assigned_twice : written 0 2 (MAssign (MVar 0) (MAssign (MVar 1) one)) ≡ codes "x1 := (x0 := 1)"
unfolding digits
assigned_twice = refl

assignment_in_tuple : written 0 1 (MTuple (MoreTerms (MAssign (MVar 0) one) NoTerms)) ≡ codes "<x0 := 1>"
unfolding digits
assignment_in_tuple = refl

let_in_sum : term_text (MArith Add one (MLet two (MVar 0))) ≡ codes "1 + (let x0 = 2 in\nx0)\n"
unfolding digits
let_in_sum = refl

sum_in_branch : term_text (MIf0 (MArith Sub one two) (MGen one) (MFix TInt TInt (MVar 0))) ≡ codes
    "if0(1 - 2, gen t0. 1, fix x0(x1: int): int. x1)\n"
unfolding digits
sum_in_branch = refl

abstraction_assigned : written 0 1 (MAssign (MVar 0) (MGen one)) ≡ codes "x0 := (gen t0. 1)"
unfolding digits
abstraction_assigned = refl

packed_let : term_text (MPack TInt (MLet one (MVar 0)) (TSome (TArrow (TVar 0) TInt))) ≡ codes
    "pack[int, let x0 = 1 in\nx0] as some t0. t0 -> int\n"
unfolding digits
packed_let = refl

body_of_sum : term_text (MGen (MArith Add one two)) ≡ codes "gen t0. 1 + 2\n"
unfolding digits
body_of_sum = refl
