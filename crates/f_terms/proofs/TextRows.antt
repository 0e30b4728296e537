-- Worked rows on the text of a type, proved by computing.
use Rattle.std.proofs.Common.{◌≡◌, refl, codes}
use Rattle.std.specs.Fmt.{digits}
use Rattle.f_terms.specs.Ty.{TInt, TVar, TArrow, TAll, TTuple, TSome, TRef, NoTys, MoreTys}
use Rattle.f_terms.specs.Text.{type_text}

int_text : type_text TInt ≡ codes "int"
int_text = refl

gen_text : type_text (TAll TInt) ≡ codes "all t0. int"
unfolding digits
gen_text = refl

-- the type of `gen b. (gen a. gen b. fix f(x:a):b -> a. fix g(y:b):a. x)[b]`
two_names : type_text (TAll (TAll (TArrow (TVar 1) (TArrow (TVar 0) (TVar 1)))))
    ≡ codes "all t0. all t1. t0 -> t1 -> t0"
unfolding digits
two_names = refl

-- parentheses on the left of an arrow, none on the right
arrow_on_the_left : type_text (TArrow (TArrow TInt TInt) (TArrow TInt TInt)) ≡ codes "(int -> int) -> int -> int"
arrow_on_the_left = refl

all_on_the_left : type_text (TArrow (TAll (TVar 0)) (TAll (TVar 0))) ≡ codes "(all t0. t0) -> all t0. t0"
unfolding digits
all_on_the_left = refl

tuple_on_the_left : type_text (TArrow (TTuple NoTys) (TTuple NoTys)) ≡ codes "<> -> <>"
tuple_on_the_left = refl

-- fields are in no parentheses
fields : type_text
    (TTuple (MoreTys (TAll (TVar 0)) (MoreTys (TArrow TInt TInt) (MoreTys (TTuple (MoreTys TInt NoTys)) NoTys))))
    ≡ codes "<all t0. t0, int -> int, <int>>"
unfolding digits
fields = refl

-- `all` and `some` count together
some_text : type_text (TSome (TAll (TArrow (TVar 1) (TVar 0)))) ≡ codes "some t0. all t1. t0 -> t1"
unfolding digits
some_text = refl

-- the types of pack[int, 3] as some a. a and of ref (fix f(x:int):int. x)
pack_text : type_text (TSome (TVar 0)) ≡ codes "some t0. t0"
unfolding digits
pack_text = refl

ref_text : type_text (TRef (TArrow TInt TInt)) ≡ codes "ref (int -> int)"
ref_text = refl

-- parentheses after `ref` round an arrow, an `all` or a `some` alone
refs_text : type_text (TArrow (TRef (TRef TInt)) (TRef (TSome (TRef (TVar 0)))))
    ≡ codes "ref ref int -> ref (some t0. ref t0)"
unfolding digits
refs_text = refl

some_on_the_left : type_text (TArrow (TSome TInt) TInt) ≡ codes "(some t0. int) -> int"
unfolding digits
some_on_the_left = refl
