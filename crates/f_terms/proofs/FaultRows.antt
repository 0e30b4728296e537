-- Worked rows on the first fault of typing and what is at odds in it. The comment above each row is its text.
use Rattle.std.proofs.Common.{◌≡◌, ℕ, zero, suc, ◌+◌, ◌-◌, ◌≤◌, pos, refl, sym, ◌∙◌, ap, arith, inl, inr, lit<, lit≤}
use Rattle.std.proofs.Common.{None}
use Rattle.idx_core.specs.declared.arith.Op.TheVariants.{Add}
use Rattle.f_terms.specs.declared.fault.Code.TheVariants.{E07, E08, E09, E10, E11, E12, E13, E14, E16, E17, E18, E21}
use Rattle.f_terms.specs.declared.fault.Code.TheVariants.{E22, L4, L5}
use Rattle.f_terms.specs.Ty.{Ty, TInt, TVar, TArrow, TAll, TTuple, TSome, TRef, Tys, NoTys, MoreTys, shift, put, size}
use Rattle.f_terms.specs.Ty.{sizes, depth, depths, Below}
use Rattle.f_terms.specs.TyLaws.{shift_none, unshift}
use Rattle.f_terms.specs.Tm.{Spn, Tm, SVar, SNum, SFix, SApp, SGen, SInst, STuple, SProj, SArith, SIf0, SPack}
use Rattle.f_terms.specs.Tm.{SOpen, SRef, SDeref, SAssign, NoTms, MoreTms}
use Rattle.f_terms.specs.Limits.{Within}
use Rattle.f_terms.specs.Mismatch.{WType, WFunction, WPolymorphic, WTuple, WField, WPackage, WReference, WOutside}
use Rattle.f_terms.specs.Mismatch.{odds}
use Rattle.f_terms.specs.Faults.{Passes, FaultWith}

abbrev one : Spn → Tm
one s = SNum s (pos 1)

int_within : Within TInt
int_within = (lit≤ tt, lit≤ tt)

unit_passes_in : (n : ℕ) (s : Spn) → Passes (STuple s NoTms) n NoTys (TTuple NoTys)
unit_passes_in n s = (NoTys, refl, refl, (lit≤ tt, lit≤ tt))

unit_passes : (s : Spn) → Passes (STuple s NoTms) 0 NoTys (TTuple NoTys)
unit_passes s = unit_passes_in 0 s

-- 1 2
not_a_function : FaultWith (SApp (0, 3) (one (0, 1)) (SNum (2, 3) (pos 2))) 0 NoTys E07 (0, 1) (odds 0 WFunction TInt)
not_a_function = inr (TInt, refl, (refl, refl))

-- (fix f(x:int):int. x) <>
argument_of_another_type :
    FaultWith (SApp (0, 24) (SFix (1, 20) TInt TInt (SVar (19, 20) 0)) (STuple (22, 24) NoTms))
    0 NoTys E08 (22, 24) (odds 0 (WType TInt) (TTuple NoTys))
argument_of_another_type =
    inr (
      TArrow TInt TInt,
      (refl, tt, tt, (lit≤ tt, lit≤ tt), refl),
      inr (TTuple NoTys, unit_passes (22, 24), inl (λ e. cc, (refl, refl))),
    )

-- 1[int]
not_polymorphic : FaultWith (SInst (0, 6) (one (0, 1)) TInt) 0 NoTys E09 (0, 1) (odds 0 WPolymorphic TInt)
not_polymorphic = inr (TInt, refl, (refl, refl))

-- #1 2
not_a_tuple : FaultWith (SProj (0, 4) 1 (SNum (3, 4) (pos 2))) 0 NoTys E10 (3, 4) (odds 0 WTuple TInt)
not_a_tuple = inr (TInt, refl, (refl, refl))

-- #3 <1,2>
no_such_field :
    FaultWith (SProj (0, 8) 3 (STuple (3, 8) (MoreTms (one (4, 5)) (MoreTms (SNum (6, 7) (pos 2)) NoTms))))
    0 NoTys E11 (0, 8) (odds 0 WField (TTuple (MoreTys TInt (MoreTys TInt NoTys))))
no_such_field =
    inr (
      TTuple (MoreTys TInt (MoreTys TInt NoTys)),
      (
        MoreTys TInt (MoreTys TInt NoTys),
        refl,
        (TInt, MoreTys TInt NoTys, refl, refl, (TInt, NoTys, refl, refl, refl)),
        (lit≤ tt, lit≤ tt),
      ),
      (refl, refl),
    )

-- #3 <1>
no_such_field_of_one :
    FaultWith (SProj (0, 6) 3 (STuple (3, 6) (MoreTms (one (4, 5)) NoTms))) 0 NoTys E11 (0, 6)
    (odds 0 WField (TTuple (MoreTys TInt NoTys)))
no_such_field_of_one =
    inr (
      TTuple (MoreTys TInt NoTys),
      (MoreTys TInt NoTys, refl, (TInt, NoTys, refl, refl, refl), (lit≤ tt, lit≤ tt)),
      (refl, refl),
    )

-- gen a. 1 + <>: under one type name
under_a_name :
    FaultWith (SGen (0, 13) (SArith (7, 13) Add (one (7, 8)) (STuple (11, 13) NoTms))) 0 NoTys E12 (11, 13)
    (odds 1 (WType TInt) (TTuple NoTys))
under_a_name =
    inl (inr (TInt, refl, inr (refl, inr (TTuple NoTys, unit_passes_in 1 (11, 13), inl (λ e. cc, (refl, refl))))))

-- 1 + <>
right_operand :
    FaultWith (SArith (0, 6) Add (one (0, 1)) (STuple (4, 6) NoTms))
    0 NoTys E12 (4, 6) (odds 0 (WType TInt) (TTuple NoTys))
right_operand = inr (TInt, refl, inr (refl, inr (TTuple NoTys, unit_passes (4, 6), inl (λ e. cc, (refl, refl)))))

-- <> + 1
left_operand :
    FaultWith (SArith (0, 6) Add (STuple (0, 2) NoTms) (one (5, 6)))
    0 NoTys E12 (0, 2) (odds 0 (WType TInt) (TTuple NoTys))
left_operand = inr (TTuple NoTys, unit_passes (0, 2), inl (λ e. cc, (refl, refl)))

-- if0(<>, 1, 1)
test_is_no_integer :
    FaultWith (SIf0 (0, 13) (STuple (4, 6) NoTms) (one (8, 9)) (one (11, 12)))
    0 NoTys E12 (4, 6) (odds 0 (WType TInt) (TTuple NoTys))
test_is_no_integer = inr (TTuple NoTys, unit_passes (4, 6), inl (λ e. cc, (refl, refl)))

-- if0(0, 1, <>)
branches_of_two_types :
    FaultWith (SIf0 (0, 13) (SNum (4, 5) (pos 0)) (one (7, 8)) (STuple (10, 12) NoTms))
    0 NoTys E13 (10, 12) (odds 0 (WType TInt) (TTuple NoTys))
branches_of_two_types =
    inr (
      TInt,
      refl,
      inr (refl, inr (TInt, refl, inr (TTuple NoTys, unit_passes (10, 12), inl (λ e. cc, (refl, refl))))),
    )

-- (fix f(x:int):int. <x>) 1: the first fault is in the function
body_not_as_declared :
    FaultWith
    (SApp (0, 25) (SFix (1, 22) TInt TInt (STuple (19, 22) (MoreTms (SVar (20, 21) 0) NoTms))) (one (24, 25)))
    0 NoTys E14 (19, 22) (odds 0 (WType TInt) (TTuple (MoreTys TInt NoTys)))
body_not_as_declared =
    inl (inr (
      lit≤ tt,
      inr (
        lit≤ tt,
        inr (
          TTuple (MoreTys TInt NoTys),
          (MoreTys TInt NoTys, refl, (TInt, NoTys, refl, refl, refl), (lit≤ tt, lit≤ tt)),
          inl (λ e. cc, (refl, refl)),
        ),
      ),
    ))

-- as many times `<` as k, 1, and as many times `>`, where the 1 stands at 200
nested : ℕ → Tm
nested zero = one (200, 201)
nested (suc k) = STuple (199 - k, 202 + k) (MoreTms (nested k) NoTms)

nested_type : ℕ → Ty
nested_type zero = TInt
nested_type (suc k) = TTuple (MoreTys (nested_type k) NoTys)

nested_depth : (k : ℕ) → depth (nested_type k) ≡ suc k
unfolding nested_type
nested_depth zero = refl
nested_depth (suc k) = omega (arith, nested_depth k)

nested_size : (k : ℕ) → size (nested_type k) ≡ suc k
unfolding nested_type
nested_size zero = refl
nested_size (suc k) = omega (arith, nested_size k)

nested_within : (k : ℕ) → k ≤ 199 → Within (nested_type k)
nested_within k le = (omega (arith, nested_depth k), omega (arith, nested_size k))

-- 199 of each
nested_passes : (n k : ℕ) → k ≤ 199 → Passes (nested k) n NoTys (nested_type k)
unfolding nested nested_type
nested_passes n zero le = refl
nested_passes n (suc k) le = (
  MoreTys (nested_type k) NoTys,
  refl,
  (nested_type k, NoTys, refl, nested_passes n k (omega arith), refl),
  nested_within (suc k) le,
)

too_deep : (k : ℕ) → 200 ≤ k → depth (nested_type k) ≤ 200 → ⊥
too_deep k le h = omega (arith, nested_depth k)

-- 200 of each
tuple_too_deep : FaultWith (nested 200) 0 NoTys L4 (0, 401) None
unfolding nested nested_type
tuple_too_deep =
    inr (
      MoreTys (nested_type 199) NoTys,
      (nested_type 199, NoTys, refl, nested_passes 0 199 (omega arith), refl),
      inl (too_deep 200 (omega arith), (refl, refl)),
    )

-- fix f(x:T):int. 1, with a T of depth 200
function_too_deep : (s : Spn) (e : Tm) → FaultWith (SFix s (nested_type 199) TInt e) 0 NoTys L4 s None
function_too_deep s e = inl (λ h. omega (arith, nested_depth 199, h), (refl, refl))

-- gen a. and the 199 of each
abstraction_too_deep : (s : Spn) → FaultWith (SGen s (nested 199)) 0 NoTys L4 s None
abstraction_too_deep s =
    inr (
      nested_type 199,
      nested_passes 1 199 (omega arith),
      inl (λ h. omega (arith, nested_depth 199, h), (refl, refl)),
    )

-- (gen a. 1)[T], with a T of depth 201
put_type_too_deep : (s r : Spn) → FaultWith (SInst s (SGen r (one r)) (nested_type 200)) 0 NoTys L4 s None
put_type_too_deep s r =
    inr (TAll TInt, (TInt, refl, refl, (lit≤ tt, lit≤ tt)), inl (too_deep 200 (omega arith), (refl, refl)))

-- gen a. fix f(x:a):a. x
abbrev identity : Spn → Tm
identity r = SGen r (SFix r (TVar 0) (TVar 0) (SVar r 0))

abbrev identity_type : Ty
identity_type = TAll (TArrow (TVar 0) (TVar 0))

identity_passes : (r : Spn) → Passes (identity r) 0 NoTys identity_type
identity_passes r =
    (TArrow (TVar 0) (TVar 0), refl, (refl, lit< tt, lit< tt, (lit≤ tt, lit≤ tt), refl), (lit≤ tt, lit≤ tt))

at_type : (t : Ty) → put 0 t (TArrow (TVar 0) (TVar 0)) ≡ TArrow t t
at_type t = ap (λ u. TArrow u u) (shift_none t)

-- the same at a T of depth 200: the result is an arrow of depth 201
result_too_deep : (s r : Spn) → FaultWith (SInst s (identity r) (nested_type 199)) 0 NoTys L4 s None
result_too_deep s r =
    let within = nested_within 199 (omega arith) in
    inr (
      identity_type,
      identity_passes r,
      inr (
        within.0,
        inr (
          within.1,
          inl (λ h. omega (arith, ap depth (at_type (nested_type 199)), nested_depth 199, h), (refl, refl)),
        ),
      ),
    )

-- as many times int as k
ints : ℕ → Tys
ints zero = NoTys
ints (suc k) = MoreTys TInt (ints k)

ints_size : (k : ℕ) → sizes (ints k) ≡ k
unfolding ints
ints_size zero = refl
ints_size (suc k) = omega (arith, ints_size k)

ints_depth : (k : ℕ) → depths (ints k) ≤ 1
unfolding ints
ints_depth zero = omega arith
ints_depth (suc k) = omega (arith, ints_depth k)

ints_below : (n k : ℕ) → Below n (TTuple (ints k))
unfolding ints
ints_below n zero = tt
ints_below n (suc k) = (tt, ints_below n k)

-- fix f(x:<int,..,int>):int. 1
abbrev wide : ℕ → Spn → Tm
wide k s = SFix s (TTuple (ints k)) TInt (one s)

abbrev wide_type : ℕ → Ty
wide_type k = TArrow (TTuple (ints k)) TInt

wide_within : (k : ℕ) → k ≤ 9997 → Within (wide_type k)
wide_within k le = (omega (arith, ints_depth k), omega (arith, ints_size k))

-- with 9997 times int
wide_passes : (n k : ℕ) (s : Spn) → k ≤ 9997 → Passes (wide k s) n NoTys (wide_type k)
wide_passes n k s le = (refl, ints_below n k, tt, wide_within k le, refl)

-- with 9998
function_too_large : (s : Spn) → FaultWith (wide 9998 s) 0 NoTys L5 s None
function_too_large s = inr (omega (arith, ints_depth 9998), inl (λ h. omega (arith, ints_size 9998, h), (refl, refl)))

-- gen a. and the function with 9997
abstraction_too_large : (s r : Spn) → FaultWith (SGen s (wide 9997 r)) 0 NoTys L5 s None
abstraction_too_large s r =
    inr (
      wide_type 9997,
      wide_passes 1 9997 r (omega arith),
      inr (omega (arith, ints_depth 9997), inl (λ h. omega (arith, ints_size 9997, h), (refl, refl))),
    )

-- (gen a. 1)[<int,..,int>] with 10000
put_type_too_large : (s r : Spn) → FaultWith (SInst s (SGen r (one r)) (TTuple (ints 10000))) 0 NoTys L5 s None
put_type_too_large s r =
    inr (
      TAll TInt,
      (TInt, refl, refl, (lit≤ tt, lit≤ tt)),
      inr (omega (arith, ints_depth 10000), inl (λ h. omega (arith, ints_size 10000, h), (refl, refl))),
    )

-- (gen a. fix f(x:a):a. x)[<int,..,int>] with 4999
result_too_large : (s r : Spn) → FaultWith (SInst s (identity r) (TTuple (ints 4999))) 0 NoTys L5 s None
result_too_large s r =
    let t = TTuple (ints 4999) in
    inr (
      identity_type,
      identity_passes r,
      inr (
        omega (arith, ints_depth 4999),
        inr (
          omega (arith, ints_size 4999),
          inr (
            omega (arith, ap depth (at_type (TTuple (ints 4999))), ints_depth 4999),
            inl (λ h. omega (arith, ap size (at_type (TTuple (ints 4999))), ints_size 4999, h), (refl, refl)),
          ),
        ),
      ),
    )

-- two functions with 4997
tuple_too_large : (s r : Spn) →
    FaultWith (STuple s (MoreTms (wide 4997 r) (MoreTms (wide 4997 r) NoTms))) 0 NoTys L5 s None
tuple_too_large s r =
    let each = wide_passes 0 4997 r (omega arith) in
    inr (
      MoreTys (wide_type 4997) (MoreTys (wide_type 4997) NoTys),
      (wide_type 4997, MoreTys (wide_type 4997) NoTys, refl, each, (wide_type 4997, NoTys, refl, each, refl)),
      inr (omega (arith, ints_depth 4997), inl (λ h. omega (arith, ints_size 4997, h), (refl, refl))),
    )

-- pack[int, 1] as int
shape_is_no_existential :
    FaultWith (SPack (0, 19) TInt (one (10, 11)) TInt) 0 NoTys E16 (0, 19) (odds 0 WPackage TInt)
shape_is_no_existential = (refl, refl)

-- pack[int, <>] as some a. a
pack_does_not_fit :
    FaultWith (SPack (0, 26) TInt (STuple (10, 12) NoTms) (TSome (TVar 0)))
    0 NoTys E17 (10, 12) (odds 0 (WType TInt) (TTuple NoTys))
pack_does_not_fit =
    inr (
      lit≤ tt,
      inr (
        lit≤ tt,
        inr (
          lit≤ tt,
          inr (lit≤ tt, inr (TTuple NoTys, unit_passes (10, 12), inl (λ e. cc, inr (int_within, (refl, refl))))),
        ),
      ),
    )

-- open [a,x] = 1 in 2
opened_is_no_existential :
    FaultWith (SOpen (0, 19) (one (13, 14)) (SNum (18, 19) (pos 2))) 0 NoTys E16 (13, 14) (odds 0 WPackage TInt)
opened_is_no_existential = inr (TInt, refl, (refl, refl))

-- open [a,x] = pack[int,3] as some a. a in x
hidden_is_inside : (t : Ty) → TVar 0 ≡ shift 1 0 t → ⊥
hidden_is_inside t e =
    let same : TInt ≡ t = ap (λ (u : Ty). put 0 TInt u) e ∙ unshift t in
    let h : TVar 0 ≡ TInt = e ∙ ap (λ (u : Ty). shift 1 0 u) (sym same) in cc

hidden_type_escapes :
    FaultWith (SOpen (0, 42) (SPack (13, 37) TInt (SNum (22, 23) (pos 3)) (TSome (TVar 0))) (SVar (41, 42) 0))
    0 NoTys E18 (41, 42) (odds 1 WOutside (TVar 0))
hidden_type_escapes =
    inr (
      TSome (TVar 0),
      (TVar 0, refl, refl, tt, (tt, lit< tt), refl, (lit≤ tt, lit≤ tt), (lit≤ tt, lit≤ tt)),
      inr (TVar 0, refl, inl (λ h. hidden_is_inside h.0 h.1.0, (refl, refl))),
    )

-- !1
read_is_no_reference : FaultWith (SDeref (0, 2) (one (1, 2))) 0 NoTys E21 (1, 2) (odds 0 WReference TInt)
read_is_no_reference = inr (TInt, refl, (refl, refl))

-- 1 := 2
assigned_is_no_reference :
    FaultWith (SAssign (0, 6) (one (0, 1)) (SNum (5, 6) (pos 2))) 0 NoTys E21 (0, 1) (odds 0 WReference TInt)
assigned_is_no_reference = inr (TInt, refl, (refl, refl))

-- (ref 1) := <>
assigned_of_another_type :
    FaultWith (SAssign (0, 13) (SRef (1, 6) (one (5, 6))) (STuple (11, 13) NoTms))
    0 NoTys E22 (11, 13) (odds 0 (WType TInt) (TTuple NoTys))
assigned_of_another_type =
    inr (
      TRef TInt,
      (TInt, refl, refl, (lit≤ tt, lit≤ tt)),
      inr (TTuple NoTys, unit_passes (11, 13), inl (λ e. cc, (refl, refl))),
    )

-- so many `ref`s before a type
refs : ℕ → Ty → Ty
refs zero t = t
refs (suc n) t = TRef (refs n t)

refs_depth : (n : ℕ) (t : Ty) → depth (refs n t) ≡ n + depth t
unfolding refs
refs_depth zero t = omega arith
refs_depth (suc n) t = omega (arith, refs_depth n t)

refs_size : (n : ℕ) (t : Ty) → size (refs n t) ≡ n + size t
unfolding refs
refs_size zero t = omega arith
refs_size (suc n) t = omega (arith, refs_size n t)

refs_put : (n : ℕ) (u t : Ty) → put 0 u (refs n t) ≡ refs n (put 0 u t)
unfolding refs
refs_put zero u t = refl
refs_put (suc n) u t = ap (λ x. TRef x) (refs_put n u t)

no_int : (n : ℕ) (t : Ty) → TInt ≡ refs (suc n) t → ⊥
unfolding refs
no_int n t e = let same : TInt ≡ TRef (refs n t) = e in cc

-- pack[ref .. int, 1] as some a. ref .. a, with 150 `ref`s each: what was wanted passes a limit on types
wanted_is_too_deep :
    FaultWith (SPack (0, 9) (refs 150 TInt) (one (7, 8)) (TSome (refs 150 (TVar 0)))) 0 NoTys E17 (7, 8) None
wanted_is_too_deep =
    let hidden = refs 150 TInt in
    let is : put 0 hidden (refs 150 (TVar 0)) ≡ refs 150 hidden =
    refs_put 150 hidden (TVar 0) ∙ ap (refs 150) (shift_none hidden) in
    let deep = ap depth is ∙ refs_depth 150 hidden in
    inr (
      omega (arith, refs_depth 150 TInt),
      inr (
        omega (arith, refs_size 150 TInt),
        inr (
          omega (arith, refs_depth 150 (TVar 0)),
          inr (
            omega (arith, refs_size 150 (TVar 0)),
            inr (
              TInt,
              refl,
              inl (
                λ e. no_int 149 hidden (e ∙ is),
                inl
                    (λ h. omega (arith, h.0, deep, refs_depth 150 TInt), (refl, refl)),
              ),
            ),
          ),
        ),
      ),
    )
