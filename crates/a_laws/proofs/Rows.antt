-- Worked rows of allocation: hoisted terms and what they become, held beside the relation, and allocated terms that no
-- hoisted term stands behind.
use Rattle.std.proofs.Common.{Some, pos, ◌≡◌, ℕ, zero, suc, List, [], ◌∷◌, ◌++◌, refl, arith, inl, inr}
use Rattle.std.specs.Prelude.{true}
use Rattle.idx_core.specs.declared.arith.Op.TheVariants.{Add}
use Rattle.a_terms.specs.Meaning.{Halted, meaning}
use Rattle.a_terms.specs.Tree.{AInt, AVar, ATuple, AExists, ATy, NoATys, MoreATys, MoreAFields, NoAFields, Var, Num}
use Rattle.a_terms.specs.Tree.{AProg, Lab, Data, Apply, Pack, Value, Proj, Arith, Malloc, Init, ATm, Let, Halt}
use Rattle.c_terms.specs.C.{CTy, TCInt, TCRef, TCVar, TCExists, NoCTys, MoreCTys}
use Rattle.h_terms.specs.H.{HVar, HInt, HLabel, HTuple, HApply, HPack, HVal, NoHVals, MoreHVals, HName, HProj, HCell}
use Rattle.h_terms.specs.H.{HGet, HSet, HTm, HLet, HHalt, HBlk}
use Rattle.a_laws.specs.Allocate.{alloc_data, alloc_main, alloc_prog, atype}
use Rattle.a_laws.specs.Back.{back_data, back_t}
use Rattle.a_laws.specs.Constants.{settle_t, tuples_in}
use Rattle.a_laws.specs.Stands.{scope, Any, Stands, Stands_t, Thing}

abbrev any : CTy
any = TCExists (TCVar 0)

abbrev one : HVal → HVal
one v = HTuple (MoreHVals v NoHVals)

abbrev both : HVal → HVal → HVal
both v w = HTuple (MoreHVals v (MoreHVals w NoHVals))

abbrev single : ATy
single = ATuple (MoreAFields AInt true NoAFields)

abbrev pair : ATy
pair = ATuple (MoreAFields AInt true (MoreAFields (ATuple NoAFields) true NoAFields))

-- x = <1, <>>; y = <x, <7>>; z = #2 y; w = #1 z; halt w: all four tuples are data, and x is written out in the last one
abbrev written_out : HTm
written_out =
    HLet (HName (both (HInt (pos 1)) (HTuple NoHVals)))
    (HLet (HName (both (HVar 0) (one (HInt (pos 7)))))
    (HLet (HProj 2 (HVar 0)) (HLet (HProj 1 (HVar 0)) (HHalt (HVar 0)))))

abbrev written_out_made : ATm
written_out_made =
    Let (Value (Data 1)) (Let (Value (Data 3)) (Let (Proj 2 (Var 0)) (Let (Proj 1 (Var 0)) (Halt (Var 0)))))

written_out_is_made : alloc_main [] written_out ≡ written_out_made
written_out_is_made = refl

written_out_data : alloc_data [] written_out
    ≡ []
    ∷ (record { value = Num (pos 1); kind = AInt } ∷ record { value = Data 0; kind = ATuple NoAFields } ∷ [])
    ∷ (record { value = Num (pos 7); kind = AInt } ∷ [])
    ∷ (record { value = Data 1; kind = pair } ∷ record { value = Data 2; kind = single } ∷ [])
    ∷ []
written_out_data = refl

written_out_runs : meaning (alloc_prog [] written_out) (alloc_main [] written_out) 0 ≡ Halted (pos 7) []
written_out_runs = refl

-- put back, it is that term with <1, <>> in the place of x in the second tuple
abbrev settled : HTm
settled =
    HLet (HName (both (HInt (pos 1)) (HTuple NoHVals)))
    (HLet (HName (both (both (HInt (pos 1)) (HTuple NoHVals)) (one (HInt (pos 7)))))
    (HLet (HProj 2 (HVar 0)) (HLet (HProj 1 (HVar 0)) (HHalt (HVar 0)))))

written_out_is_settled : settle_t [] written_out ≡ settled
written_out_is_settled = refl

written_out_is_put_back : back_t (tuples_in [] written_out) [] 0 written_out_made ≡ settled
written_out_is_put_back = refl

written_out_data_back : back_data (tuples_in [] written_out) (alloc_data [] written_out) ≡ tuples_in [] written_out
written_out_data_back = refl

-- p = pack[int, 5]; q = p; t = <q, p>; u = <pack[.., q]>; halt 0: the pair of a named package is data; a package of q
-- is no constant, so the last tuple is made
abbrev packages : HTm
packages =
    HLet (HName (HPack TCInt (HInt (pos 5)) any))
    (HLet (HName (HVar 0))
    (HLet (HName (both (HVar 0) (HVar 1))) (HLet (HName (one (HPack any (HVar 1) any))) (HHalt (HInt (pos 0))))))

packages_data : alloc_data [] packages
    ≡ (record { value = Pack AInt (Num (pos 5)) (AExists (AVar 0)); kind = AExists (AVar 0) }
    ∷ record { value = Pack AInt (Num (pos 5)) (AExists (AVar 0)); kind = AExists (AVar 0) } ∷ [])
    ∷ []
packages_data = refl

packages_are_made : alloc_main [] packages
    ≡ Let (Value (Pack AInt (Num (pos 5)) (AExists (AVar 0))))
    (Let (Value (Var 0))
    (Let (Value (Data 0))
    (Let (Malloc (MoreATys (AExists (AVar 0)) NoATys))
    (Let (Init (Var 0) 1 (Pack (AExists (AVar 0)) (Var 2) (AExists (AVar 0))))
    (Let (Value (Var 0)) (Halt (Num (pos 0))))))))
packages_are_made = refl

-- c = ref 1; t = <c>; p = pack[.., <pack[int, 5]>]; halt 0: a cell is never data, nor a tuple of it; a package of a
-- tuple of packages is a constant
abbrev mixed : HTm
mixed =
    HLet (HCell (HInt (pos 1)))
    (HLet (HName (one (HVar 0)))
    (HLet (HName (HPack any (one (HPack TCInt (HInt (pos 5)) any)) any)) (HHalt (HInt (pos 0)))))

mixed_data : alloc_data [] mixed
    ≡ (record { value = Pack AInt (Num (pos 5)) (AExists (AVar 0)); kind = AExists (AVar 0) } ∷ []) ∷ []
mixed_data = refl

mixed_is_made : alloc_main [] mixed
    ≡ Let (Malloc (MoreATys AInt NoATys))
    (Let (Init (Var 0) 1 (Num (pos 1)))
    (Let (Malloc (MoreATys single NoATys))
    (Let (Init (Var 0) 1 (Var 1))
    (Let (Value (Var 0))
    (Let (Value (Pack (AExists (AVar 0)) (Data 0) (AExists (AVar 0)))) (Halt (Num (pos 0))))))))
mixed_is_made = refl

-- under a type variable: a label applied to it is no constant, one applied to int is
abbrev applied : HBlk
applied = record {
  owes = 1;
  args = NoCTys;
  body =
      HLet (HName (one (HApply (HLabel 0) (MoreCTys (TCVar 0) NoCTys))))
      (HLet (HName (one (HApply (HLabel 0) (MoreCTys TCInt NoCTys)))) (HHalt (HInt (pos 0))));
}

applied_data : (t : ATy) × (alloc_data (applied ∷ []) (HHalt (HInt (pos 0)))
    ≡ (record { value = Apply (Lab 0) (MoreATys AInt NoATys); kind = t } ∷ []) ∷ [])
applied_data = (_, refl)

-- a block with an argument: a tuple of it is made; what a projection names is no constant
abbrev argument : HBlk
argument = record {
  owes = 0;
  args = MoreCTys TCInt NoCTys;
  body =
      HLet (HName (one (HVar 0)))
      (HLet (HName (one (HInt (pos 2))))
      (HLet (HProj 1 (HVar 0)) (HLet (HName (one (HVar 0))) (HHalt (HInt (pos 0))))));
}

argument_data : alloc_data (argument ∷ []) (HLet (HName (one (HInt (pos 3)))) (HHalt (HInt (pos 0))))
    ≡ (record { value = Num (pos 2); kind = AInt } ∷ []) ∷ (record { value = Num (pos 3); kind = AInt } ∷ []) ∷ []
argument_data = refl

-- the data of the main term come after those of the blocks
argument_main : alloc_main (argument ∷ []) (HLet (HName (one (HInt (pos 3)))) (HHalt (HInt (pos 0))))
    ≡ Let (Value (Data 1)) (Halt (Num (pos 0)))
argument_main = refl

-- c = ref 2; y = !c; x = <1, <y>>; z = #1 x; halt z
abbrev nested : HTm
nested =
    HLet (HCell (HInt (pos 2)))
    (HLet (HGet (HVar 0))
    (HLet (HName (both (HInt (pos 1)) (one (HVar 0)))) (HLet (HProj 1 (HVar 0)) (HHalt (HVar 0)))))

-- the inner tuple is made and filled first, and then the outer one:
-- k = malloc[int]; c = k[1] <- 2; y = #1 c; i = malloc[int]; j = i[1] <- y; o = malloc[int, <int>]; p = o[1] <- 1;
-- q = p[2] <- j; x = q; z = #1 x; halt z
abbrev nested_made : ATm
nested_made =
    Let (Malloc (MoreATys AInt NoATys))
    (Let (Init (Var 0) 1 (Num (pos 2)))
    (Let (Proj 1 (Var 0))
    (Let (Malloc (MoreATys AInt NoATys))
    (Let (Init (Var 0) 1 (Var 1))
    (Let (Malloc (MoreATys AInt (MoreATys single NoATys)))
    (Let (Init (Var 0) 1 (Num (pos 1)))
    (Let (Init (Var 0) 2 (Var 2)) (Let (Value (Var 0)) (Let (Proj 1 (Var 0)) (Halt (Var 0)))))))))))

nested_is_made : alloc_main [] nested ≡ nested_made
nested_is_made = refl

-- a cell is always a fresh tuple of one field, an assignment one more initialisation that names the empty tuple:
-- c = ref 3; u = c := 4; y = !c; halt y
abbrev cell : HTm
cell =
    HLet (HCell (HInt (pos 3))) (HLet (HSet (HVar 0) (HInt (pos 4))) (HLet (HGet (HVar 1)) (HHalt (HVar 0))))

-- k = malloc[int]; c = k[1] <- 3; l = c[1] <- 4; u = malloc[]; y = #1 c; halt y
abbrev cell_made : ATm
cell_made =
    Let (Malloc (MoreATys AInt NoATys))
    (Let (Init (Var 0) 1 (Num (pos 3)))
    (Let (Init (Var 0) 1 (Num (pos 4)))
    (Let (Malloc NoATys) (Let (Proj 1 (Var 2)) (Halt (Var 0))))))

cell_is_made : alloc_main [] cell ≡ cell_made
cell_is_made = refl

cell_stands : Stands_t (scope [] [] [] 0) [] cell_made Any cell
cell_stands =
    inr (
      refl,
      (
        _,
        _,
        refl,
        refl,
        refl,
        refl,
        refl,
        (
          _,
          _,
          _,
          refl,
          refl,
          refl,
          refl,
          refl,
          (refl, (_, _, inr (refl, refl), refl, refl, (_, refl, refl, refl))),
        ),
      ),
    )

reference : atype (TCRef TCInt) ≡ ATuple (MoreAFields AInt true NoAFields)
reference = refl

-- p = malloc[int]; q = p[2] <- 5; halt 0: filled from the second field on, it stands for no hoisted term
abbrev second_field : ATm
second_field = Let (Malloc (MoreATys AInt NoATys)) (Let (Init (Var 0) 2 (Num (pos 5))) (Halt (Num (pos 0))))

not_first : (i : ℕ) → i ≡ 2 → i ≡ 1 → ⊥
not_first i two one = omega (arith, two, one)

not_second : (ds : List HVal) (h : HTm) → Stands_t (scope ds [] [] 0) [] second_field Any h → ⊥
not_second ds h (inl (zero, many, (y, left, var, field, means, at, rest))) = not_first 2 refl field
not_second ds h (inl (suc n, many, (y, var, field, means, rest))) = not_first 2 refl field
not_second ds h (inr (one, (x, t, var, field, is, means, takes, rest))) = not_first 2 refl field

-- p = malloc[int, int]; q = p[1] <- 5; r = q[2] <- 6; halt 0: a tuple that nothing takes stands for no hoisted term
abbrev idle : ATm
idle =
    Let (Malloc (MoreATys AInt (MoreATys AInt NoATys)))
    (Let (Init (Var 0) 1 (Num (pos 5))) (Let (Init (Var 0) 2 (Num (pos 6))) (Halt (Num (pos 0)))))

none_left : (xs : List Thing) (x : Thing) → [] ≡ xs ++ x ∷ [] → ⊥
none_left [] x e = cc
none_left (y ∷ xs) x e = cc

more_than_two : (n : ℕ) → 2 ≡ suc (suc (suc n)) → ⊥
more_than_two n e = omega (arith, e)

not_idle : (ds : List HVal) (h : HTm) → Stands_t (scope ds [] [] 0) [] idle Any h → ⊥
not_idle ds h (inl (zero, many, (y, left, var, field, means, at, (x, z, t, set, is, vx, vz, takes, rest)))) =
    not_first 2 refl set
not_idle ds h
    (inl (suc zero, many, (y, var, field, means, (z, left, var2, field2, means2, at, (x, is, value, takes))))) =
    none_left left _ takes
not_idle ds h (inl (suc (suc n), many, rest)) = more_than_two n many
not_idle ds h (inr (one, rest)) = not_first 2 refl one

-- n = 1 + 2; t = malloc[int, int]; t1 = t[1] <- n; t2 = t1[2] <- 4; t3 = t1[2] <- 5;
-- u = malloc[<int, int>, <int, int>]; u1 = u[1] <- t2; u2 = u1[2] <- t3; x = u2; y = #1 x; z = #2 y; halt z:
-- one tuple in the place of two is filled twice, and halts with 5, where n = 1 + 2; x = <<n, 4>, <n, 5>>; y = #1 x;
-- z = #2 y; halt z halts with 4; it stands for no hoisted term
abbrev full : ATy
full = ATuple (MoreAFields AInt true (MoreAFields AInt true NoAFields))

abbrev shared : ATm
shared =
    Let (Arith Add (Num (pos 1)) (Num (pos 2)))
    (Let (Malloc (MoreATys AInt (MoreATys AInt NoATys)))
    (Let (Init (Var 0) 1 (Var 1))
    (Let (Init (Var 0) 2 (Num (pos 4)))
    (Let (Init (Var 1) 2 (Num (pos 5)))
    (Let (Malloc (MoreATys full (MoreATys full NoATys)))
    (Let (Init (Var 0) 1 (Var 2))
    (Let (Init (Var 0) 2 (Var 2))
    (Let (Value (Var 0)) (Let (Proj 1 (Var 0)) (Let (Proj 2 (Var 0)) (Halt (Var 0))))))))))))

shared_halts : meaning (record { blocks = []; tuples = [] }) shared 0 ≡ Halted (pos 5) []
shared_halts = refl

not_shared : (ds : List HVal) (h : HTm) → Stands_t (scope ds [] [] 0) [] shared Any h → ⊥
not_shared ds h (
  x,
  y,
  t,
  is,
  vx,
  vy,
  takes,
  inl (zero, many, (z, left, var, field, means, at, (a, b, c, set, set_is, va, vb, set_takes, rest))),
) =
    not_first 2 refl set
not_shared ds h (
  x,
  y,
  t,
  is,
  vx,
  vy,
  takes,
  inl (
    suc zero,
    many,
    (z, var, field, means, (w, left, var2, field2, means2, at, (a, b, c, set, set_is, va, vb, set_takes, rest))),
  ),
) =
    not_first 2 refl set
not_shared ds h (x, y, t, is, vx, vy, takes, inl (suc (suc n), many, rest)) = more_than_two n many
not_shared ds h (x, y, t, is, vx, vy, takes, inr (one, rest)) = not_first 2 refl one

-- x = <7>; y = <7>; z = #1 y; halt z: where the other one of two equal data is named each time, that is not the
-- allocation, and stands for it too
abbrev twins : HTm
twins =
    HLet (HName (one (HInt (pos 7))))
    (HLet (HName (one (HInt (pos 7)))) (HLet (HProj 1 (HVar 0)) (HHalt (HVar 0))))

abbrev exchanged : ATm
exchanged = Let (Value (Data 1)) (Let (Value (Data 0)) (Let (Proj 1 (Var 0)) (Halt (Var 0))))

exchanged_stands : Stands (alloc_prog [] twins) exchanged [] twins
exchanged_stands = (
  (_, _, refl, (_, _, refl, refl, refl), (_, _, refl, (_, _, refl, refl, refl), refl)),
  ((refl, tt), ((refl, tt), tt)),
  tt,
  (
    _,
    _,
    refl,
    (_, _, refl, refl, refl),
    refl,
    (_, _, refl, (_, _, refl, refl, refl), refl, (_, _, inl refl, refl, refl, (_, refl, refl, refl))),
  ),
)

exchanged_halts : meaning (alloc_prog [] twins) exchanged 0 ≡ Halted (pos 7) []
exchanged_halts = refl

-- nor may the type that is written at a field of data be another than its value's
abbrev mistyped : AProg
mistyped = record { blocks = []; tuples = (record { value = Num (pos 7); kind = ATuple NoAFields } ∷ []) ∷ [] }

not_of_type : (main : ATm) (h : HTm) → Stands mistyped main [] h → ⊥
not_of_type main h s = not_int s.1.0.0
  where
    not_int : Some AInt ≡ Some (ATuple NoAFields) → ⊥
    not_int e = cc
