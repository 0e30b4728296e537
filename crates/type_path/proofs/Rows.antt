-- Worked differences, proved by computing.
use Rattle.std.proofs.Common.{◌≡◌, [], ◌∷◌, refl, None, Some, false, true}
use Rattle.f_terms.specs.Ty.{TInt, TVar, TArrow, TAll, TTuple, TSome, TRef, NoTys, MoreTys}
use Rattle.t_types.specs.Tree.{IntTy, VarTy, CodeTy, ExistsTy, TupleTy, NoRegs, MoreRegs, NoFields, MoreFields}
use Rattle.type_path.specs.Source as source
use Rattle.type_path.specs.Assembly as assembly
use Rattle.type_path.specs.Assembly.{FlagOf}
use Rattle.type_path.specs.declared.step.Step.TheVariants.{Argument, Result, Body, Cell, Field, Flag, Register}

-- ---- the source

-- `int -> int` and `<> -> <>`
arguments : source.difference (TArrow TInt TInt) (TArrow (TTuple NoTys) (TTuple NoTys)) ≡ Some (Argument ∷ [])
arguments = refl

-- `<int, int -> int>` and `<int, int -> <>>`, and what stands there
results : source.difference (TTuple (MoreTys TInt (MoreTys (TArrow TInt TInt) NoTys)))
    (TTuple (MoreTys TInt (MoreTys (TArrow TInt (TTuple NoTys)) NoTys))) ≡ Some (Field 2 ∷ Result ∷ [])
results = refl

result_found : source.part (Field 2 ∷ Result ∷ [])
    (TTuple (MoreTys TInt (MoreTys (TArrow TInt (TTuple NoTys)) NoTys))) ≡ Some (TTuple NoTys)
result_found = refl

-- `<int>` and `<int, int>`: the first has no second field
lengths : source.difference (TTuple (MoreTys TInt NoTys)) (TTuple (MoreTys TInt (MoreTys TInt NoTys)))
    ≡ Some (Field 2 ∷ [])
lengths = refl

no_field : source.part (Field 2 ∷ []) (TTuple (MoreTys TInt NoTys)) ≡ None
no_field = refl

-- `all a. ref a` and `all a. ref int`, and `all a. ref a` again, whatever the name is
bodies : source.difference (TAll (TRef (TVar 0))) (TAll (TRef TInt)) ≡ Some (Body ∷ Cell ∷ [])
bodies = refl

equals : source.difference (TAll (TRef (TVar 0))) (TAll (TRef (TVar 0))) ≡ None
equals = refl

-- `some a. a` and `int`
tops : source.difference (TSome (TVar 0)) TInt ≡ Some []
tops = refl

-- ---- assembly

-- where `<int^0>` is wanted `<int^1>` fits, and not the other way round
forgotten : assembly.misfit (TupleTy (MoreFields IntTy false NoFields)) (TupleTy (MoreFields IntTy true NoFields))
    ≡ None
forgotten = refl

unset : assembly.misfit (TupleTy (MoreFields IntTy true NoFields)) (TupleTy (MoreFields IntTy false NoFields))
    ≡ Some (Flag 0 ∷ [])
unset = refl

-- further down flags are compared
inner : assembly.misfit (ExistsTy (TupleTy (MoreFields IntTy false NoFields)))
    (ExistsTy (TupleTy (MoreFields IntTy true NoFields))) ≡ Some (Body ∷ Flag 0 ∷ [])
inner = refl

-- `all[]{r1:int, r3:int}` and `all[]{r1:int, r2:int, r3:int}`: the first lacks r2
registers : assembly.misfit (CodeTy 0 (MoreRegs 1 IntTy (MoreRegs 3 IntTy NoRegs)))
    (CodeTy 0 (MoreRegs 1 IntTy (MoreRegs 2 IntTy (MoreRegs 3 IntTy NoRegs)))) ≡ Some (Register 2 ∷ [])
registers = refl

-- `all[a]{r1:a}` and `all[a]{r1:int}`; and `all[]{r1:int}`, which owes no type
owed : assembly.misfit (CodeTy 1 (MoreRegs 1 (VarTy 0) NoRegs)) (CodeTy 1 (MoreRegs 1 IntTy NoRegs))
    ≡ Some (Register 1 ∷ [])
owed = refl

none_owed : assembly.misfit (CodeTy 1 (MoreRegs 1 (VarTy 0) NoRegs)) (CodeTy 0 (MoreRegs 1 IntTy NoRegs)) ≡ Some []
none_owed = refl

flag_found : assembly.part (Flag 0 ∷ []) (TupleTy (MoreFields IntTy false NoFields)) ≡ Some (FlagOf false)
flag_found = refl
