-- Worked lines, proved by computing.
use Rattle.std.proofs.Common.{◌≡◌, [], refl, codes, None, Some, false, true}
use Rattle.std.specs.Fmt.{digits}
use Rattle.f_terms.specs.Ty.{TInt, TVar, TArrow, TAll, TTuple, NoTys, MoreTys}
use Rattle.f_terms.specs.Mismatch.{WType, WFunction, WField, WOutside}
use Rattle.t_types.specs.Tree.{IntTy, VarTy, CodeTy, ExistsTy, TupleTy, NoRegs, MoreRegs, NoFields, MoreFields}
use Rattle.t_rules.specs.Mismatch.{Types, NoPackage, Register}
use Rattle.talc_faults.specs.Line.{source_line, not_int_line, assembly_line}
use Rattle.talc_faults.specs.Apart.{source_lines, assembly_lines}

none : source_line None ≡ []
none = refl

-- of the operand of `1 + <>`
operand : source_line (Some (record { wanted = WType TInt; found = TTuple NoTys; names = 0 }))
    ≡ codes "wanted int, found <>"
unfolding digits
operand = refl

-- of what is called in `1 2`
called : source_line (Some (record { wanted = WFunction; found = TInt; names = 0 }))
    ≡ codes "wanted T1 -> T2, found int"
unfolding digits
called = refl

-- of `#3 <1,2>`
field : source_line (Some (record { wanted = WField; found = TTuple (MoreTys TInt (MoreTys TInt NoTys)); names = 0 }))
    ≡ codes "wanted a tuple with this field, found <int, int>"
unfolding digits
field = refl

-- of what an `open` inside one type name hands out
escape : source_line
    (Some (record { wanted = WOutside; found = TTuple (MoreTys (TVar 0) (MoreTys (TVar 1) NoTys)); names = 2 }))
    ≡ codes "wanted a type without t1, found <t1, t0>"
unfolding digits
escape = refl

-- of the whole `gen a. 1`
program : not_int_line (TAll TInt) ≡ codes "wanted int, found all t0. int"
unfolding digits
program = refl

-- of an argument `all a. a -> int`, where `all a. a -> a` was wanted, inside one type name
apart : source_lines
    (Some (record { wanted = WType (TAll (TArrow (TVar 0) (TVar 0))); found = TAll (TArrow (TVar 0) TInt); names = 1 }))
    ≡ codes "wanted all t1. t1 -> t1, found all t1. t1 -> int\nat the body, then the result: wanted t1, found int"
unfolding digits
apart = refl

-- where they differ at the top there is no second line
alone : source_lines (Some (record { wanted = WType TInt; found = TTuple NoTys; names = 0 }))
    ≡ codes "wanted int, found <>"
unfolding digits
alone = refl

no_types : assembly_line None ≡ []
no_types = refl

-- of a field that wants an integer, and a tuple whose field is not set
stored : assembly_line (Some (Types IntTy (TupleTy (MoreFields IntTy false NoFields)) 0))
    ≡ codes "wanted int, found <int^0>"
unfolding digits
stored = refl

-- of a shape that is no package type
shape : assembly_line (Some (NoPackage IntTy 0)) ≡ codes "wanted some a. T, found int"
unfolding digits
shape = refl

-- of a target that wants r2, of which nothing is known
missing : assembly_line (Some (Register 2 IntTy None 0)) ≡ codes "wanted r2:int, found nothing"
unfolding digits
missing = refl

-- of one that wants an integer in r1, where that is a label
label : assembly_line (Some (Register 1 IntTy (Some (CodeTy 0 (MoreRegs 1 IntTy NoRegs))) 0))
    ≡ codes "wanted r1:int, found r1:all[]{r1:int}"
unfolding digits
label = refl

-- of a field that wants a tuple whose field is set
unset : assembly_lines
    (Some (Types (TupleTy (MoreFields IntTy true NoFields)) (TupleTy (MoreFields IntTy false NoFields)) 0))
    ≡ codes "wanted <int^1>, found <int^0>\nat the flag of field 0: wanted ^1, found ^0"
unfolding digits
unset = refl

-- of r2 that a target wants with a package of the one type name in scope, which `a0` is, and that holds a package of
-- the type that it hides
below : assembly_lines (Some (Register 2 (ExistsTy (VarTy 1)) (Some (ExistsTy (VarTy 0))) 1))
    ≡ codes "wanted r2:some t0. a0, found r2:some t0. t0\nat the body: wanted a0, found t0"
unfolding digits
below = refl

-- of a label that wants nothing, where one that wants r1 is asked for
lacking : assembly_lines (Some (Register 1 (CodeTy 0 (MoreRegs 1 IntTy NoRegs)) (Some (CodeTy 0 NoRegs)) 0))
    ≡ codes "wanted r1:all[]{r1:int}, found r1:all[]{}\nat register r1: wanted int, found nothing"
unfolding digits
lacking = refl
