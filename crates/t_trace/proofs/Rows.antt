-- Worked lines, proved by computing.
use Rattle.std.proofs.Common.{◌≡◌, Bool, [], ◌∷◌, true, false, refl, codes}
use Rattle.std.specs.Prelude.{pos, negsuc}
use Rattle.std.specs.Fmt.{digits}
use Rattle.t_types.specs.Tree.{Ty, IntTy, VarTy, CodeTy, ExistsTy, TupleTy, NoRegs, MoreRegs, NoFields, MoreFields}
use Rattle.t_terms.specs.declared.shown.Shown.TheVariants.{Int, Tuple, Label}
use Rattle.t_trace.specs.Line.{text_at, line_text}

-- a tuple of one field
abbrev one : Bool → Ty
one flag = TupleTy (MoreFields IntTy flag NoFields)

-- two registers with one tuple, of which the second does not know yet that the field is filled
filled_by_one : line_text 4 0 4 0 ((1, Tuple 0) ∷ (2, Tuple 0) ∷ (3, Int (pos 5)) ∷ [])
    (MoreRegs 1 (one true) (MoreRegs 2 (one false) (MoreRegs 3 IntTy NoRegs)))
    ≡ codes "4 b0.4 {r1=@0:<int^1>, r2=@0:<int^0>, r3=5:int}\n"
unfolding digits
filled_by_one = refl

not_filled : line_text 3 0 3 0 ((1, Tuple 0) ∷ (2, Tuple 0) ∷ (3, Int (pos 5)) ∷ [])
    (MoreRegs 1 (one false) (MoreRegs 2 (one false) (MoreRegs 3 IntTy NoRegs)))
    ≡ codes "3 b0.3 {r1=@0:<int^0>, r2=@0:<int^0>, r3=5:int}\n"
unfolding digits
not_filled = refl

loaded : line_text 5 0 5 0 ((1, Int (pos 5)) ∷ (2, Tuple 0) ∷ (3, Int (pos 5)) ∷ [])
    (MoreRegs 1 IntTy (MoreRegs 2 (one false) (MoreRegs 3 IntTy NoRegs)))
    ≡ codes "5 b0.5 {r1=5:int, r2=@0:<int^0>, r3=5:int}\n"
unfolding digits
loaded = refl

-- a block for any type
any_type : line_text 3 1 0 1 ((1, Int (pos 5)) ∷ (2, Label 2) ∷ [])
    (MoreRegs 1 (VarTy 0) (MoreRegs 2 (CodeTy 0 (MoreRegs 1 (VarTy 0) NoRegs)) NoRegs))
    ≡ codes "3 b1.0 {r1=5:a0, r2=L2:all[]{r1:a0}}\n"
unfolding digits
any_type = refl

-- nothing is known
nothing : line_text 0 0 0 0 [] NoRegs ≡ codes "0 b0.0 {}\n"
unfolding digits
nothing = refl

-- a negative number
negative : line_text 1 0 1 0 ((1, Int (negsuc 6)) ∷ []) (MoreRegs 1 IntTy NoRegs) ≡ codes "1 b0.1 {r1=~7:int}\n"
unfolding digits
negative = refl

-- The first name of a place is number 0, and has the greatest index. Names that a type binds count from the outermost
-- on, those of a list in its order; two names of the place stand beside them.
names : text_at 2 0
    (ExistsTy (CodeTy 2
    (MoreRegs 1 (VarTy 0)
    (MoreRegs 2 (VarTy 1) (MoreRegs 3 (VarTy 2) (MoreRegs 4 (VarTy 3) (MoreRegs 5 (VarTy 4) NoRegs)))))))
    ≡ codes "some t0. all[t1, t2]{r1:t2, r2:t1, r3:t0, r4:a1, r5:a0}"
unfolding digits
names = refl

-- the empty tuple, and a field whose type has a name of its own
fields : text_at 1 0
    (TupleTy (MoreFields (TupleTy NoFields) true
    (MoreFields (ExistsTy (TupleTy (MoreFields (VarTy 0) true (MoreFields (VarTy 1) false NoFields)))) false
    NoFields)))
    ≡ codes "<<>^1, some t0. <t0^1, a0^0>^0>"
unfolding digits
fields = refl
