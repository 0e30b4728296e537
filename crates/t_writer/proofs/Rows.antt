-- Worked programs: their texts, and how many constructs are open in them.
use Rattle.std.proofs.Common.{◌≡◌, List, [], ◌∷◌, pos, negsuc, codes, refl, true, false}
use Rattle.std.specs.Fmt.{digits}
use Rattle.idx_core.specs.declared.arith.Op.TheVariants.{Mul}
use Rattle.t_types.specs.Tree.{IntTy, VarTy, CodeTy, ExistsTy, TupleTy, NoRegs, MoreRegs, NoFields, MoreFields}
use Rattle.t_terms.specs.Tree.{Reg, Int, Label, Data, Plain, Pack, Arith, Bnz, Ld, Malloc, Mov, St, Unpack, Jmp, Halt}
use Rattle.t_terms.specs.Tree.{Then, Ends, TBlock, TDatum, TProg}
use Rattle.t_writer.specs.Lexeme.{render}
use Rattle.t_terms.specs.Nesting.{nesting}
use Rattle.t_writer.specs.Written.{program_written, second_written}

-- each instruction once
abbrev first : TBlock
first = record {
  owes = 0;
  file = NoRegs;
  code = Then (Malloc 2 (IntTy ∷ (ExistsTy (VarTy 0) ∷ [])))
      (Then (Mov 1 (Plain (Int (negsuc 4)) [])) (Then (St 2 0 1) (Then (Ld 3 2 0)
      (Then (Mov 4 (Pack IntTy (Plain (Reg 3) []) (ExistsTy (VarTy 0))))
      (Then (Unpack 5 (Plain (Reg 4) [])) (Then (Arith Mul 1 3 (Plain (Int (pos 2)) []))
      (Then (Bnz 1 (Plain (Label 1) (VarTy 0 ∷ (IntTy ∷ [])))) (Then (Malloc 6 []) (Ends Halt)))))))));
}

-- two type names, registers and flags
abbrev second : TBlock
second = record {
  owes = 2;
  file = MoreRegs 1 (VarTy 1)
      (MoreRegs 2 (CodeTy 1
      (MoreRegs 1 (TupleTy (MoreFields (VarTy 0) false (MoreFields (VarTy 1) true NoFields))) NoRegs)) NoRegs);
  code = Ends (Jmp (Plain (Reg 2) (VarTy 0 ∷ [])));
}

two_blocks : render (program_written (first ∷ (second ∷ []))) ≡
    codes
    "tal 1\nL0: code[]{}.\nmalloc r2[int, some T0. T0]\nmov r1, ~5\nst r2[0], r1\nld r3, r2[0]\nmov r4, pack[int, r3] as some T0. T0\nunpack[T0, r5], r4\nmul r1, r3, 2\nbnz r1, L1[T0, int]\nmalloc r6[]\nhalt[int]\nL1: code[T0, T1]{r1:T0, r2:all[T2]{r1:<T2^0, T1^1>}}.\njmp r2[T1]\n"
unfolding digits
two_blocks = refl

-- Three data tuples before a block: a value and the type that is written for it, a label of a data tuple that stands
-- after it, a package, a label of a block with a type, and a tuple without fields.
abbrev numbers : List TDatum
numbers = record { value = Plain (Int (pos 5)) []; ty = IntTy }
    ∷ (record { value = Plain (Data 1) []; ty = TupleTy (MoreFields IntTy true NoFields) } ∷ [])

abbrev packed : List TDatum
packed =
    record { value = Pack IntTy (Plain (Int (negsuc 6)) []) (ExistsTy (VarTy 0)); ty = ExistsTy (VarTy 0) }
    ∷ (record { value = Plain (Label 0) (IntTy ∷ []); ty = CodeTy 0 NoRegs } ∷ [])

abbrev loads : TBlock
loads = record { owes = 0; file = NoRegs; code = Then (Mov 2 (Plain (Data 0) [])) (Then (Ld 1 2 0) (Ends Halt)) }

with_data : render (second_written (record { blocks = loads ∷ []; heap = numbers ∷ (packed ∷ ([] ∷ [])) })) ≡
    codes
    "tal 2\nD0: data <5 : int, D1 : <int^1>>\nD1: data <pack[int, ~7] as some T0. T0 : some T0. T0, L0[int] : all[]{}>\nD2: data <>\nL0: code[]{}.\nmov r2, D0\nld r1, r2[0]\nhalt[int]\n"
unfolding digits
with_data = refl

-- a program without data
abbrev only : List TBlock → TProg
only bs = record { blocks = bs; heap = [] }

-- the brackets of `malloc`, and `some` in them; the braces of the file, those of its code type, and the tuple's angles
first_nesting : nesting (only (first ∷ [])) ≡ 2
first_nesting = refl

second_nesting : nesting (only (second ∷ [])) ≡ 3
second_nesting = refl

-- packages: the hidden type and the value are in brackets, and the last type is not
pack_nesting :
    nesting (only
    (record {
      owes = 0;
      file = NoRegs;
      code = Ends (Jmp
          (Pack IntTy (Pack IntTy (Plain (Int (pos 0)) []) IntTy) (ExistsTy (ExistsTy (ExistsTy IntTy)))));
    } ∷ [])) ≡ 3
pack_nesting = refl
