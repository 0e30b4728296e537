-- Worked examples of programs with data: which keep the invariant, and how deeply they nest.
use Rattle.std.proofs.Common.{◌≡◌, [], ◌∷◌, arith, refl, pos, true}
use Rattle.t_types.specs.Tree.{Ty, IntTy, VarTy, ExistsTy, CodeTy, TupleTy, NoRegs, NoFields, MoreFields}
use Rattle.t_terms.specs.Tree.{Reg, Int, Label, Data, TValue, Plain, Pack, Mov, Ld, Halt, Then, Ends, TBlock, TProg}
use Rattle.t_terms.specs.Whole.{WellFormedProgram}
use Rattle.t_terms.specs.Nesting.{nesting}

-- a block that reads through two data tuples, of which the first holds a label and the address of the second
abbrev block : TBlock
block = record {
  owes = 0;
  file = NoRegs;
  code = Then (Mov 2 (Plain (Data 0) [])) (Then (Ld 2 2 1) (Then (Ld 1 2 0) (Ends Halt)));
}

abbrev heap : TProg
heap = record {
  blocks = block ∷ [];
  heap =
      (record { value = Plain (Label 0) []; ty = CodeTy 0 NoRegs }
      ∷ (record { value = Plain (Data 1) []; ty = TupleTy (MoreFields IntTy true NoFields) } ∷ []))
      ∷ ((record { value = Plain (Int (pos 6)) []; ty = IntTy } ∷ []) ∷ []);
}

whole : WellFormedProgram heap
whole = search arith

-- two brackets are open at once: those of a data tuple, and of a type in it
nests : nesting heap ≡ 2
nests = refl

-- one field of this value and type
abbrev holding : TValue → Ty → TProg
holding v t = record { blocks = block ∷ []; heap = (record { value = v; ty = t } ∷ []) ∷ [] }

-- a register in a data tuple, also in a package
no_register : ¬ WellFormedProgram (holding (Plain (Reg 1) []) IntTy)
no_register w = w.2.0.0.1

no_packed_register : ¬ WellFormedProgram (holding (Pack IntTy (Plain (Reg 1) []) (ExistsTy (VarTy 0)))
    (ExistsTy (VarTy 0)))
no_packed_register w = w.2.0.0.1

-- a type variable in a field's type
not_open : ¬ WellFormedProgram (holding (Plain (Int (pos 1)) []) (VarTy 0))
not_open w = omega (arith, w.2.0.0.2)

-- a data tuple that is not there
not_beyond : ¬ WellFormedProgram (holding (Plain (Data 1) []) (TupleTy NoFields))
not_beyond w = omega (arith, w.2.0.0.0.0)
