-- Small rows, by computation: two registers stay, and 3 to 8 are the spilled program's own.
use Rattle.std.proofs.Common.{◌≡◌, refl, [], ◌∷◌}
use Rattle.std.specs.Prelude.{pos, true}
use Rattle.idx_core.specs.declared.arith.Op.{Op}
use Rattle.t_types.specs.Tree.{IntTy, VarTy, CodeTy, ExistsTy, TupleTy, TFile, NoRegs, MoreRegs, NoFields, MoreFields}
use Rattle.t_terms.specs.Tree.{Plain, Int, Label, Mov, Arith, Malloc, St, Ld, Bnz, Unpack, Then, Ends, Jmp, Halt}
use Rattle.t_terms.specs.Tree.{TProg}
use Rattle.t_spill_rules.specs.Spill.{lows, sp, reg, code, layout}

pub within_eight : lows 8 ≡ 2
within_eight = refl

-- a type of code: its third and fourth registers are in a frame
pub code_type : sp 2 (CodeTy 0 (MoreRegs 1 IntTy (MoreRegs 3 IntTy (MoreRegs 4 IntTy NoRegs)))) ≡
    CodeTy 0
    (MoreRegs 1 IntTy (MoreRegs 3 (TupleTy (MoreFields IntTy true (MoreFields IntTy true NoFields))) NoRegs))
code_type = refl

abbrev no_program : TProg
no_program = record { blocks = []; heap = [] }

-- two slots, filled and read
pub slots_row : (op : Op) →
    code 2 no_program (layout 2 NoRegs) NoRegs
    (Then (Mov 1 (Plain (Int (pos 1)) [])) (Then (Mov 4 (Plain (Int (pos 7)) []))
    (Then (Mov 3 (reg 4)) (Then (Arith op 1 4 (reg 3)) (Ends Halt)))))
    ≡ Then (Mov 1 (Plain (Int (pos 1)) [])) (Then (Mov 5 (Plain (Int (pos 7)) []))
    (Then (Malloc 4 (IntTy ∷ IntTy ∷ [])) (Then (St 4 0 5) (Then (Ld 6 4 0) (Then (Mov 5 (reg 6)) (Then (St 4 1 5)
    (Then (Ld 5 4 0) (Then (Ld 6 4 1) (Then (Arith op 1 5 (reg 6)) (Ends Halt))))))))))
slots_row op = refl

-- what a target takes
abbrev three : TFile
three = MoreRegs 1 IntTy (MoreRegs 3 IntTy (MoreRegs 4 IntTy NoRegs))

abbrev target : TProg
target = record { blocks = record { owes = 0; file = three; code = Ends Halt } ∷ []; heap = [] }

-- its frame is made, and stands in register 3 behind it; the old one is back behind a branch that is not taken
pub branch_row :
    code 2 target (layout 2 three) three
    (Then (Bnz 4 (Plain (Label 0) [])) (Ends (Jmp (Plain (Label 0) []))))
    ≡
    (Then (Malloc 7 (IntTy ∷ IntTy ∷ [])) (Then (Ld 6 3 0) (Then (St 7 0 6) (Then (Ld 6 3 1) (Then (St 7 1 6)
    (Then (Ld 5 3 1) (Then (Mov 8 (reg 3)) (Then (Mov 3 (reg 7)) (Then (Bnz 5 (Plain (Label 1) []))
    (Then (Mov 3 (reg 8)) (Then (Malloc 7 (IntTy ∷ IntTy ∷ [])) (Then (Ld 6 3 0) (Then (St 7 0 6) (Then (Ld 6 3 1)
    (Then (St 7 1 6) (Then (Mov 3 (reg 7)) (Ends (Jmp (Plain (Label 1) [])))))))))))))))))))
branch_row = refl

-- a package in register 3, and the frame that an unpack makes of the two registers that the rest wants
abbrev packed : TFile
packed = MoreRegs 3 (ExistsTy (VarTy 0)) (MoreRegs 4 IntTy NoRegs)

pub unpack_row :
    code 2 no_program (layout 2 packed) packed
    (Then (Unpack 5 (reg 3)) (Then (Mov 1 (reg 5)) (Then (Mov 1 (reg 4)) (Ends Halt))))
    ≡
    (Then (Ld 6 3 0) (Then (Unpack 5 (reg 6)) (Then (Malloc 7 (IntTy ∷ VarTy 0 ∷ [])) (Then (Ld 6 3 1)
    (Then (St 7 0 6) (Then (St 7 1 5) (Then (Mov 3 (reg 7)) (Then (Ld 6 3 1) (Then (Mov 1 (reg 6)) (Then (Ld 6 3 0)
    (Then (Mov 1 (reg 6)) (Ends Halt))))))))))))
unpack_row = refl
