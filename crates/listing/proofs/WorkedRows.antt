-- Worked rows, proved by computing.
use Rattle.std.proofs.Common.{◌≡◌, [], ℕ, Some, None, refl, codes}
use Rattle.std.specs.Fmt.{digits}
use Rattle.idx_core.specs.declared.span.Span.{Span}
use Rattle.t_types.specs.Tree.{IntTy, VarTy, TupleTy, NoFields, MoreFields, NoRegs, MoreRegs}
use Rattle.std.proofs.Common.{true, false}
use Rattle.listing.specs.Listing.{file_row, label_end, line_end, register_row, text_row}

abbrev place : (start end : ℕ) → Span
place from to = record { start = from; end = to }

-- a label on the second line, and an instruction behind it
a_label : text_row (codes "tal 1\nL0: code[]{}. mov r1, 5") (place 6 8) label_end ≡ codes "2 | L0:\n"
unfolding digits
a_label = refl

an_instruction : text_row (codes "tal 1\nL0: code[]{}. mov r1, 5") (place 20 29) line_end ≡ codes "2 | mov r1, 5\n"
unfolding digits
an_instruction = refl

-- an instruction on two lines is shown on one
two_lines : text_row (codes "tal 1\nmov r1,\n\t5") (place 6 16) line_end ≡ codes "2 | mov r1,  5\n"
unfolding digits
two_lines = refl

-- nothing is known of the registers
no_registers : file_row 0 0 0 NoRegs ≡ codes "    b0.0 {}\n"
unfolding digits
no_registers = refl

two_registers : file_row 12 3 1 (MoreRegs 1 (VarTy 0) (MoreRegs 3 IntTy NoRegs))
    ≡ codes "    b12.3 {r1:a0, r3:int}\n"
unfolding digits
two_registers = refl

-- the type of a register that was set, or none
a_register : register_row 0 2 (Some (TupleTy (MoreFields IntTy true (MoreFields IntTy false NoFields))))
    ≡ codes "    r2:<int^1, int^0>\n"
unfolding digits
a_register = refl

no_register : register_row 0 2 None ≡ []
no_register = refl
