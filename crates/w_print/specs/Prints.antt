-- What the blocks do with each word of 64 bits.
use Rattle.std.specs.Prelude.{◌≡◌, ℕ, ◌+◌, ◌*◌, ◌<◌, ◌^◌, List, [], ◌∷◌, ◌++◌, Some}
use Rattle.std.specs.Int.{cast_signed, w64}
use Rattle.w_terms.specs.Tree.{WSeq}
use Rattle.w_terms.specs.Machine.{WRegs, Memory, Written, Put, WState, WAt, wrun, ExitsWith}
use Rattle.w_print.specs.Blocks.{print_code, integer_line, HasBlocks, HasTable}

-- Where the five blocks and the table are there, and register q has a word, the code in front of them writes the line
-- of the integer that the word stands for, in one piece and behind all that was written, and exits with 0.
abbrev pub PrintsInteger : Type 0
PrintsInteger =
    (place : ℕ → ℕ) (blocks : List WSeq) (table l x q : ℕ) (R : WRegs) (m : Memory) (log : List Written) →
    HasBlocks table l blocks → HasTable table m → table ≡ 8 * x → table + 184 < 2 ^ 64 → R q < 2 ^ 64 →
    (n : ℕ) × (end : WState) × (wrun place blocks n (WAt R m log (print_code table l q)) ≡ Some end)
    × ExitsWith end 0 (log ++ (Put 1 (integer_line (cast_signed w64 (R q))) ∷ []))
