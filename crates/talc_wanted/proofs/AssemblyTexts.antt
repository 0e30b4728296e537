-- Worked lines, proved by computing.
use Rattle.std.proofs.Common.{◌≡◌, ℕ, List, [], refl, codes}
use Rattle.text_core.specs.Lexeme.{item}
use Rattle.t_text.specs.Tokens.{assembly}
use Rattle.talc_wanted.proofs.Worked.{line_by}
use Rattle.talc_wanted.specs.AssemblyText.{wanted_line}

abbrev line : List ℕ → ℕ → ℕ → List ℕ
line = line_by (item assembly) (λ kind s. record { kind = kind; span = s }) wanted_line

empty : line [] 0 0 ≡ codes "wanted one of: tal; found the end"
empty = refl

version : line (codes "tal 3") 4 5 ≡ codes "wanted one of: 1 2; found `3`"
version = refl

-- `halt` without `[int]`
bare_halt : line (codes "tal 1\nL0: code[]{}. halt") 24 24 ≡ codes "wanted one of: [; found the end"
bare_halt = refl

-- a block without its end
no_end : line (codes "tal 1\nL0: code[]{}. mov r1, 5\nL1: code[]{}. halt[int]") 30 32
    ≡ codes "wanted one of: jmp halt [ add sub mul bnz ld st mov malloc unpack; found `L1`"
no_end = refl

unknown_instruction : line (codes "tal 1\nL0: code[]{}. MOV r1, 5 halt[int]") 20 23
    ≡ codes "wanted one of: jmp halt add sub mul bnz ld st mov malloc unpack; found `MOV`"
unknown_instruction = refl

-- a field's type without its flag, and with another number
no_flag : line (codes "tal 1\nL0: code[]{r1:<int>}. halt[int]") 24 25 ≡ codes "wanted one of: ^; found `>`"
no_flag = refl

no_such_flag : line (codes "tal 1\nL0: code[]{r1:<int^2>}. halt[int]") 25 26
    ≡ codes "wanted one of: 0 1; found `2`"
no_such_flag = refl

-- a number is no register, and may stand for a value
number_stored : line (codes "tal 1\nL0: code[]{}. st r2[0], 5 halt[int]") 30 31
    ≡ codes "wanted one of: a register; found `5`"
number_stored = refl

no_value : line (codes "tal 1\nL0: code[]{}. mov r1, halt[int]") 28 32
    ≡ codes "wanted one of: a register a name a number ~1 pack; found `halt`"
no_value = refl

-- there is no line where another place is asked for
elsewhere : line (codes "tal 3") 0 3 ≡ []
elsewhere = refl
