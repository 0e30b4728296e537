-- Lines and columns of places in a text.
use Rattle.std.specs.Prelude.{ℕ, ◌+◌, ◌-◌, ◌==◌, min, Bool, List, [], ◌∷◌, take, drop, length, if◌then◌else◌}
use Rattle.std.specs.List.{count_by}

abbrev pub ends_line : ℕ → Bool
ends_line byte = byte == 10

-- how many lines these bytes stand on, where a line end stands behind the last of them
abbrev pub lines : List ℕ → ℕ
lines bytes = count_by ends_line bytes + 1

-- where the last line of these bytes begins: behind the last line end; i stand before them, and the line of the first
-- of them begins at `begin`
abbrev pub last_begin : (begin i : ℕ) → List ℕ → ℕ
last_begin begin i [] = begin
last_begin begin i (byte ∷ bytes) = last_begin (if ends_line byte then i + 1 else begin) (i + 1) bytes

-- the bytes up to the first line end
abbrev pub first_line : List ℕ → List ℕ
first_line [] = []
first_line (byte ∷ bytes) = if ends_line byte then [] else byte ∷ first_line bytes

-- The line of byte n of the text: its number, from 1 on; where it begins; its bytes, without the line end. A line end
-- stands on the line that it ends, and a place behind the text is its end.
abbrev pub line_number : List ℕ → ℕ → ℕ
line_number text n = lines (take n text)

abbrev pub line_begin : List ℕ → ℕ → ℕ
line_begin text n = last_begin 0 0 (take n text)

abbrev pub line_at : List ℕ → ℕ → List ℕ
line_at text n = first_line (drop (line_begin text n) text)

-- how many bytes stand before byte n on its line
abbrev pub offset : List ℕ → ℕ → ℕ
offset text n = min n (length text) - line_begin text n

-- the column of byte n, from 1 on: columns count bytes
abbrev pub column : List ℕ → ℕ → ℕ
column text n = offset text n + 1

-- how many lines the bytes from start up to end stand on: one where there are none
abbrev pub lines_over : List ℕ → (start end : ℕ) → ℕ
lines_over text start end = lines (take (end - start - 1) (drop start text))
