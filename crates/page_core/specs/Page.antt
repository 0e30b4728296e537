-- The page that explains a fault of a text. All of it is our own choice.
use Rattle.std.specs.Prelude.{ℕ, ◌+◌, ◌-◌, ◌==◌, nat_lt, min, max, Bool, ◌&&◌, List, [], ◌∷◌, ◌++◌}
use Rattle.std.specs.Prelude.{take, drop, length, map, replicate, if◌then◌else◌, codes, decimal, Option, Some, None}
use Rattle.idx_core.specs.declared.span.Span.{Span}
use Rattle.page_core.specs.Spot.{line_number, line_at, offset, column, lines_over}

-- ---- what is wrong, and where

-- over how many lines a place goes, where it is more than one
abbrev pub over_text : ℕ → List ℕ
over_text count = if count == 1 then [] else codes ", over " ++ (decimal count ++ codes " lines")

abbrev pub bytes_text : (start end : ℕ) → List ℕ
bytes_text start end = codes " (bytes " ++ decimal start ++ codes ".." ++ decimal end ++ codes ")"

-- the name of the text, where it has one
abbrev pub name_text : List ℕ → List ℕ
name_text [] = []
name_text (byte ∷ bytes) = byte ∷ bytes ++ codes ":"

-- a place by the name of its text, its line and its column, as editors read it
abbrev pub place_text : (name : List ℕ) (line column : ℕ) → List ℕ
place_text name line column = name_text name ++ decimal line ++ codes ":" ++ decimal column ++ codes ": "

-- the code and the words, over how many lines the place goes, and its bytes
abbrev pub fault_text : (code words : List ℕ) (count start end : ℕ) → List ℕ
fault_text code words count start end = code ++ codes " " ++ words ++ over_text count ++ bytes_text start end

-- where, and what is wrong
abbrev pub heading : (name text code words : List ℕ) (start end : ℕ) → List ℕ
heading name text code words start end =
    place_text name (line_number text start) (column text start)
    ++ fault_text code words (lines_over text start end) start end ++ codes "\n"

-- ---- the line of the place

-- how many bytes of a line are shown at most, and how many of them stand before the place where there is room behind it
abbrev pub shown_width : ℕ
shown_width = 100

abbrev pub shown_before : ℕ
shown_before = 50

-- The first byte that is shown of a line of so many bytes, where so many stand before the place: of a line that is not
-- longer than what is shown, the first of all.
abbrev pub first_shown : (before count : ℕ) → ℕ
first_shown before count = min (before - shown_before) (count - shown_width)

-- a printable sign of ASCII as it is, a tab and a carriage return as a space, and any other byte as a question mark
abbrev pub shown_byte : ℕ → ℕ
shown_byte byte =
    if byte == 9 then 32 else if byte == 13 then 32 else if nat_lt 31 byte && nat_lt byte 127 then byte else 63

-- what stands for bytes that are left out, if any are
abbrev pub dots : Bool → List ℕ
dots cut = if cut then codes ".." else []

-- as many spaces as there are such dots
abbrev pub under_dots : Bool → List ℕ
under_dots cut = if cut then codes "  " else []

-- what is left of a line, as far as it is shown
abbrev pub shown_rest : List ℕ → List ℕ
shown_rest rest = map shown_byte (take shown_width rest) ++ dots (nat_lt shown_width (length rest))

-- the line from this byte on
abbrev pub shown_line : List ℕ → ℕ → List ℕ
shown_line line first = dots (nat_lt 0 first) ++ shown_rest (drop first line)

-- spaces as far as the place, before which so many bytes stand on the line
abbrev pub indent : (first before : ℕ) → List ℕ
indent first before = under_dots (nat_lt 0 first) ++ replicate (before - first) 32

-- so many marks are under a place of so many bytes: one for each byte of it that is shown on the line, one at least
abbrev pub marks : (line : List ℕ) (first before size : ℕ) → ℕ
marks line first before size = max 1 (min size (min (first + shown_width) (length line) - before))

-- the number of the line and the line
abbrev pub line_row : (number : ℕ) (line : List ℕ) (first : ℕ) → List ℕ
line_row number line first = decimal number ++ codes " | " ++ shown_line line first ++ codes "\n"

-- spaces under the number, of so many digits, and the marks under the place
abbrev pub mark_row : (digits : ℕ) (line : List ℕ) (first before size : ℕ) → List ℕ
mark_row digits line first before size =
    replicate digits 32 ++ codes " | " ++ indent first before ++ replicate (marks line first before size) 94
    ++ codes "\n"

abbrev pub excerpt_at : (number : ℕ) (line : List ℕ) (first before size : ℕ) → List ℕ
excerpt_at number line first before size =
    line_row number line first ++ mark_row (length (decimal number)) line first before size

abbrev pub excerpt_of : (number : ℕ) (line : List ℕ) (before size : ℕ) → List ℕ
excerpt_of number line before size = excerpt_at number line (first_shown before (length line)) before size

abbrev pub excerpt : (text : List ℕ) (start end : ℕ) → List ℕ
excerpt text start end =
    excerpt_of (line_number text start) (line_at text start) (offset text start) (end - start)

-- ---- the whole

-- what is at odds or was wanted, in one line or more without the last line end, where there is anything
abbrev pub odds_rows : List ℕ → List ℕ
odds_rows [] = []
odds_rows (byte ∷ bytes) = byte ∷ bytes ++ codes "\n"

-- the line of a second place, where there is one: that of the value that the whole has
abbrev pub value_rows : (text : List ℕ) → Option Span → List ℕ
value_rows text None = []
value_rows text (Some place) = codes "its value is that of:\n" ++ excerpt text place.start place.end

-- What is wrong and where; the line of the place, with the place marked; the line of the second place; what is at odds;
-- and the hint.
abbrev pub page : (name text code words : List ℕ) (start end : ℕ) (value : Option Span) (odds hint : List ℕ) → List ℕ
page name text code words start end value odds hint =
    heading name text code words start end ++ excerpt text start end ++ value_rows text value ++ odds_rows odds
    ++ hint ++ codes "\n"
