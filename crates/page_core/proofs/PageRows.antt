-- Worked pages, proved by computing.
use Rattle.std.proofs.Common.{◌≡◌, ◌≤◌, ◌+◌, ℕ, List, [], ◌∷◌, ◌++◌, refl, codes, replicate, arith, Some, None}
use Rattle.std.specs.Fmt.{digits}
use Rattle.page_core.specs.Page.{page, first_shown, shown_width}

-- the page of a place, with no words and no types
abbrev bare : List ℕ → ℕ → ℕ → List ℕ
bare text start end = page [] text (codes "C") (codes "w") start end None [] (codes "h")

unbound : page (codes "x.f") (codes "(fix f(x:int):int. g x) 3") (codes "E05") (codes "unbound name") 19 20 None []
    (codes "no `fix`, `let` or `open` around it binds this name")
    ≡ codes
    "x.f:1:20: E05 unbound name (bytes 19..20)\n1 | (fix f(x:int):int. g x) 3\n  |                    ^\nno `fix`, `let` or `open` around it binds this name\n"
unfolding digits
unbound = refl

-- types that are at odds stand on a line before the hint
types_at_odds : page [] (codes "1 + <>") (codes "C") (codes "w") 4 6 None (codes "wanted int, found <>") (codes "h")
    ≡ codes "1:5: C w (bytes 4..6)\n1 | 1 + <>\n  |     ^^\nwanted int, found <>\nh\n"
unfolding digits
types_at_odds = refl

-- the value of the whole has a line of its own, before the types
value_of_the_whole : page [] (codes "let x = 1 in\n<x>") (codes "C") (codes "w") 0 16
    (Some (record { start = 13; end = 16 })) (codes "t") (codes "h")
    ≡ codes
    "1:1: C w, over 2 lines (bytes 0..16)\n1 | let x = 1 in\n  | ^^^^^^^^^^^^\nits value is that of:\n2 | <x>\n  | ^^^\nt\nh\n"
unfolding digits
value_of_the_whole = refl

-- a tab is shown as a space, and each byte above 127 as a sign, so that the mark stands under the sixth byte
odd_bytes : bare (codes "x" ++ 9 ∷ 195 ∷ 164 ∷ codes " $") 5 6
    ≡ codes "1:6: C w (bytes 5..6)\n1 | x ?? $\n  |      ^\nh\n"
unfolding digits
odd_bytes = refl

-- the empty text has one line, which is empty
empty : bare [] 0 0 ≡ codes "1:1: C w (bytes 0..0)\n1 | \n  | ^\nh\n"
unfolding digits
empty = refl

-- the end of a text is marked behind its last byte
at_the_end : bare (codes "(1 +") 4 4 ≡ codes "1:5: C w (bytes 4..4)\n1 | (1 +\n  |     ^\nh\n"
unfolding digits
at_the_end = refl

-- and behind a last line end, on a line of its own
behind_a_line_end : bare (codes "(1 +\n") 5 5 ≡ codes "2:1: C w (bytes 5..5)\n2 | \n  | ^\nh\n"
unfolding digits
behind_a_line_end = refl

-- a place over three lines is marked on the first
over_lines : bare (codes "1 + if0(0,\n1,\n<>)") 4 17
    ≡ codes "1:5: C w, over 3 lines (bytes 4..17)\n1 | 1 + if0(0,\n  |     ^^^^^^\nh\n"
unfolding digits
over_lines = refl

-- a line end stands on the line that it ends, so this place is on one line
a_line_end : bare (codes "ab\nc") 1 3 ≡ codes "1:2: C w (bytes 1..3)\n1 | ab\n  |  ^\nh\n"
unfolding digits
a_line_end = refl

-- spaces under a number of two digits
line_twelve : bare (replicate 11 10 ++ codes "1 )\n2") 13 14
    ≡ codes "12:3: C w (bytes 13..14)\n12 | 1 )\n   |   ^\nh\n"
unfolding digits
line_twelve = refl

-- a place behind the text is its end
behind : bare (codes "1") 7 9 ≡ codes "1:2: C w (bytes 7..9)\n1 | 1\n  |  ^\nh\n"
unfolding digits
behind = refl

-- where a line is cut, its place is among the bytes that are shown, or just behind them
place_is_shown : (before count : ℕ) → before ≤ count → (first_shown before count ≤ before)
    × (before ≤ first_shown before count + shown_width)
place_is_shown before count within = (omega arith, omega arith)
