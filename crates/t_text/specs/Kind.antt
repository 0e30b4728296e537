-- Whether the first token of a text is the word `tal`, as that of each assembly text is.
use Rattle.std.specs.Prelude.{◌≡◌, ℕ, List, [], ◌∷◌, take, Bool, true, false, if◌then◌else◌, codes, bytes_eq}
use Rattle.std.specs.List.{prefix_len}
use Rattle.text_core.specs.Byte.{space, of_line, of_word}
use Rattle.text_core.specs.Lexeme.{at_dashes}
use Rattle.t_terms.specs.Spanned.{SProg}
use Rattle.t_text.specs.Text.{Stands}

-- a text without the white space and the comments that it begins with, where a comment is open or not
abbrev pub after_gaps : Bool → List ℕ → List ℕ
after_gaps comment [] = []
after_gaps true (b ∷ s) = after_gaps (of_line b) s
after_gaps false (b ∷ s) =
    if space b then after_gaps false s else if at_dashes (b ∷ s) then after_gaps true s else b ∷ s

-- the letters, digits and underscores that a text begins with
abbrev pub first_word : List ℕ → List ℕ
first_word s = take (prefix_len of_word s) s

abbrev pub begins_with_tal : List ℕ → Bool
begins_with_tal text = bytes_eq (first_word (after_gaps false text)) (codes "tal")

-- each text that stands for an assembly program begins so
abbrev pub AssemblyBeginsSo : Type 0
AssemblyBeginsSo = (text : List ℕ) (P : SProg) → Stands text P → begins_with_tal text ≡ true
