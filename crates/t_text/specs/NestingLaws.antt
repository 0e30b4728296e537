-- What the nesting of a program says of the texts that stand for it.
use Rattle.std.specs.Prelude.{◌≡◌, ◌≤◌, ◌↔◌, ℕ, max, List, [], ◌∷◌}
use Rattle.t_terms.specs.Tree.{TProg}
use Rattle.t_terms.specs.Spanned.{SProg, plain_program}
use Rattle.t_terms.specs.Nesting.{nesting}
use Rattle.t_text.specs.Grammar.{open_Program}
use Rattle.t_text.specs.Text.{most_open, Stands, StandsFor, KeepsLimit}

-- the greatest number of a list
abbrev pub greatest : List ℕ → ℕ
greatest [] = 0
greatest (n ∷ ns) = max n (greatest ns)

-- the nesting of a program is the greatest number of constructs that are open at a token of a text that stands for it
abbrev pub CountsOpen : Type 0
CountsOpen = (text : List ℕ) (P : SProg) (s : Stands text P) →
    greatest (open_Program s.shape 0) ≡ nesting (plain_program P)

-- a text that stands for a program keeps the limit exactly where the program's nesting is within it
abbrev pub KeepsByNesting : Type 0
KeepsByNesting = (text : List ℕ) (P : TProg) → StandsFor text P → KeepsLimit text ↔ (nesting P ≤ most_open)
