-- Worked rows: what stands first in a text.
use Rattle.std.proofs.Common.{[], ◌∷◌, pos, negsuc}
use Rattle.std.specs.Prelude.{codes}
use Rattle.text_core.specs.Tokens.{Next, Gap, Spelling, Nothing}
use Rattle.text_core.proofs.Items.{some_next}
use Rattle.f_lexer.specs.declared.kind.Kind.TheVariants as k
use Rattle.f_lexer.specs.Source.{source}
use Rattle.f_lexer.proofs.Finding.{source_signs}

-- a reserved word, and a name that begins with one
word : Next source (codes "if0(0, 1, 2)") (Spelling k.If0 3)
word = some_next source source_signs 105 (codes "f0(0, 1, 2)")

name : Next source (codes "if00_ ") (Spelling k.Name 5)
name = some_next source source_signs 105 (codes "f00_ ")

-- digits end before a letter
digits : Next source (codes "007x") (Spelling (k.Plain (pos 7)) 3)
digits = some_next source source_signs 48 (codes "07x")

-- bounds are left aside, so that a number out of range is one spelling
large : Next source (codes "9223372036854775808") (Spelling (k.Plain (pos 9223372036854775808)) 19)
large = some_next source source_signs 57 (codes "223372036854775808")

negative : Next source (codes "~9223372036854775808") (Spelling (k.Negative (negsuc 9223372036854775807)) 20)
negative = some_next source source_signs 126 (codes "9223372036854775808")

tilde : Next source (codes "~ 1") Nothing
tilde = some_next source source_signs 126 (codes " 1")

-- an arrow is one token, two dashes begin a comment, and one dash is a sign
arrow : Next source (codes "->-") (Spelling k.Arrow 2)
arrow = some_next source source_signs 45 (codes ">-")

dash : Next source (codes "- >") (Spelling k.Minus 1)
dash = some_next source source_signs 45 (codes " >")

-- an assignment is one token, and a colon before a space is a sign
assign : Next source (codes ":==") (Spelling k.Assign 2)
assign = some_next source source_signs 58 (codes "==")

colon : Next source (codes ": =") (Spelling k.Colon 1)
colon = some_next source source_signs 58 (codes " =")

bang : Next source (codes "!x") (Spelling k.Bang 1)
bang = some_next source source_signs 33 (codes "x")

-- a comment ends before its line feed
comment : Next source (45 ∷ (45 ∷ (36 ∷ (10 ∷ (49 ∷ []))))) (Gap 3)
comment = some_next source source_signs 45 (45 ∷ (36 ∷ (10 ∷ (49 ∷ []))))

bad : Next source (codes "$") Nothing
bad = some_next source source_signs 36 []
