-- What a text is written of: words, names, numbers and signs, and the white space between them.
use Rattle.std.specs.Prelude.{ℕ, suc, ◌+◌, List, [], ◌∷◌, ◌++◌, ℤ, pos, negsuc, decimal}

-- a number in decimal, a negative one with a tilde
abbrev pub number_text : ℤ → List ℕ
number_text (pos n) = decimal n
number_text (negsuc n) = 126 ∷ decimal (suc n)

pub data Lexeme : Type 0 where
  -- a reserved word
  Reserved : List ℕ → Lexeme
  -- the name of a type, the label of a block and that of a data tuple, by a number
  TypeName : ℕ → Lexeme
  LabelName : ℕ → Lexeme
  DataName : ℕ → Lexeme
  Register : ℕ → Lexeme
  Number : ℤ → Lexeme
  -- a number below 10
  Digit : ℕ → Lexeme
  -- a sign of one byte
  Sign : ℕ → Lexeme
  -- a space or a line end
  Blank : ℕ → Lexeme

abbrev pub bytes : Lexeme → List ℕ
bytes (Reserved u) = u
bytes (TypeName n) = 84 ∷ decimal n
bytes (LabelName n) = 76 ∷ decimal n
bytes (DataName n) = 68 ∷ decimal n
bytes (Register r) = 114 ∷ decimal r
bytes (Number z) = number_text z
bytes (Digit n) = (48 + n) ∷ []
bytes (Sign b) = b ∷ []
bytes (Blank b) = b ∷ []

abbrev pub render : List Lexeme → List ℕ
render [] = []
render (l ∷ ls) = bytes l ++ render ls

-- the signs
abbrev pub comma : Lexeme
comma = Sign 44

abbrev pub dot : Lexeme
dot = Sign 46

abbrev pub colon : Lexeme
colon = Sign 58

abbrev pub left_angle : Lexeme
left_angle = Sign 60

abbrev pub right_angle : Lexeme
right_angle = Sign 62

abbrev pub left_bracket : Lexeme
left_bracket = Sign 91

abbrev pub right_bracket : Lexeme
right_bracket = Sign 93

abbrev pub caret : Lexeme
caret = Sign 94

abbrev pub left_brace : Lexeme
left_brace = Sign 123

abbrev pub right_brace : Lexeme
right_brace = Sign 125
