-- The page on the types of a source text: a line for each form that binds names, in the order of the text, with its
-- line and column, its names as the text has them, and their types; and then the type of the whole. All of the form is
-- our own choice. Types are written as `typeof` writes them: a type name in scope is `t` and its number, which the line
-- of its `gen` or `open` tells.
use Rattle.std.specs.Prelude.{◌≡◌, ℕ, zero, suc, ◌+◌, ◌-◌, nat_lt, List, [], ◌∷◌, ◌++◌, codes, decimal, drop, take}
use Rattle.std.specs.Prelude.{if◌then◌else◌}
use Rattle.idx_core.specs.declared.span.Span.{Span}
use Rattle.page_core.specs.Spot.{line_number, column}
use Rattle.f_terms.specs.Ty.{Ty, NoTys}
use Rattle.f_terms.specs.Tm.{Tm}
use Rattle.f_terms.specs.Text.{name_text, text_at}
use Rattle.f_lexer.specs.declared.token.Token.{Token}
use Rattle.f_lexer.specs.Source.{IsCut}
use Rattle.types_page.specs.Binders.{Kind, Value, Function, TypeName, Opened, Binder, Binds}

-- the tokens from the first that begins at byte n or behind it
abbrev pub from_byte : ℕ → List Token → List Token
from_byte n [] = []
from_byte n (t ∷ ts) = if nat_lt t.span.start n then from_byte n ts else t ∷ ts

-- the bytes of a place in the text
abbrev pub bytes_of : List ℕ → Span → List ℕ
bytes_of text place = take (place.end - place.start) (drop place.start text)

-- the bytes of token k of these, from 0
abbrev pub word : List ℕ → List Token → ℕ → List ℕ
word text [] k = []
word text (t ∷ ts) zero = bytes_of text t.span
word text (t ∷ ts) (suc k) = word text ts k

-- Token k of these is a value name, of this type under n type names; and it is a type name, which the types under it
-- have by its number
abbrev pub value_text : List ℕ → List Token → (k n : ℕ) → Ty → List ℕ
value_text text ts k n t = word text ts k ++ (codes " : " ++ text_at n t)

abbrev pub type_name_text : List ℕ → List Token → (k n : ℕ) → List ℕ
type_name_text text ts k n = word text ts k ++ (codes " as " ++ name_text n)

-- what a form binds under n type names, where ts are the tokens from its first one on: `let x = ..`,
-- `fix f(x: ..): ..`, `gen a. ..`, `open [a, x] = ..`
abbrev pub kind_text : List ℕ → List Token → ℕ → Kind → List ℕ
kind_text text ts n (Value t) = codes "let " ++ value_text text ts 1 n t
kind_text text ts n (Function arg res) =
    codes "fix " ++ (word text ts 1 ++ (codes "(" ++ (value_text text ts 3 n arg ++ (codes ") : " ++ text_at n res))))
kind_text text ts n TypeName = codes "gen " ++ type_name_text text ts 1 n
kind_text text ts n (Opened t) =
    codes "open [" ++ (type_name_text text ts 2 n ++ (codes ", " ++ (value_text text ts 4 (n + 1) t ++ codes "]")))

-- a line and a column
abbrev pub place_text : (l c : ℕ) → List ℕ
place_text l c = decimal l ++ (codes ":" ++ (decimal c ++ codes ": "))

-- the line of a binder in a text of these tokens, and those of several
abbrev pub line : List ℕ → List Token → Binder → List ℕ
line text ts b =
    place_text (line_number text b.at) (column text b.at)
    ++ (kind_text text (from_byte b.at ts) b.names b.kind ++ codes "\n")

abbrev pub lines : List ℕ → List Token → List Binder → List ℕ
lines text ts [] = []
lines text ts (b ∷ bs) = line text ts b ++ lines text ts bs

-- with the type of the whole
abbrev pub page : List ℕ → List Token → List Binder → Ty → List ℕ
page text ts bs type = lines text ts bs ++ (text_at 0 type ++ codes "\n")

-- the page of a text that stands for the term, whose type this is
pub record IsPage (text : List ℕ) (term : Tm) (type : Ty) (made : List ℕ) : Type 0 where
  pub tokens : List Token
  pub binders : List Binder
  pub cut : IsCut text tokens
  pub binds : Binds term 0 NoTys binders
  pub is : made ≡ page text tokens binders type
