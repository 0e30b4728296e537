-- What callers know of pieces.
use Rattle.std.specs.Prelude.{◌≡◌, ◌<◌, ℕ, List, [], slice_index_or, length}
use Rattle.page_core.specs.Texts.{texts}
use Rattle.page_core.specs.declared.pieces.Pieces.{Pieces}

-- the texts of all pieces, by their numbers
abbrev pub texts_of : Pieces → List (List ℕ)
texts_of p = texts p.pieces.items

-- the text of a piece, empty where there is none with this number
abbrev pub text_at : Pieces → ℕ → List ℕ
text_at p i = slice_index_or (texts_of p) i []

-- there is a piece with this number, and it has this text
pub record HasText (p : Pieces) (piece : ℕ) (s : List ℕ) : Type 0 where
  pub inside : piece < length (texts_of p)
  pub is : text_at p piece ≡ s

-- what the pieces of p stand for, they stand for in q
abbrev pub Keeps : Pieces → Pieces → Type 0
Keeps p q = (piece : ℕ) (s : List ℕ) → HasText p piece s → HasText q piece s
