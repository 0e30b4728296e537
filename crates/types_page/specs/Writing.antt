-- How far the writing of a page has come in a text and in its tokens.
use Rattle.std.specs.Prelude.{◌≡◌, ◌≤◌, ℕ, ◌+◌, List, length, take, drop}
use Rattle.page_core.specs.Spot.{lines, last_begin}
use Rattle.f_lexer.specs.declared.token.Token.{Token}
use Rattle.types_page.specs.Page.{from_byte}
use Rattle.types_page.specs.declared.place.Place.{Place}
use Rattle.types_page.specs.declared.words.Cursor.{Cursor}
use Rattle.types_page.specs.declared.writer.Writer.{Writer}

-- byte n stands on the line of this number, which begins there
pub record Counted (text : List ℕ) (n number begin : ℕ) : Type 0 where
  pub counted : number ≡ lines (take n text)
  pub begins : begin ≡ last_begin 0 0 (take n text)
  pub least : number ≤ n + 1
  pub bound : begin ≤ n

pub record HasLine (p : Place) : Type 0 where
  pub bound : p.at ≤ length p.text.now
  pub line : Counted p.text.now p.at p.number p.begin

-- the tokens from this one on are those from the byte on
pub record IsCursor (c : Cursor) : Type 0 where
  pub bound : c.at ≤ length c.tokens.now
  pub there : from_byte c.byte c.tokens.now ≡ drop c.at c.tokens.now

-- the text and the tokens of a page that is written
abbrev pub text_of : Writer → List ℕ
text_of w = w.place.text.now

abbrev pub tokens_of : Writer → List Token
tokens_of w = w.cursor.tokens.now

pub record IsWriter (w : Writer) : Type 0 where
  pub place : HasLine w.place
  pub cursor : IsCursor w.cursor

-- both write the page of the same
abbrev pub OfTheSame : Writer → Writer → Type 0
OfTheSame a b = (text_of b ≡ text_of a) × (tokens_of b ≡ tokens_of a)
