-- What stands at a place of a text, by its first bytes alone.
use Rattle.std.specs.Prelude.{◌≡◌, ◌≤◌, ◌<◌, ℕ, ◌+◌, ◌-◌, ◌^◌, ◌==◌, ◌&&◌, if◌then◌else◌, Bool, true, false, List, []}
use Rattle.std.specs.Prelude.{◌∷◌, length, take, drop, Option, Some, None}
use Rattle.std.specs.List.{prefix_len}
use Rattle.text_core.specs.Byte.{space, digit, letter, of_word, of_line, value}
use Rattle.text_core.specs.Tokens.{Tokens, Item, Gap, Spelling, Nothing}
use Rattle.text_core.specs.declared.lexeme.Lexeme.{Lexeme}
use Rattle.text_core.specs.declared.lexeme.Lexeme.TheVariants.{Blank, Word, Plain, Negative, Other}
use Rattle.text_core.specs.declared.lexeme.Found.{Found}
use Rattle.text_core.specs.declared.lexeme.Found.TheVariants.{Skip, Read, Large, Bad}

-- what stands next, with its length: a gap, a word, digits, `~` with digits, or another byte
pub data Piece : Type 0 where
  PGap : ℕ → Piece
  PWord : ℕ → Piece
  PPlain : ℕ → Piece
  PNegative : ℕ → Piece
  POther : Piece

abbrev pub at_dashes : List ℕ → Bool
at_dashes [] = false
at_dashes (b ∷ []) = false
at_dashes (b ∷ (c ∷ s)) = b == 45 && c == 45

abbrev pub at_negative : List ℕ → Bool
at_negative [] = false
at_negative (b ∷ []) = false
at_negative (b ∷ (c ∷ s)) = b == 126 && digit c

abbrev pub piece : List ℕ → Piece
piece [] = POther
piece (b ∷ s) =
    if space b then PGap 1
    else if at_dashes (b ∷ s) then PGap (2 + prefix_len of_line (drop 1 s))
    else if letter b then PWord (1 + prefix_len of_word s)
    else if digit b then PPlain (1 + prefix_len digit s)
    else if at_negative (b ∷ s) then PNegative (1 + prefix_len digit s)
    else POther

-- the sign that stands next, of two bytes where there is one
abbrev pub of_sign : {K : Type 0} → Option K → Item K
of_sign None = Nothing
of_sign (Some k) = Spelling k 1

abbrev pub of_pair : {K : Type 0} → Option K → Item K → Item K
of_pair None other = other
of_pair (Some k) other = Spelling k 2

abbrev pub sign_item : (g : Tokens) → List ℕ → Item g.Kind
sign_item g [] = Nothing
sign_item g (b ∷ []) = of_sign (g.sign b)
sign_item g (b ∷ (c ∷ s)) = of_pair (g.pair b c) (of_sign (g.sign b))

-- the item over a set of tokens
abbrev pub of_piece : (g : Tokens) → List ℕ → Piece → Item g.Kind
of_piece g s (PGap n) = Gap n
of_piece g s (PWord n) = Spelling (g.word (take n s)) n
of_piece g s (PPlain n) = Spelling (g.plain (value (take n s))) n
of_piece g s (PNegative n) = Spelling (g.negative (value (drop 1 (take n s)))) n
of_piece g s POther = sign_item g s

abbrev pub item : (g : Tokens) → List ℕ → Item g.Kind
item g s = of_piece g s (piece s)

-- a place after this one, up to the end of the text
pub record Within (text : List ℕ) (at end : ℕ) : Type 0 where
  pub forward : at < end
  pub in_range : end ≤ length text

-- the value of these digits, or that it is more than 2 ^ 63
pub record IsValue (value_is : ℕ) (fits : Bool) (ds : List ℕ) : Type 0 where
  pub small : fits ≡ true → (value_is ≡ value ds) × (value ds ≤ 2 ^ 63)
  pub large : fits ≡ false → 2 ^ 63 < value ds

abbrev pub IsLexeme : List ℕ → ℕ → Lexeme → Type 0
IsLexeme text at (Blank end) = Within text at end × (piece (drop at text) ≡ PGap (end - at))
IsLexeme text at (Word end) = Within text at end × (piece (drop at text) ≡ PWord (end - at))
IsLexeme text at (Plain d) =
    Within text at d.end × (piece (drop at text) ≡ PPlain (d.end - at))
    × IsValue d.value d.fits (take (d.end - at) (drop at text))
IsLexeme text at (Negative d) =
    Within text at d.end × (piece (drop at text) ≡ PNegative (d.end - at))
    × IsValue d.value d.fits (drop 1 (take (d.end - at) (drop at text)))
IsLexeme text at Other = piece (drop at text) ≡ POther

-- what a language finds at a place, over its set of tokens
abbrev pub IsFound : (g : Tokens) → List ℕ → ℕ → Found g.Kind → Type 0
IsFound g text at (Skip end) = Within text at end × (item g (drop at text) ≡ Gap (end - at))
IsFound g text at (Read k end) = Within text at end × (item g (drop at text) ≡ Spelling k (end - at)) × g.Keeps k
IsFound g text at (Large end) =
    Within text at end × ((k : g.Kind) × (item g (drop at text) ≡ Spelling k (end - at)) × ¬ g.Keeps k)
IsFound g text at Bad = item g (drop at text) ≡ Nothing
