-- What the code finds at a place of an assembly text.
use Rattle.std.specs.Prelude.{◌≡◌, ℕ, ◌+◌, ◌-◌, pos, neg_ℤ, ◌&&◌, nat_le, if◌then◌else◌, Bool, true, false, List, []}
use Rattle.std.specs.Prelude.{◌∷◌, take, drop, codes, Option, Some, None}
use Rattle.std.specs.List.{prefix_len}
use Rattle.text_core.specs.Byte.{of_word}
use Rattle.text_core.specs.declared.lexeme.Digits.{Digits}
use Rattle.text_core.specs.declared.lexeme.Found.{Found}
use Rattle.text_core.specs.declared.lexeme.Found.TheVariants.{Skip, Read, Large}
use Rattle.text_core.specs.Lexeme.{Within, IsValue, PWord, piece, IsFound}
use Rattle.t_types.specs.WellFormed.{max_number}
use Rattle.t_text.specs.declared.token.Kind.{Kind}
use Rattle.t_text.specs.declared.token.Kind.TheVariants as k
use Rattle.t_text.specs.Tokens.{assembly, is_register, after_first}
use Rattle.t_text.specs.declared.scan.Short.{Short}
use Rattle.t_text.specs.declared.scan.Short.TheVariants as short
use Rattle.t_text.specs.Kept.{kind_of}

abbrev pub plain_found : Digits → Found Kind
plain_found d = if d.fits && nat_le d.value max_number then Read (k.Plain (pos d.value)) d.end else Large d.end

abbrev pub negative_found : Digits → Found Kind
negative_found d = if d.fits then Read (k.Negative (neg_ℤ (pos d.value))) d.end else Large d.end

abbrev pub register_found : Digits → Found Kind
register_found d =
    if d.fits && nat_le 1 d.value && nat_le d.value max_number then Read (k.Register d.value) d.end else Large d.end

-- the reserved words by their first bytes
abbrev pub words_of_a : List (List ℕ × Kind)
words_of_a = (codes "all", k.All) ∷ ((codes "as", k.As) ∷ ((codes "add", k.Add) ∷ []))

abbrev pub words_of_bcd : List (List ℕ × Kind)
words_of_bcd = (codes "bnz", k.Bnz) ∷ ((codes "code", k.Code) ∷ ((codes "data", k.Data) ∷ []))

abbrev pub words_of_hij : List (List ℕ × Kind)
words_of_hij = (codes "halt", k.Halt) ∷ ((codes "int", k.Int) ∷ ((codes "jmp", k.Jmp) ∷ []))

abbrev pub words_of_lp : List (List ℕ × Kind)
words_of_lp = (codes "ld", k.Ld) ∷ ((codes "pack", k.Pack) ∷ [])

abbrev pub words_of_m : List (List ℕ × Kind)
words_of_m = (codes "mul", k.Mul) ∷ ((codes "mov", k.Mov) ∷ ((codes "malloc", k.Malloc) ∷ []))

abbrev pub words_of_s : List (List ℕ × Kind)
words_of_s = (codes "some", k.Some) ∷ ((codes "sub", k.Sub) ∷ ((codes "st", k.St) ∷ []))

abbrev pub words_of_tu : List (List ℕ × Kind)
words_of_tu = (codes "tal", k.Tal) ∷ ((codes "unpack", k.Unpack) ∷ [])

-- the first byte, with the letters, digits and underscores after it
abbrev pub word_at : List ℕ → List ℕ
word_at [] = []
word_at (b ∷ s) = b ∷ take (prefix_len of_word s) s

-- a letter, a digit or an underscore is next
abbrev pub goes_on : List ℕ → Bool
goes_on [] = false
goes_on (b ∷ s) = of_word b

-- the digits of the register token that stands at a place, or none where none does
abbrev pub IsRegisterAt : List ℕ → ℕ → Option Digits → Type 0
IsRegisterAt text at None = is_register (word_at (drop at text)) ≡ false
IsRegisterAt text at (Some d) =
    Within text at d.end × (piece (drop at text) ≡ PWord (d.end - at))
    × (is_register (take (d.end - at) (drop at text)) ≡ true)
    × IsValue d.value d.fits (after_first (take (d.end - at) (drop at text)))

-- what stands at a place where one of the shortest forms does, and nothing where another does
abbrev pub IsShort : List ℕ → ℕ → Short → Type 0
IsShort text at short.Blank = IsFound assembly text at (Skip (at + 1))
IsShort text at (short.Sign tag) = IsFound assembly text at (Read (kind_of tag 0) (at + 1))
IsShort text at (short.Register n) = IsFound assembly text at (Read (k.Register n) (at + 2))
IsShort text at short.Other = Unit {0}
