-- Tokens in 8 bytes each.
use Rattle.std.specs.Prelude.{◌≡◌, ◌+◌, ◌<◌, ◌≤◌, ◌^◌, ◌==◌, ◌||◌, not, nat_lt, if◌then◌else◌, ℕ, pos, neg_ℤ}
use Rattle.std.specs.Prelude.{Bool, true, List, length, map, get_or, Option, Some, None}
use Rattle.std.specs.List.{list_all}
use Rattle.t_text.specs.declared.token.Kind.{Kind}
use Rattle.t_text.specs.declared.token.Kind.TheVariants as k
use Rattle.t_text.specs.declared.token.Token.{Token}
use Rattle.t_text.specs.declared.tagged.Tag.{Tag}
use Rattle.t_text.specs.declared.tagged.Tag.TheVariants as tag
use Rattle.t_text.specs.declared.kept.Word.{Word}
use Rattle.t_text.specs.declared.kept.Tokens.{Tokens}

-- the kind of a tag and a number, which a negative one holds without its sign
abbrev pub kind_of : Tag → ℕ → Kind
kind_of tag.Name n = k.Name
kind_of tag.Register n = k.Register n
kind_of tag.Plain n = k.Plain (pos n)
kind_of tag.Negative n = k.Negative (neg_ℤ (pos n))
kind_of tag.Tal n = k.Tal
kind_of tag.Code n = k.Code
kind_of tag.All n = k.All
kind_of tag.Some n = k.Some
kind_of tag.Pack n = k.Pack
kind_of tag.As n = k.As
kind_of tag.Unpack n = k.Unpack
kind_of tag.Add n = k.Add
kind_of tag.Sub n = k.Sub
kind_of tag.Mul n = k.Mul
kind_of tag.Bnz n = k.Bnz
kind_of tag.Ld n = k.Ld
kind_of tag.St n = k.St
kind_of tag.Mov n = k.Mov
kind_of tag.Malloc n = k.Malloc
kind_of tag.Jmp n = k.Jmp
kind_of tag.Halt n = k.Halt
kind_of tag.Int n = k.Int
kind_of tag.Data n = k.Data
kind_of tag.LeftBracket n = k.LeftBracket
kind_of tag.RightBracket n = k.RightBracket
kind_of tag.LeftBrace n = k.LeftBrace
kind_of tag.RightBrace n = k.RightBrace
kind_of tag.LeftAngle n = k.LeftAngle
kind_of tag.RightAngle n = k.RightAngle
kind_of tag.Comma n = k.Comma
kind_of tag.Dot n = k.Dot
kind_of tag.Colon n = k.Colon
kind_of tag.Caret n = k.Caret

-- the kinds of tags without numbers
abbrev pub of_tag : Option Tag → Option Kind
of_tag None = None
of_tag (Some t) = Some (kind_of t 0)

-- a number that a kind of this tag may hold, without its sign
abbrev pub Fits : Tag → ℕ → Type 0
Fits tag.Plain n = n < 2 ^ 63
Fits tag.Negative n = n ≤ 2 ^ 63
Fits _ n = Unit {0}

-- the token that a word of another length than 0 is
abbrev pub short_token : Word → Token
short_token w =
    record { kind = kind_of w.tag w.number; span = record { start = w.start; end = w.start + w.length } }

abbrev pub nothing : Token
nothing = record { kind = k.Name; span = record { start = 0; end = 0 } }

-- the token that a word stands for, where these are the long ones
unfoldable pub token_in : List Token → Word → Token
token_in long w = if w.length == 0 then get_or long w.start nothing else short_token w

abbrev pub tokens_of : Tokens → List Token
tokens_of t = map (λ (w : Word). token_in t.long.items w) t.words.items

-- a word that stands for a short token, or for one of the first n long ones
unfoldable pub reaches : ℕ → Word → Bool
reaches n w = not (w.length == 0) || nat_lt w.start n

-- each word stands for a token
abbrev pub IsWhole : Tokens → Type 0
IsWhole t = list_all (λ (w : Word). reaches (length t.long.items) w) t.words.items ≡ true
