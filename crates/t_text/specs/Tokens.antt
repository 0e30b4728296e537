-- The tokens of an assembly text: reserved words, registers, signs, and numbers of 64 bits.
use Rattle.std.specs.Prelude.{◌≤◌, ◌≤ℤ◌, ℕ, pos, negsuc, neg_ℤ, ◌==◌, ◌&&◌, if◌then◌else◌, Bool, false, List, [], ◌∷◌}
use Rattle.std.specs.Prelude.{None, codes, bytes_eq}
use Rattle.std.specs.List.{list_all}
use Rattle.text_core.specs.Byte.{digit, value}
use Rattle.text_core.specs.Tokens.{Tokens, look, Cut}
use Rattle.t_types.specs.WellFormed.{max_number}
use Rattle.t_text.specs.declared.token.Kind.{Kind}
use Rattle.t_text.specs.declared.token.Kind.TheVariants as k
use Rattle.t_text.specs.declared.token.Token.{Token}

-- the reserved words
abbrev pub words : List (List ℕ × Kind)
words =
    (codes "tal", k.Tal) ∷ ((codes "code", k.Code) ∷
    ((codes "all", k.All) ∷ ((codes "some", k.Some) ∷ ((codes "pack", k.Pack) ∷ ((codes "as", k.As) ∷
    ((codes "unpack", k.Unpack) ∷
    ((codes "add", k.Add) ∷
    ((codes "sub", k.Sub) ∷ ((codes "mul", k.Mul) ∷ ((codes "bnz", k.Bnz) ∷ ((codes "ld", k.Ld) ∷
    ((codes "st", k.St) ∷ ((codes "mov", k.Mov) ∷
    ((codes "malloc", k.Malloc) ∷ ((codes "jmp", k.Jmp) ∷ ((codes "halt", k.Halt) ∷ ((codes "int", k.Int) ∷
    ((codes "data", k.Data) ∷ []))))))))))))))))))

-- `r` and one digit or more
abbrev pub is_register : List ℕ → Bool
is_register [] = false
is_register (b ∷ []) = false
is_register (b ∷ (c ∷ s)) = b == 114 && list_all digit (c ∷ s)

-- the digits of a register token
abbrev pub after_first : List ℕ → List ℕ
after_first [] = []
after_first (b ∷ s) = s

-- a word is the reserved word that it is in the table, else a name
abbrev pub word_in : List (List ℕ × Kind) → List ℕ → Kind
word_in [] u = k.Name
word_in (e ∷ t) u = if bytes_eq u e.0 then e.1 else word_in t u

-- a word of the shape of a register is a register token, and no name
abbrev pub word : List ℕ → Kind
word u = if is_register u then k.Register (value (after_first u)) else word_in words u

-- the signs: [ ] { } < > , . : ^
abbrev pub signs : List (ℕ × Kind)
signs =
    (91, k.LeftBracket) ∷ ((93, k.RightBracket) ∷
    ((123, k.LeftBrace) ∷ ((125, k.RightBrace) ∷ ((60, k.LeftAngle) ∷ ((62, k.RightAngle) ∷
    ((44, k.Comma) ∷ ((46, k.Dot) ∷ ((58, k.Colon) ∷ ((94, k.Caret) ∷ [])))))))))

-- the values of numbers, from -9223372036854775808 to 9223372036854775807, and the numbers of registers, from 1 on
abbrev pub Keeps : Kind → Type 0
Keeps (k.Register n) = (1 ≤ n) × (n ≤ max_number)
Keeps (k.Plain z) = z ≤ℤ pos max_number
Keeps (k.Negative z) = negsuc max_number ≤ℤ z
Keeps _ = Unit {0}

abbrev pub assembly : Tokens
assembly = record {
  Kind = Kind;
  Token = Token;
  word = word;
  plain = λ n. k.Plain (pos n);
  negative = λ n. k.Negative (neg_ℤ (pos n));
  sign = λ b. look signs b;
  pair = λ a b. None;
  Keeps = Keeps;
  token = λ kind start end. record { kind = kind; span = record { start = start; end = end } };
}

-- the text is cut into these tokens
abbrev pub IsCut : List ℕ → List Token → Type 0
IsCut text w = Cut assembly 0 text w
