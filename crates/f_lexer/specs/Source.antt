-- The tokens of the source: reserved words, signs, and numbers of 64 bits.
use Rattle.std.specs.Prelude.{◌≡◌, ◌⊎◌, ◌≤ℤ◌, ℕ, pos, negsuc, neg_ℤ, ◌==◌, ◌&&◌, if◌then◌else◌, List, [], ◌∷◌, Option}
use Rattle.std.specs.Prelude.{Some, None, codes, bytes_eq}
use Rattle.text_core.specs.Tokens.{Tokens, look, Cut, Reason, NoToken, OutOfRange, FirstWrong}
use Rattle.idx_core.specs.declared.span.Span.{Span}
use Rattle.f_terms.specs.declared.fault.Code.{Code}
use Rattle.f_terms.specs.declared.fault.Code.TheVariants as code
use Rattle.f_terms.specs.declared.fault.FFault.{FFault}
use Rattle.f_terms.specs.declared.fault.FFault.TheVariants.{Memory, Refused}
use Rattle.f_lexer.specs.declared.kind.Kind.{Kind}
use Rattle.f_lexer.specs.declared.kind.Kind.TheVariants as k
use Rattle.f_lexer.specs.declared.token.Token.{Token}

-- the reserved words
abbrev pub words : List (List ℕ × Kind)
words =
    (codes "fix", k.Fix) ∷ ((codes "gen", k.Gen) ∷ ((codes "all", k.All) ∷ ((codes "int", k.Int) ∷
    ((codes "if0", k.If0) ∷ ((codes "let", k.Let) ∷ ((codes "in", k.In) ∷ ((codes "pack", k.Pack) ∷
    ((codes "open", k.Open) ∷ ((codes "as", k.As) ∷ ((codes "some", k.Some) ∷ ((codes "ref", k.Ref) ∷ [])))))))))))

-- a word is the reserved word that it is in the table, else a name
abbrev pub word_in : List (List ℕ × Kind) → List ℕ → Kind
word_in [] u = k.Name
word_in (e ∷ t) u = if bytes_eq u e.0 then e.1 else word_in t u

-- the signs of one byte: ( ) < > [ ] , . : + - * # = !
abbrev pub signs : List (ℕ × Kind)
signs =
    (40, k.LeftParen) ∷ ((41, k.RightParen) ∷
    ((60, k.LeftAngle) ∷ ((62, k.RightAngle) ∷ ((91, k.LeftBracket) ∷ ((93, k.RightBracket) ∷
    ((44, k.Comma) ∷ ((46, k.Dot) ∷
    ((58, k.Colon) ∷ ((43, k.Plus) ∷ ((45, k.Minus) ∷ ((42, k.Star) ∷ ((35, k.Hash) ∷
    ((61, k.Equals) ∷ ((33, k.Bang) ∷ []))))))))))))))

-- the signs of two bytes: -> :=
abbrev pub pair : ℕ → ℕ → Option Kind
pair a b = if a == 45 && b == 62 then Some k.Arrow else if a == 58 && b == 61 then Some k.Assign else None

-- the values of the numbers: from -9223372036854775808 to 9223372036854775807
abbrev pub Keeps : Kind → Type 0
Keeps (k.Plain z) = z ≤ℤ pos 9223372036854775807
Keeps (k.Negative z) = negsuc 9223372036854775807 ≤ℤ z
Keeps _ = Unit {0}

abbrev pub source : Tokens
source = record {
  Kind = Kind;
  Token = Token;
  word = λ u. word_in words u;
  plain = λ n. k.Plain (pos n);
  negative = λ n. k.Negative (neg_ℤ (pos n));
  sign = λ b. look signs b;
  pair = pair;
  Keeps = Keeps;
  token = λ kind start end. record { kind = kind; span = record { start = start; end = end } };
}

-- the text is cut into these tokens
abbrev pub IsCut : List ℕ → List Token → Type 0
IsCut text w = Cut source 0 text w

abbrev pub code_of : Reason → Code
code_of NoToken = code.E01
code_of OutOfRange = code.E02

-- the first fault of a text's tokens
pub record FirstTokenFault (text : List ℕ) (c : Code) (span : Span) : Type 0 where
  pub why : Reason
  pub is_code : c ≡ code_of why
  pub wrong : FirstWrong source text why span.start span.end

abbrev pub IsTokenFault : List ℕ → FFault → Type 0
IsTokenFault text Memory = Unit {0}
IsTokenFault text (Refused c span) = FirstTokenFault text c span

-- The laws.

-- no text is cut in two ways
abbrev pub OneCut : Type 0
OneCut = (text : List ℕ) (w v : List Token) → IsCut text w → IsCut text v → w ≡ v

-- a text that is cut has no fault in its tokens
abbrev pub NoFaultWhereCut : Type 0
NoFaultWhereCut = (text : List ℕ) (w : List Token) (c : Code) (span : Span) → IsCut text w →
    ¬ FirstTokenFault text c span

-- each text is cut into tokens, or has a first fault in them
abbrev pub CutOrFault : Type 0
CutOrFault = (text : List ℕ) → ((w : List Token) × IsCut text w) ⊎
    ((c : Code) × (span : Span) × FirstTokenFault text c span)

-- two first faults of a text's tokens are equal
abbrev pub OneTokenFault : Type 0
OneTokenFault = (text : List ℕ) (c c' : Code) (span span' : Span) → FirstTokenFault text c span →
    FirstTokenFault text c' span' → (c ≡ c') × (span ≡ span')
