-- The first fault of an assembly text's tokens.
use Rattle.std.specs.Prelude.{◌≡◌, ℕ, List}
use Rattle.text_core.specs.Tokens.{Reason, FirstWrong}
use Rattle.idx_core.specs.declared.span.Span.{Span}
use Rattle.t_terms.specs.declared.fault.TCode.{TCode}
use Rattle.t_terms.specs.declared.fault.TFault.{TFault}
use Rattle.t_terms.specs.declared.fault.TFault.TheVariants.{Memory, Refused}
use Rattle.t_text.specs.declared.token.Token.{Token}
use Rattle.t_text.specs.Tokens.{assembly, IsCut}
use Rattle.t_text.specs.Text.{code_of}

-- a byte that begins no token, or a number out of range
pub record FirstTokenFault (text : List ℕ) (c : TCode) (span : Span) : Type 0 where
  pub why : Reason
  pub is_code : c ≡ code_of why
  pub wrong : FirstWrong assembly text why span.start span.end

abbrev pub IsTokenFault : List ℕ → TFault → Type 0
IsTokenFault text Memory = Unit {0}
IsTokenFault text (Refused c span) = FirstTokenFault text c span

-- The laws.

-- a text is cut in one way at most
abbrev pub AtMostOneCut : Type 0
AtMostOneCut = (text : List ℕ) (w v : List Token) → IsCut text w → IsCut text v → w ≡ v

-- a text that is cut has no fault in its tokens
abbrev pub NoTokenFaultWhereCut : Type 0
NoTokenFaultWhereCut =
    (text : List ℕ) (w : List Token) (c : TCode) (span : Span) → IsCut text w → ¬ FirstTokenFault text c span

-- a text has one first fault in its tokens at most
abbrev pub AtMostOneTokenFault : Type 0
AtMostOneTokenFault =
    (text : List ℕ) (c c' : TCode) (span span' : Span) → FirstTokenFault text c span → FirstTokenFault text c' span' →
    (c ≡ c') × (span ≡ span')
