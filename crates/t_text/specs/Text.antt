-- Which program a text stands for, which texts keep the limit on open constructs, and the first fault of a text.
use Rattle.std.specs.Prelude.{◌≡◌, ℕ, List, [], ◌∷◌, length, ◌⊎◌}
use Rattle.idx_core.specs.declared.span.Span.{Span}
use Rattle.text_core.specs.Tokens.{Reason, NoToken, OutOfRange, FirstWrong}
use Rattle.text_core.specs.Shapes.{NonePasses, IsUnexpected, IsCutShort, IsPassed}
use Rattle.t_terms.specs.declared.fault.TCode.{TCode}
use Rattle.t_terms.specs.declared.fault.TCode.TheVariants.{T01, T02, T03, M1}
use Rattle.t_terms.specs.declared.fault.TFault.{TFault}
use Rattle.t_terms.specs.declared.fault.TFault.TheVariants.{Memory, Refused}
use Rattle.t_text.specs.declared.token.Token.{Token}
use Rattle.t_terms.specs.Tree.{TProg}
use Rattle.t_terms.specs.Spanned.{SProg, plain_program}
pub use Rattle.t_terms.specs.Nesting.{most_open}
use Rattle.t_text.specs.Tokens.{assembly, IsCut}
use Rattle.t_text.specs.Raw.{RawItem}
use Rattle.t_text.specs.Grammar.{Program, assembly_grammar}
use Rattle.t_text.specs.Names.{program_of}
use Rattle.t_text.specs.NameFaults.{program_faults}

-- the text stands for the program, with its places: it is cut into tokens, they are a program of the grammar, its
-- names and registers are as they should, and each name stands for what it names
pub record Stands (text : List ℕ) (P : SProg) : Type 0 where
  pub tokens : List Token
  pub cut : IsCut text tokens
  pub raw : List RawItem
  pub shape : Program tokens raw
  pub named : program_faults text raw ≡ []
  pub is : P ≡ program_of text raw

-- the text stands for the program, places aside
abbrev pub StandsFor : List ℕ → TProg → Type 0
StandsFor text P = (Q : SProg) × Stands text Q × (plain_program Q ≡ P)

-- the text is cut into tokens at none of which the limit on open constructs is passed
abbrev pub KeepsLimit : List ℕ → Type 0
KeepsLimit text = (w : List Token) × IsCut text w × NonePasses assembly_grammar most_open w

-- the text stands for the program within the limit
pub record ReadsAs (text : List ℕ) (P : SProg) : Type 0 where
  pub stands : Stands text P
  pub within : KeepsLimit text

-- the text reads as the program within the limit, places aside
abbrev pub ReadsBack : List ℕ → TProg → Type 0
ReadsBack text P = (Q : SProg) × ReadsAs text Q × (plain_program Q ≡ P)

abbrev pub code_of : Reason → TCode
code_of NoToken = T01
code_of OutOfRange = T02

-- the first fault of a text: of its tokens; else of the grammar or of the limit on open constructs, in the order of the
-- tokens; else of its names and registers, in the order of the text
pub data FirstFault (text : List ℕ) : TCode → Span → Type 0 where
  in_tokens : {span : Span} (why : Reason) → FirstWrong assembly text why span.start span.end →
      FirstFault text (code_of why) span
  unexpected : {w u : List Token} {c : Token} {z : List Token} → IsCut text w →
      IsUnexpected assembly_grammar most_open w u c z → FirstFault text T03 c.span
  cut_short : {w : List Token} → IsCut text w → IsCutShort assembly_grammar most_open w →
      FirstFault text T03 (record { start = length text; end = length text })
  too_deep : {w u : List Token} {c : Token} {z : List Token} → IsCut text w →
      IsPassed assembly_grammar most_open w u c z → FirstFault text M1 c.span
  in_names : {w : List Token} {raw : List RawItem} {code : TCode} {span : Span} {rest : List (TCode × Span)} →
      IsCut text w → Program w raw → NonePasses assembly_grammar most_open w →
      program_faults text raw ≡ (code, span) ∷ rest → FirstFault text code span

abbrev pub IsFirstFault : List ℕ → TFault → Type 0
IsFirstFault text Memory = Unit {0}
IsFirstFault text (Refused code span) = FirstFault text code span

-- The laws.

-- a text stands for one program at most
abbrev pub AtMostOneProgram : Type 0
AtMostOneProgram = (text : List ℕ) (P Q : SProg) → Stands text P → Stands text Q → P ≡ Q

-- a text has one first fault at most
abbrev pub AtMostOneFault : Type 0
AtMostOneFault = (text : List ℕ) (code code' : TCode) (span span' : Span) → FirstFault text code span →
    FirstFault text code' span' → (code ≡ code') × (span ≡ span')

-- a text that stands for a program within the limit has no fault
abbrev pub NoFaultWhereRead : Type 0
NoFaultWhereRead = (text : List ℕ) (P : SProg) (code : TCode) (span : Span) → ReadsAs text P →
    ¬ FirstFault text code span

-- a text whose first fault is not that of the limit stands for no program
abbrev pub NoProgramWhereFaulty : Type 0
NoProgramWhereFaulty = (text : List ℕ) (P : SProg) (code : TCode) (span : Span) → FirstFault text code span →
    (code ≡ M1 → ⊥) → ¬ Stands text P

-- each text stands for a program within the limit, or has a first fault
abbrev pub ProgramOrFault : Type 0
ProgramOrFault = (text : List ℕ) →
    ((P : SProg) × ReadsAs text P) ⊎ ((code : TCode) × (span : Span) × FirstFault text code span)
