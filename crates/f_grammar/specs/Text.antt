-- Which text stands for which term, and the first fault of a text.
use Rattle.std.specs.Prelude.{◌≡◌, ◌⊎◌, ◌≤◌, ◌<◌, ℕ, List, [], length}
use Rattle.idx_core.specs.declared.span.Span.{Span}
use Rattle.text_core.specs.Shapes.{Grammar, NonePasses, IsUnexpected, IsCutShort, IsPassed}
use Rattle.f_terms.specs.declared.fault.Code.{Code}
use Rattle.f_terms.specs.declared.fault.Code.TheVariants as code
use Rattle.f_terms.specs.declared.fault.FFault.{FFault}
use Rattle.f_terms.specs.declared.fault.FFault.TheVariants.{Memory, Refused}
use Rattle.f_terms.specs.Tm.{Tm, plain}
use Rattle.f_terms.specs.Limits.{FewNodes}
use Rattle.f_terms.specs.Limits.{nodes as term_nodes}
use Rattle.f_terms.specs.Scope.{IsClosed}
use Rattle.f_lexer.specs.declared.token.Token.{Token}
use Rattle.f_lexer.specs.Source.{IsCut, FirstTokenFault}
use Rattle.f_grammar.specs.Raw.{Piece, nodes, raw_span}
use Rattle.f_grammar.specs.Grammar.{E, open_E}
use Rattle.f_grammar.specs.Scope.{TermOf, Use, uses, Ascends, IsFirstUnbound, unbound_code}

-- the grammar of expressions, with the number of constructs that are open at each token
abbrev pub source_grammar : Grammar
source_grammar = record { Tok = Token; Tree = Piece; Shape = λ w t. E w t; opens = λ w t e. open_E e 0 }

-- the text is cut into these tokens, they are an expression of the grammar, and the term is that expression with its
-- names bound, where no name is in scope around it
pub record Source (text : List ℕ) (tm : Tm) : Type 0 where
  pub tokens : List Token
  pub shape : Piece
  pub cut : IsCut text tokens
  pub is_shape : E tokens shape
  pub bound : TermOf text [] [] shape.tree tm

-- L1: at most so many bytes
abbrev pub FewBytes : List ℕ → Type 0
FewBytes text = length text ≤ 16777216

-- L2: at each token so many constructs are open at most
abbrev pub FewOpen : List Token → Type 0
FewOpen w = NonePasses source_grammar 200 w

-- the text stands for the term, within the limits on bytes, on open constructs and on nodes
pub record SourceWithin (text : List ℕ) (tm : Tm) : Type 0 where
  pub source : Source text tm
  pub few_bytes : FewBytes text
  pub few_open : FewOpen source.tokens
  pub few_nodes : FewNodes (plain tm)

-- the whole of a text, and its end
abbrev pub whole_of : List ℕ → Span
whole_of text = record { start = 0; end = length text }

abbrev pub end_of : List ℕ → Span
end_of text = record { start = length text; end = length text }

-- the first checks pass, up to the tokens
pub record HasTokens (text : List ℕ) (w : List Token) : Type 0 where
  pub few_bytes : FewBytes text
  pub cut : IsCut text w

-- and up to the shape and its open constructs
pub record HasShape (text : List ℕ) (shape : Piece) : Type 0 where
  pub tokens : List Token
  pub has_tokens : HasTokens text tokens
  pub is_shape : E tokens shape
  pub few_open : FewOpen tokens

-- the first fault of a text, in the order of the checks
pub data FirstFault (text : List ℕ) : Code → Span → Type 0 where
  -- L1: too many bytes
  too_long : 16777216 < length text → FirstFault text code.L1 (whole_of text)
  -- E01 and E02, whichever comes first: a byte that begins no token, a number out of range
  no_token : {c : Code} {s : Span} → FewBytes text → FirstTokenFault text c s → FirstFault text c s
  -- E03, E04 and L2, whichever comes first. E03: what stands before t begins a shape, but no shape goes on with t
  unexpected : {w : List Token} (u : List Token) (t : Token) (z : List Token) → HasTokens text w →
      IsUnexpected source_grammar 200 w u t z → FirstFault text code.E03 t.span
  -- E04: the tokens begin a shape that they do not end
  cut_short : {w : List Token} → HasTokens text w → IsCutShort source_grammar 200 w →
      FirstFault text code.E04 (end_of text)
  -- L2: the tokens begin a shape as far as t, at which too many constructs are open
  too_deep : {w : List Token} (u : List Token) (t : Token) (z : List Token) → HasTokens text w →
      IsPassed source_grammar 200 w u t z → FirstFault text code.L2 t.span
  -- L3: too many nodes
  too_large : (p : Piece) → HasShape text p → 100000 < nodes p.tree → FirstFault text code.L3 (raw_span p.tree)
  -- E05 and E06, whichever comes first: a value name, a type name that has no binder around it
  unbound : (p : Piece) (u : Use) → HasShape text p → nodes p.tree ≤ 100000 →
      IsFirstUnbound text (uses text [] [] p.tree) u → FirstFault text (unbound_code u.of_type) u.at

abbrev pub IsFault : List ℕ → FFault → Type 0
IsFault text Memory = Unit {0}
IsFault text (Refused c span) = FirstFault text c span

-- The laws.

-- no text stands for two terms
abbrev pub OneTerm : Type 0
OneTerm = (text : List ℕ) (a b : Tm) → Source text a → Source text b → a ≡ b

-- a text that stands for a term within the limits has no fault
abbrev pub NoFaultWhereRead : Type 0
NoFaultWhereRead = (text : List ℕ) (a : Tm) (c : Code) (span : Span) → SourceWithin text a → ¬ FirstFault text c span

-- a code of a limit
abbrev pub IsLimit : Code → Type 0
IsLimit code.L1 = Unit {0}
IsLimit code.L2 = Unit {0}
IsLimit code.L3 = Unit {0}
IsLimit _ = ⊥

-- a text whose first fault is not that of a limit stands for no term
abbrev pub NoTermWhereFaulty : Type 0
NoTermWhereFaulty = (text : List ℕ) (a : Tm) (c : Code) (span : Span) → FirstFault text c span → ¬ IsLimit c →
    ¬ Source text a

-- each text stands for a term within the limits, or has a first fault
abbrev pub TermOrFault : Type 0
TermOrFault = (text : List ℕ) → ((a : Tm) × SourceWithin text a) ⊎ ((c : Code) × (span : Span) × FirstFault text c span)

-- the uses of names in the tree of a text's tokens, from left to right, stand in the order of the text
abbrev pub UsesInTextOrder : Type 0
UsesInTextOrder = (text : List ℕ) (w : List Token) (p : Piece) → IsCut text w → E w p →
    Ascends 0 (uses text [] [] p.tree)

-- the tree of the tokens has as many nodes as the term
abbrev pub SameNodes : Type 0
SameNodes = (text : List ℕ) (a : Tm) (x : Source text a) → nodes x.shape.tree ≡ term_nodes (plain a)

-- two first faults of a text are equal
abbrev pub OneFault : Type 0
OneFault = (text : List ℕ) (c c' : Code) (span span' : Span) → FirstFault text c span → FirstFault text c' span' →
    (c ≡ c') × (span ≡ span')

-- a text stands for closed terms only
abbrev pub ClosedTerms : Type 0
ClosedTerms = (text : List ℕ) (a : Tm) → Source text a → IsClosed (plain a)
