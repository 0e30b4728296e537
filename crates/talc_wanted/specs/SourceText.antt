-- The line on what could stand at a place of a source text.
use Rattle.std.specs.Prelude.{ℕ, ◌==◌, ◌&&◌, List, length, codes, bytes_eq, IsTrue, Bool, false}
use Rattle.std.specs.List.{list_all}
use Rattle.std.specs.Option.{is_none}
use Rattle.text_core.specs.Tokens.{Item, Spelling}
use Rattle.text_core.specs.Lexeme.{item}
use Rattle.idx_core.specs.declared.span.Span.{Span}
use Rattle.f_lexer.specs.declared.kind.Kind.{Kind}
use Rattle.f_lexer.specs.declared.kind.Kind.TheVariants as k
use Rattle.f_lexer.specs.declared.token.Token.{Token}
use Rattle.f_lexer.specs.contracts.kind.KindPartialEq.TheImpl as same_kind
use Rattle.f_lexer.specs.Source.{source, IsCut}
use Rattle.f_grammar.specs.Machine.{table}
use Rattle.talc_wanted.specs.Wanted as wanted
use Rattle.talc_wanted.specs.Wanted.{machine_of, IsTold}
use Rattle.talc_wanted.specs.SourceWords.{source_kinds}

-- the line of a place in a text of these tokens
abbrev pub wanted_line : (text : List ℕ) → Span → List Token → List ℕ
wanted_line text at w = wanted.wanted_line (machine_of table) source_kinds text at w

-- the line of a place in a text: none where it is not cut into tokens
abbrev pub IsWanted : (text : List ℕ) → Span → List ℕ → Type 0
IsWanted text at line = wanted.IsWanted table source_kinds IsCut text at line

-- a place in a text has one line
abbrev pub OneLine : Type 0
OneLine = wanted.OneLine table source_kinds IsCut

-- each token is told as one of the kinds
abbrev pub AllAreTold : Type 0
AllAreTold = (c : Token) → IsTold table source_kinds c

-- the words for a kind are its spelling, but for names and numbers, which have many
abbrev pub is_spelling : Kind → List ℕ → Item Kind → Bool
is_spelling kind words (Spelling found n) = same_kind.ghosts.eq kind found && n == length words
is_spelling kind words _ = false

abbrev pub is_worded : Kind → List ℕ → Bool
is_worded k.Name words = bytes_eq words (codes "a name")
is_worded (k.Plain z) words = bytes_eq words (codes "a number")
is_worded kind words = is_spelling kind words (item source words)

-- so it is of all of them, and none has a wider kind
abbrev pub AllAreWorded : Type 0
AllAreWorded = IsTrue (list_all (λ r. is_none r.1 && is_worded r.0 r.2) source_kinds.kinds)
