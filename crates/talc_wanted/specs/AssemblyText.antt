-- The line on what could stand at a place of an assembly text.
use Rattle.std.specs.Prelude.{◌≡◌, ◌⊎◌, ℕ, pos, ◌==◌, ◌&&◌, List, length, codes, bytes_eq, IsTrue, Bool, false}
use Rattle.std.specs.Prelude.{not, Option, Some, None, if◌then◌else◌}
use Rattle.std.specs.List.{list_all}
use Rattle.std.specs.Option.{is_none}
use Rattle.text_core.specs.Tokens.{Item, Spelling}
use Rattle.text_core.specs.Lexeme.{item}
use Rattle.idx_core.specs.declared.span.Span.{Span}
use Rattle.t_text.specs.declared.token.Kind.{Kind}
use Rattle.t_text.specs.declared.token.Kind.TheVariants as k
use Rattle.t_text.specs.declared.token.Token.{Token}
use Rattle.t_text.specs.contracts.token.KindPartialEq.TheImpl as same_kind
use Rattle.t_text.specs.Tokens.{assembly, IsCut}
use Rattle.t_text.specs.GrammarTable.{table}
use Rattle.talc_wanted.specs.Wanted as wanted
use Rattle.talc_wanted.specs.Wanted.{machine_of, IsTold}
use Rattle.talc_wanted.specs.AssemblyWords.{assembly_kinds}

-- the line of a place in a text of these tokens
abbrev pub wanted_line : (text : List ℕ) → Span → List Token → List ℕ
wanted_line text at w = wanted.wanted_line (machine_of table) assembly_kinds text at w

-- the line of a place in a text: none where it is not cut into tokens
abbrev pub IsWanted : (text : List ℕ) → Span → List ℕ → Type 0
IsWanted text at line = wanted.IsWanted table assembly_kinds IsCut text at line

-- a place in a text has one line
abbrev pub OneLine : Type 0
OneLine = wanted.OneLine table assembly_kinds IsCut

-- each token is told as one of the kinds but `~0`, which may stand for the flag 0
abbrev pub AllAreTold : Type 0
AllAreTold = (c : Token) → IsTold table assembly_kinds c ⊎ (c.kind ≡ k.Negative (pos 0))

-- the words for a kind are its spelling, but for names, registers and numbers of any value, which have many
abbrev pub is_spelling : Kind → List ℕ → Item Kind → Bool
is_spelling kind words (Spelling found n) = same_kind.ghosts.eq kind found && n == length words
is_spelling kind words _ = false

abbrev pub is_worded : Kind → List ℕ → Bool
is_worded k.Name words = bytes_eq words (codes "a name")
is_worded (k.Register n) words = bytes_eq words (codes "a register")
is_worded (k.Plain (pos n)) words =
    if n == 3 then bytes_eq words (codes "a number") else is_spelling (k.Plain (pos n)) words (item assembly words)
is_worded kind words = is_spelling kind words (item assembly words)

-- the number 3, which stands for all, is the wider kind of each other number, and no other kind has one
abbrev pub is_wider : Kind → Option Kind → Bool
is_wider (k.Plain (pos n)) None = n == 3
is_wider (k.Plain (pos n)) (Some wider) = not (n == 3) && same_kind.ghosts.eq wider (k.Plain (pos 3))
is_wider kind wider = is_none wider

-- so it is of all of them
abbrev pub AllAreWorded : Type 0
AllAreWorded = IsTrue (list_all (λ r. is_wider r.0 r.1 && is_worded r.0 r.2) assembly_kinds.kinds)
