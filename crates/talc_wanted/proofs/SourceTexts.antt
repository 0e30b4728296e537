-- Worked lines, proved by computing.
use Rattle.std.proofs.Common.{◌≡◌, ℕ, List, [], refl, codes}
use Rattle.text_core.specs.Lexeme.{item}
use Rattle.f_lexer.specs.Source.{source}
use Rattle.f_grammar.specs.Grammar.{tok}
use Rattle.talc_wanted.proofs.Worked.{line_by}
use Rattle.talc_wanted.specs.SourceText.{wanted_line}

abbrev line : List ℕ → ℕ → ℕ → List ℕ
line = line_by (item source) tok wanted_line

cut_short : line (codes "(1 +") 4 4
    ≡ codes "wanted one of: a name a number ~1 ( < # ! if0 ref; found the end"
cut_short = refl

too_much : line (codes "1 )") 2 3
    ≡ codes "wanted one of: the end := * + - [ a name a number ~1 ( < # ! if0 ref; found `)`"
too_much = refl

-- a second `let` where the first has no `in`
no_in : line (codes "let x = 1 let y = 2 in x") 10 13
    ≡ codes "wanted one of: in := * + - [ a name a number ~1 ( < # ! if0 ref; found `let`"
no_in = refl

no_result : line (codes "fix f(n:int). n") 12 13 ≡ codes "wanted one of: :; found `.`"
no_result = refl

-- `if` is a name, and `n` its argument
no_word : line (codes "if n = 0 then 1") 5 6
    ≡ codes "wanted one of: the end := * + - [ a name a number ~1 ( < # ! if0 ref; found `=`"
no_word = refl

-- an operand, and no sign before a number
minus : line (codes "let x = -5 in x") 8 9
    ≡ codes "wanted one of: a name a number ~1 ( < # ! if0 ref fix let gen open pack; found `-`"
minus = refl

-- a projection takes a plain number; a type has other words than an expression
no_field : line (codes "#x p") 1 2 ≡ codes "wanted one of: a number; found `x`"
no_field = refl

no_type : line (codes "fix f(n:1") 8 9 ≡ codes "wanted one of: int all some a name ( < ref; found `1`"
no_type = refl

-- a long token is cut
long : line (codes "fix 123456789012") 4 16 ≡ codes "wanted one of: a name; found `12345678901..`"
long = refl

-- there is no line where another place is asked for, nor where the grammar goes on
elsewhere : line (codes "1 )") 0 1 ≡ []
elsewhere = refl

in_grammar : line (codes "<1 2>") 1 2 ≡ []
in_grammar = refl

whole : line (codes "<1 2>") 5 5 ≡ []
whole = refl
