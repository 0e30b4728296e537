-- Each token is told as one that is listed.
use Rattle.std.proofs.Common.{◌≡◌, ℕ, ℤ, pos, negsuc, List, slice_get, refl, Option, Some}
use Rattle.idx_core.specs.declared.span.Span.{Span}
use Rattle.f_lexer.specs.declared.kind.Kind.{Kind}
use Rattle.f_lexer.specs.declared.kind.Kind.TheVariants as k
use Rattle.f_grammar.specs.declared.cursor.Wanted.{Wanted}
use Rattle.f_grammar.specs.declared.cursor.Wanted.TheVariants as want
use Rattle.f_grammar.specs.Grammar.{tok}
use Rattle.f_grammar.specs.Machine as m
use Rattle.f_grammar.specs.Machine.{table, Line, fits, after}
use Rattle.talc_wanted.specs.Wanted.{IsTold}
use Rattle.talc_wanted.proofs.Same.{told_as}
use Rattle.talc_wanted.specs.SourceWords.{source_kinds}
use Rattle.talc_wanted.specs.SourceText.{AllAreTold}

-- numbers are told apart by their sign alone
plain_fits : (y z : ℤ) (c : Wanted) → fits c (k.Plain y) ≡ fits c (k.Plain z)
plain_fits y z want.Name = refl
plain_fits y z _ = refl

plain_after : (y z : ℤ) (n : Line) → after n (k.Plain y) ≡ after n (k.Plain z)
plain_after y z m.LE = refl
plain_after y z _ = refl

negative_fits : (y z : ℤ) (c : Wanted) → fits c (k.Negative y) ≡ fits c (k.Negative z)
negative_fits y z want.Name = refl
negative_fits y z _ = refl

negative_after : (y z : ℤ) (n : Line) → after n (k.Negative y) ≡ after n (k.Negative z)
negative_after y z m.LE = refl
negative_after y z _ = refl

-- a token of the very kind
told_at : (i : ℕ) (kind : Kind) (s : Span) {wider : Option Kind} {words : List ℕ} →
    slice_get source_kinds.kinds i ≡ Some (kind, wider, words) → IsTold table source_kinds (tok kind s)
told_at i kind s e = told_as table source_kinds i (tok kind s) kind e (λ c. refl) (λ n. refl)

told : (kind : Kind) (s : Span) → IsTold table source_kinds (tok kind s)
told (k.Plain z) s = told_as table source_kinds 19 (tok (k.Plain z) s) (k.Plain (pos 1)) refl
    (plain_fits z (pos 1)) (plain_after z (pos 1))
told (k.Negative z) s = told_as table source_kinds 20 (tok (k.Negative z) s) (k.Negative (negsuc 0)) refl
    (negative_fits z (negsuc 0)) (negative_after z (negsuc 0))
told k.In s = told_at 0 k.In s refl
told k.As s = told_at 1 k.As s refl
told k.RightParen s = told_at 2 k.RightParen s refl
told k.RightAngle s = told_at 3 k.RightAngle s refl
told k.RightBracket s = told_at 4 k.RightBracket s refl
told k.Comma s = told_at 5 k.Comma s refl
told k.Dot s = told_at 6 k.Dot s refl
told k.Colon s = told_at 7 k.Colon s refl
told k.Equals s = told_at 8 k.Equals s refl
told k.Arrow s = told_at 9 k.Arrow s refl
told k.Assign s = told_at 10 k.Assign s refl
told k.Star s = told_at 11 k.Star s refl
told k.Plus s = told_at 12 k.Plus s refl
told k.Minus s = told_at 13 k.Minus s refl
told k.LeftBracket s = told_at 14 k.LeftBracket s refl
told k.Int s = told_at 15 k.Int s refl
told k.All s = told_at 16 k.All s refl
told k.Some s = told_at 17 k.Some s refl
told k.Name s = told_at 18 k.Name s refl
told k.LeftParen s = told_at 21 k.LeftParen s refl
told k.LeftAngle s = told_at 22 k.LeftAngle s refl
told k.Hash s = told_at 23 k.Hash s refl
told k.Bang s = told_at 24 k.Bang s refl
told k.If0 s = told_at 25 k.If0 s refl
told k.Ref s = told_at 26 k.Ref s refl
told k.Fix s = told_at 27 k.Fix s refl
told k.Let s = told_at 28 k.Let s refl
told k.Gen s = told_at 29 k.Gen s refl
told k.Open s = told_at 30 k.Open s refl
told k.Pack s = told_at 31 k.Pack s refl

pub all_are_told : AllAreTold
all_are_told c = told c.kind c.span
