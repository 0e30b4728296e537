-- Each token is told as one that is listed.
use Rattle.std.proofs.Common.{◌≡◌, ◌⊎◌, ◌<◌, ◌≤◌, ◌==◌, inl, inr, ℕ, zero, suc, pos, negsuc, slice_get, refl}
use Rattle.std.proofs.Common.{List, Option, Some, false, arith}
use Rattle.std.proofs.lemmas.Bool.{ne_eqb}
use Rattle.idx_core.specs.declared.span.Span.{Span}
use Rattle.t_text.specs.declared.token.Kind.{Kind}
use Rattle.t_text.specs.declared.token.Kind.TheVariants as k
use Rattle.t_text.specs.declared.token.Token.{Token}
use Rattle.t_text.specs.declared.wanted.Wanted.{Wanted}
use Rattle.t_text.specs.declared.wanted.Wanted.TheVariants as want
use Rattle.t_text.specs.GrammarTable as m
use Rattle.t_text.specs.GrammarTable.{table, Line, fits, after}
use Rattle.talc_wanted.specs.Wanted.{IsTold}
use Rattle.talc_wanted.proofs.Same.{told_as}
use Rattle.talc_wanted.specs.AssemblyWords.{assembly_kinds}
use Rattle.talc_wanted.specs.AssemblyText.{AllAreTold}

abbrev tok : Kind → Span → Token
tok kind s = record { kind = kind; span = s }

-- large numbers have no value that is told
far : (m n : ℕ) → n < m → (m == n) ≡ false
far m n h = ne_eqb m n (λ e. omega arith)

large_flag : (m : ℕ) → 3 ≤ m → fits want.Flag (k.Plain (pos m)) ≡ fits want.Flag (k.Plain (pos 3))
large_flag m h =
    let none : (m == 0) ≡ false = far m 0 (omega arith) in
    let one : (m == 1) ≡ false = far m 1 (omega arith) in
    rw (none, one) refl

large_head : (v : ℕ) → 3 ≤ v → after m.LHeader (k.Plain (pos v)) ≡ after m.LHeader (k.Plain (pos 3))
large_head v h =
    let one : (v == 1) ≡ false = far v 1 (omega arith) in
    let two : (v == 2) ≡ false = far v 2 (omega arith) in
    rw (one, two) refl

large_fits : (n : ℕ) (c : Wanted) → fits c (k.Plain (pos (suc (suc (suc n))))) ≡ fits c (k.Plain (pos 3))
large_fits n want.Flag = large_flag (suc (suc (suc n))) (omega arith)
large_fits n _ = refl

large_after : (n : ℕ) (l : Line) → after l (k.Plain (pos (suc (suc (suc n))))) ≡ after l (k.Plain (pos 3))
large_after n m.LHeader = large_head (suc (suc (suc n))) (omega arith)
large_after n _ = refl

odd_fits : (n : ℕ) (c : Wanted) → fits c (k.Plain (negsuc n)) ≡ fits c (k.Plain (pos 3))
odd_fits n want.Flag = refl
odd_fits n _ = refl

odd_after : (n : ℕ) (l : Line) → after l (k.Plain (negsuc n)) ≡ after l (k.Plain (pos 3))
odd_after n m.LHeader = refl
odd_after n _ = refl

below_fits : (n : ℕ) (c : Wanted) → fits c (k.Negative (negsuc n)) ≡ fits c (k.Negative (negsuc 0))
below_fits n want.Flag = refl
below_fits n _ = refl

below_after : (n : ℕ) (l : Line) → after l (k.Negative (negsuc n)) ≡ after l (k.Negative (negsuc 0))
below_after n m.LHeader = refl
below_after n _ = refl

above_fits : (n : ℕ) (c : Wanted) → fits c (k.Negative (pos (suc n))) ≡ fits c (k.Negative (negsuc 0))
above_fits n want.Flag = far (suc n) 0 (omega arith)
above_fits n _ = refl

above_after : (n : ℕ) (l : Line) → after l (k.Negative (pos (suc n))) ≡ after l (k.Negative (negsuc 0))
above_after n m.LHeader = refl
above_after n _ = refl

register_fits : (n : ℕ) (c : Wanted) → fits c (k.Register n) ≡ fits c (k.Register 1)
register_fits n want.Flag = refl
register_fits n _ = refl

register_after : (n : ℕ) (l : Line) → after l (k.Register n) ≡ after l (k.Register 1)
register_after n m.LHeader = refl
register_after n _ = refl

-- a token of the very kind, and one like it
told_at : (i : ℕ) (kind : Kind) (s : Span) {wider : Option Kind} {words : List ℕ} →
    slice_get assembly_kinds.kinds i ≡ Some (kind, wider, words) →
    IsTold table assembly_kinds (tok kind s) ⊎ (kind ≡ k.Negative (pos 0))
told_at i kind s e = inl (told_as table assembly_kinds i (tok kind s) kind e (λ c. refl) (λ n. refl))

told_like : (i : ℕ) (kind listed : Kind) (s : Span) {wider : Option Kind} {words : List ℕ} →
    slice_get assembly_kinds.kinds i ≡ Some (listed, wider, words) → ((c : Wanted) → fits c kind ≡ fits c listed) →
    ((n : Line) → after n kind ≡ after n listed) →
    IsTold table assembly_kinds (tok kind s) ⊎ (kind ≡ k.Negative (pos 0))
told_like i kind listed s e f a = inl (told_as table assembly_kinds i (tok kind s) listed e f a)

told : (kind : Kind) (s : Span) → IsTold table assembly_kinds (tok kind s) ⊎ (kind ≡ k.Negative (pos 0))
told (k.Plain (pos zero)) s = told_at 15 (k.Plain (pos 0)) s refl
told (k.Plain (pos (suc zero))) s = told_at 16 (k.Plain (pos 1)) s refl
told (k.Plain (pos (suc (suc zero)))) s = told_at 17 (k.Plain (pos 2)) s refl
told (k.Plain (pos (suc (suc (suc n))))) s =
    told_like 20 (k.Plain (pos (suc (suc (suc n))))) (k.Plain (pos 3)) s refl (large_fits n) (large_after n)
told (k.Plain (negsuc n)) s = told_like 20 (k.Plain (negsuc n)) (k.Plain (pos 3)) s refl (odd_fits n) (odd_after n)
told (k.Negative (pos zero)) s = inr refl
told (k.Negative (pos (suc n))) s =
    told_like 21 (k.Negative (pos (suc n))) (k.Negative (negsuc 0)) s refl (above_fits n) (above_after n)
told (k.Negative (negsuc n)) s =
    told_like 21 (k.Negative (negsuc n)) (k.Negative (negsuc 0)) s refl (below_fits n) (below_after n)
told (k.Register n) s = told_like 18 (k.Register n) (k.Register 1) s refl (register_fits n) (register_after n)
told k.As s = told_at 0 k.As s refl
told k.Code s = told_at 1 k.Code s refl
told k.Data s = told_at 2 k.Data s refl
told k.RightBracket s = told_at 3 k.RightBracket s refl
told k.RightBrace s = told_at 4 k.RightBrace s refl
told k.RightAngle s = told_at 5 k.RightAngle s refl
told k.Comma s = told_at 6 k.Comma s refl
told k.Dot s = told_at 7 k.Dot s refl
told k.Colon s = told_at 8 k.Colon s refl
told k.Caret s = told_at 9 k.Caret s refl
told k.Jmp s = told_at 10 k.Jmp s refl
told k.Halt s = told_at 11 k.Halt s refl
told k.LeftBracket s = told_at 12 k.LeftBracket s refl
told k.LeftBrace s = told_at 13 k.LeftBrace s refl
told k.Tal s = told_at 14 k.Tal s refl
told k.Name s = told_at 19 k.Name s refl
told k.Int s = told_at 22 k.Int s refl
told k.All s = told_at 23 k.All s refl
told k.Some s = told_at 24 k.Some s refl
told k.LeftAngle s = told_at 25 k.LeftAngle s refl
told k.Pack s = told_at 26 k.Pack s refl
told k.Add s = told_at 27 k.Add s refl
told k.Sub s = told_at 28 k.Sub s refl
told k.Mul s = told_at 29 k.Mul s refl
told k.Bnz s = told_at 30 k.Bnz s refl
told k.Ld s = told_at 31 k.Ld s refl
told k.St s = told_at 32 k.St s refl
told k.Mov s = told_at 33 k.Mov s refl
told k.Malloc s = told_at 34 k.Malloc s refl
told k.Unpack s = told_at 35 k.Unpack s refl

pub all_are_told : AllAreTold
all_are_told c = told c.kind c.span
