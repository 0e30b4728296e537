-- A fixed piece of a text is cut into tokens by computing. Its places are counted from a base.
use Rattle.std.proofs.Common.{◌≡◌, ◌≤◌, ◌<◌, ℕ, zero, suc, ◌+◌, List, [], ◌∷◌, ◌++◌, length, drop, Bool, true, false}
use Rattle.std.proofs.Common.{◌&&◌, nat_le, refl, sym, subst, arith, pos, negsuc}
use Rattle.std.proofs.lemmas.Bool.{and_parts}
use Rattle.std.proofs.lemmas.Bool.Decides.{nat_tests}
use Rattle.std.proofs.lemmas.Int.{ints}
use Rattle.std.proofs.lemmas.List.{drop_at}
use Rattle.idx_core.specs.declared.span.Span.{Span}
use Rattle.text_core.specs.Byte.{digit}
use Rattle.text_core.specs.Tokens.{Item, Gap, Spelling, Nothing, Next, Cut, c_gap, c_token}
use Rattle.text_core.specs.Lexeme.{item}
use Rattle.text_core.proofs.Items.{some_next}
use Rattle.f_lexer.specs.declared.token.Token.{Token}
use Rattle.f_lexer.specs.declared.kind.Kind.{Kind}
use Rattle.f_lexer.specs.declared.kind.Kind.TheVariants as k
use Rattle.f_lexer.specs.Source.{source, Keeps}
use Rattle.f_lexer.proofs.Finding.{source_signs}
use Rattle.f_seeds.proofs.Numerals.{Spelled, number_next}

-- from one place to another, counted from the base i
abbrev pub at : ℕ → ℕ → ℕ → Span
at i a b = record { start = i + a; end = i + b }

abbrev token : Kind → Span → Token
token kind s = record { kind = kind; span = s }

-- the tokens of the first n gaps and spellings of s, which stands at the place o from the base i
abbrev one : (ℕ → List ℕ → List Token) → ℕ → ℕ → List ℕ → Item Kind → List Token
one next i o s (Gap n) = next (o + n) (drop n s)
one next i o s (Spelling kind n) = token kind (at i o (o + n)) ∷ next (o + n) (drop n s)
one next i o s Nothing = []

abbrev pub tokens : ℕ → ℕ → ℕ → List ℕ → List Token
tokens zero i o s = []
tokens (suc n) i o s = one (λ o s. tokens n i o s) i o s (item source s)

-- the place after them, from the base
abbrev end_one : (ℕ → List ℕ → ℕ) → ℕ → List ℕ → Item Kind → ℕ
end_one next o s (Gap n) = next (o + n) (drop n s)
end_one next o s (Spelling kind n) = next (o + n) (drop n s)
end_one next o s Nothing = o

abbrev pub end : ℕ → ℕ → List ℕ → ℕ
end zero o s = o
end (suc n) o s = end_one (λ o s. end n o s) o s (item source s)

-- the bytes after them
abbrev left_one : (List ℕ → List ℕ) → List ℕ → Item Kind → List ℕ
left_one next s (Gap n) = next (drop n s)
left_one next s (Spelling kind n) = next (drop n s)
left_one next s Nothing = s

abbrev pub left : ℕ → List ℕ → List ℕ
left zero s = s
left (suc n) s = left_one (λ s. left n s) s (item source s)

-- they are gaps and spellings, and each keeps its bounds
abbrev small : Kind → Bool
small (k.Plain (pos n)) = nat_le n 9223372036854775807
small (k.Plain (negsuc n)) = false
small (k.Negative z) = false
small _ = true

abbrev fine_one : (List ℕ → Bool) → List ℕ → Item Kind → Bool
fine_one next s (Gap n) = next (drop n s)
fine_one next s (Spelling kind n) = small kind && next (drop n s)
fine_one next s Nothing = false

abbrev pub fine : ℕ → List ℕ → Bool
fine zero s = true
fine (suc n) [] = false
fine (suc n) (b ∷ s) = fine_one (λ s. fine n s) (b ∷ s) (item source (b ∷ s))

keeps : (kind : Kind) → small kind ≡ true → Keeps kind
keeps (k.Plain (pos n)) e = let h : n ≤ 9223372036854775807 = grind (arith, nat_tests) in omega (arith, ints)
keeps (k.Plain (negsuc n)) e = absurd (cc)
keeps (k.Negative z) e = absurd (cc)
keeps _ e = tt

-- where what is left is cut into the tokens v, the whole is cut into these and v
abbrev Whole : ℕ → List Token → (ℕ → List ℕ → List Token) → (ℕ → List ℕ → ℕ) → (List ℕ → List ℕ) → (List ℕ → Bool) →
    Type 0
Whole i v go to rest good =
    (o : ℕ) (s : List ℕ) → good s ≡ true → Cut source (i + to o s) (rest s) v → Cut source (i + o) s (go o s ++ v)

step : (i : ℕ) (v : List Token) (go : ℕ → List ℕ → List Token) (to : ℕ → List ℕ → ℕ) (rest : List ℕ → List ℕ)
    (good : List ℕ → Bool) →
    Whole i v go to rest good → (o : ℕ) (s : List ℕ) (x : Item Kind) → Next source s x → fine_one good s x ≡ true →
    Cut source (i + end_one to o s x) (left_one rest s x) v → Cut source (i + o) s (one go i o s x ++ v)
step i v go to rest good more o s (Gap n) here h cut =
    c_gap here (subst (λ (j : ℕ). Cut source j (drop n s) (go (o + n) (drop n s) ++ v)) (omega arith)
    (more (o + n) (drop n s) h cut))
step i v go to rest good more o s (Spelling kind n) here h cut =
    let p = and_parts (small kind) (good (drop n s)) h in
    let after : Cut source (i + o + n) (drop n s) (go (o + n) (drop n s) ++ v) =
    subst (λ (j : ℕ). Cut source j (drop n s) (go (o + n) (drop n s) ++ v)) (omega arith)
    (more (o + n) (drop n s) p.1 cut) in
    subst (λ (j : ℕ).
    Cut source (i + o) s (token kind (record { start = i + o; end = j }) ∷ (go (o + n) (drop n s) ++ v)))
    (omega arith) (c_token here (keeps kind p.0) after)
step i v go to rest good more o s Nothing here h cut = absurd (cc)

runs : (n i : ℕ) (v : List Token) → Whole i v (λ o s. tokens n i o s) (λ o s. end n o s) (λ s. left n s) (λ s. fine n s)
runs zero i v o s h cut = cut
runs (suc n) i v o [] h cut = absurd (cc)
runs (suc n) i v o (b ∷ s) h cut =
    step i v (λ o s. tokens n i o s) (λ o s. end n o s) (λ s. left n s) (λ s. fine n s) (runs n i v) o (b ∷ s)
    (item source (b ∷ s))
    (some_next source source_signs b s) h cut

-- n gaps and spellings of the bytes s that stand at the place i
pub run : (n i : ℕ) (s : List ℕ) (v : List Token) → fine n s ≡ true → Cut source (i + end n 0 s) (left n s) v →
    Cut source i s (tokens n i 0 s ++ v)
run n i s v h cut = subst (λ (j : ℕ). Cut source j s (tokens n i 0 s ++ v)) (omega arith) (runs n i v 0 s h cut)

-- the digits of a number that stand at the place i
abbrev pub number_at : ℕ → ℕ → ℕ → Token
number_at c i n = token (k.Plain (pos c)) (record { start = i; end = i + n })

pub run_number : (c d : ℕ) (ds : List ℕ) (i b : ℕ) (r : List ℕ) (v : List Token) → c < 20 → Spelled c d ds →
    digit b ≡ false →
    Cut source (i + length (d ∷ ds)) (b ∷ r) v → Cut source i (d ∷ (ds ++ b ∷ r)) (number_at c i (length (d ∷ ds)) ∷ v)
run_number c d ds i b r v low h s cut =
    c_token (number_next c d ds b r h s) (omega (arith, ints))
    (subst (λ (t : List ℕ). Cut source (i + length (d ∷ ds)) t v)
    (sym (drop_at (d ∷ ds) (b ∷ r) (length (d ∷ ds)) refl)) cut)
