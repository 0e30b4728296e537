-- Working out what a text stands for, or its first fault.
use Rattle.std.proofs.Common.{◌≡◌, ◌≢◌, ◌<◌, ◌≤◌, ◌⊎◌, inl, inr, ℕ, zero, suc, ◌+◌, pos, negsuc, ◌&&◌, nat_le, List}
use Rattle.std.proofs.Common.{[], ◌∷◌, length, drop, Bool, true, false, if◌then◌else◌, refl, subst, arith}
use Rattle.std.proofs.lemmas.Bool.{leb-true, leb-false, and_parts}
use Rattle.std.proofs.lemmas.Int.{ints}
use Rattle.std.proofs.lemmas.List.{length-drop}
use Rattle.idx_core.specs.declared.span.Span.{Span}
use Rattle.text_core.specs.Tokens.{Tokens, Item, Gap, Spelling, Nothing, Next, n_gap, n_spelling, n_nothing, Cut}
use Rattle.text_core.specs.Tokens.{c_end, c_gap, c_token, Reaches, r_here, r_gap, r_token, Reason, NoToken, OutOfRange}
use Rattle.text_core.specs.Tokens.{Wrong, w_none, w_bounds}
use Rattle.text_core.specs.Lexeme.{item}
use Rattle.text_core.specs.Table.{Verdict, Fine, Unexpected, Passed, bounded, whole}
use Rattle.text_core.specs.Shapes.{NonePasses}
use Rattle.text_core.specs.Verdicts.{Says}
use Rattle.text_core.proofs.Once.{gap_long, spelling_long}
use Rattle.text_core.proofs.Items.{some_next}
use Rattle.t_terms.specs.declared.fault.TCode.{TCode}
use Rattle.t_terms.specs.declared.fault.TCode.TheVariants.{T03, M1}
use Rattle.t_text.specs.declared.token.Kind.{Kind}
use Rattle.t_text.specs.declared.token.Kind.TheVariants as k
use Rattle.t_text.specs.declared.token.Token.{Token}
use Rattle.t_terms.specs.Spanned.{SProg}
use Rattle.t_text.specs.Tokens.{assembly, IsCut, Keeps}
use Rattle.t_text.specs.Raw.{RawItem}
use Rattle.t_text.specs.Grammar.{Program, assembly_grammar}
use Rattle.t_text.specs.GrammarTable.{table, OfItems}
use Rattle.t_text.specs.Names.{program_of}
use Rattle.t_text.specs.NameFaults.{program_faults}
use Rattle.t_text.specs.Text.{most_open, ReadsAs, code_of, FirstFault, in_tokens, unexpected, cut_short, too_deep}
use Rattle.t_text.specs.Text.{in_names, ProgramOrFault}
use Rattle.t_text.proofs.TokenLaws.{assembly_signs}
use Rattle.t_text.proofs.Instance.{assembly_exact}

-- whether a token keeps its bounds
abbrev pub keeps : Kind → Bool
keeps (k.Register n) = nat_le 1 n && nat_le n 9223372036854775807
keeps (k.Plain (pos n)) = nat_le n 9223372036854775807
keeps (k.Negative (negsuc n)) = nat_le n 9223372036854775807
keeps _ = true

does_keep : (x : Kind) → keeps x ≡ true → Keeps x
does_keep (k.Register n) e =
    let p = and_parts (nat_le 1 n) (nat_le n 9223372036854775807) e in
    (leb-true 1 n p.0, leb-true n 9223372036854775807 p.1)
does_keep (k.Plain (pos n)) e = let h = leb-true n 9223372036854775807 e in omega (arith, ints)
does_keep (k.Plain (negsuc n)) e = omega (arith, ints)
does_keep (k.Negative (pos n)) e = omega (arith, ints)
does_keep (k.Negative (negsuc n)) e = let h = leb-true n 9223372036854775807 e in omega (arith, ints)
does_keep _ e = tt

breaks : (x : Kind) → keeps x ≡ false → ¬ Keeps x
breaks (k.Register n) e h = by_low (nat_le 1 n) refl e
  where
    by_low : (b : Bool) → nat_le 1 n ≡ b → (b && nat_le n 9223372036854775807) ≡ false → ⊥
    by_low true p q = let m = leb-false n 9223372036854775807 q in omega (arith, h.1)
    by_low false p q = let m = leb-false 1 n p in omega (arith, h.0)
breaks (k.Plain (pos n)) e h = let m = leb-false n 9223372036854775807 e in omega (arith, ints)
breaks (k.Negative (negsuc n)) e h = let m = leb-false n 9223372036854775807 e in omega (arith, ints)
breaks _ e h = cc

-- the tokens of the bytes s from the place i on, or what is wrong with them
pub data Tokenized : Type 0 where
  All : List Token → Tokenized
  Bad : Reason → ℕ → ℕ → Tokenized
  Unfinished : Tokenized

abbrev pub then_token : Token → Tokenized → Tokenized
then_token t (All w) = All (t ∷ w)
then_token t (Bad why i j) = Bad why i j
then_token t Unfinished = Unfinished

abbrev pub by_item : (ℕ → Tokenized) → ℕ → Item Kind → Tokenized
by_item next i (Gap n) = next n
by_item next i (Spelling x n) =
    if keeps x then then_token (record { kind = x; span = record { start = i; end = i + n } })
    (next n) else Bad OutOfRange i (i + n)
by_item next i Nothing = Bad NoToken i (i + 1)

abbrev pub cut_in : ℕ → ℕ → List ℕ → Tokenized
cut_in steps i [] = All []
cut_in zero i (b ∷ s) = Unfinished
cut_in (suc steps) i (b ∷ s) = by_item (λ n. cut_in steps (i + n) (drop n (b ∷ s))) i (item assembly (b ∷ s))

-- what it says of the bytes
abbrev Tells : ℕ → List ℕ → Tokenized → Type 0
Tells i s (All w) = Cut assembly i s w
Tells i s (Bad why a b) = (r : List ℕ) × (n : ℕ) × Reaches assembly i s a r × Wrong assembly r why n × (b ≡ a + n)
Tells i s Unfinished = Unit {0}

tells : (steps i : ℕ) (s : List ℕ) → Tells i s (cut_in steps i s)
tells steps i [] = c_end
tells zero i (b ∷ s) = tt
tells (suc steps) i (b ∷ s) =
    at (λ n. tells steps (i + n) (drop n (b ∷ s))) (item assembly (b ∷ s)) (some_next assembly assembly_signs b s)
  where
    after_gap : (n : ℕ) → Next assembly (b ∷ s) (Gap n) → (x : Tokenized) → Tells (i + n) (drop n (b ∷ s)) x →
        Tells i (b ∷ s) x
    after_gap n g (All w) h = c_gap g h
    after_gap n g (Bad why a c) (r, m, x, y, z) = (r, m, r_gap g x, y, z)
    after_gap n g Unfinished h = tt

    after_token : (n : ℕ) (x : Kind) → Next assembly (b ∷ s) (Spelling x n) → Keeps x → (t : Tokenized) →
        Tells (i + n) (drop n (b ∷ s)) t →
        Tells i (b ∷ s) (then_token (record { kind = x; span = record { start = i; end = i + n } }) t)
    after_token n x g l (All w) h = c_token g l h
    after_token n x g l (Bad why a c) (r, m, y, z, e) = (r, m, r_token g l y, z, e)
    after_token n x g l Unfinished h = tt

    kept : ((n : ℕ) → Tells (i + n) (drop n (b ∷ s)) (cut_in steps (i + n) (drop n (b ∷ s)))) → (n : ℕ) (x : Kind) →
        Next assembly (b ∷ s) (Spelling x n) → (y : Bool) → keeps x ≡ y →
        Tells i (b ∷ s)
        (if y then then_token (record { kind = x; span = record { start = i; end = i + n } })
        (cut_in steps (i + n) (drop n (b ∷ s))) else Bad OutOfRange i (i + n))
    kept f n x g true e = after_token n x g (does_keep x e) (cut_in steps (i + n) (drop n (b ∷ s))) (f n)
    kept f n x g false e = (b ∷ s, n, r_here, w_bounds g (breaks x e), refl)

    at : ((n : ℕ) → Tells (i + n) (drop n (b ∷ s)) (cut_in steps (i + n) (drop n (b ∷ s)))) → (x : Item Kind) →
        Next assembly (b ∷ s) x → Tells i (b ∷ s) (by_item (λ n. cut_in steps (i + n) (drop n (b ∷ s))) i x)
    at f (Gap n) g = after_gap n g (cut_in steps (i + n) (drop n (b ∷ s))) (f n)
    at f (Spelling x n) g = kept f n x g (keeps x) refl
    at f Nothing g = (b ∷ s, 1, r_here, w_none g, refl)

-- what a text stands for, or its first fault
pub data Answer : Type 0 where
  Stand : SProg → Answer
  Fault : TCode → Span → Answer
  Open : Answer

abbrev pub by_names : List ℕ → List RawItem → List (TCode × Span) → Answer
by_names text raw [] = Stand (program_of text raw)
by_names text raw (f ∷ rest) = Fault f.0 f.1

abbrev pub by_verdict : List ℕ → Verdict table → Answer
by_verdict text (Fine (OfItems raw ∷ vs)) = by_names text raw (program_faults text raw)
by_verdict text (Fine vs) = Open
by_verdict text (Unexpected []) = Fault T03 (record { start = length text; end = length text })
by_verdict text (Unexpected (c ∷ z)) = Fault T03 c.span
by_verdict text (Passed []) = Open
by_verdict text (Passed (c ∷ z)) = Fault M1 c.span

abbrev pub by_tokens : List ℕ → Tokenized → Answer
by_tokens text (All w) = by_verdict text (bounded table most_open w (whole table w))
by_tokens text (Bad why a b) = Fault (code_of why) (record { start = a; end = b })
by_tokens text Unfinished = Open

abbrev pub answer : List ℕ → Answer
answer text = by_tokens text (cut_in (length text) 0 text)

abbrev pub IsAnswer : List ℕ → Answer → Type 0
IsAnswer text (Stand P) = ReadsAs text P
IsAnswer text (Fault code span) = FirstFault text code span
IsAnswer text Open = Unit {0}

of_verdict : (text : List ℕ) (w : List Token) → IsCut text w → (v : Verdict table) → Says table most_open w v →
    IsAnswer text (by_verdict text v)
of_verdict text w c (Fine (OfItems raw ∷ vs)) h =
    let q : h.value ≡ raw = cc in
    let p = subst (λ (x : List RawItem). Program w x) q h.shape in
    named (program_faults text raw) refl p
  where
    named : (fs : List (TCode × Span)) → program_faults text raw ≡ fs → Program w raw →
        IsAnswer text (by_names text raw fs)
    named [] e p =
        record {
          stands = record { tokens = w; cut = c; raw = raw; shape = p; named = e; is = refl };
          within = (w, c, h.within);
        }
    named (f ∷ rest) e p = in_names c p h.within e
of_verdict text w c (Fine _) h = tt
of_verdict text w c (Unexpected []) h = cut_short c h
of_verdict text w c (Unexpected (t ∷ z)) (u, h) = unexpected c h
of_verdict text w c (Passed []) h = tt
of_verdict text w c (Passed (t ∷ z)) (u, h) = too_deep c h

-- the answer is right
pub is_answer : (text : List ℕ) → IsAnswer text (answer text)
is_answer text = of_tokens (cut_in (length text) 0 text) (tells (length text) 0 text)
  where
    of_tokens : (x : Tokenized) → Tells 0 text x → IsAnswer text (by_tokens text x)
    of_tokens (All w) h = of_verdict text w h (bounded table most_open w (whole table w)) (assembly_exact most_open w)
    of_tokens (Bad why a b) (r, n, x, y, e) =
        in_tokens why (record { rest = r; length = n; reached = x; wrong = y; ends = e })
    of_tokens Unfinished h = tt

pub reads : (text : List ℕ) (P : SProg) → answer text ≡ Stand P → ReadsAs text P
reads text P e = subst (λ (x : Answer). IsAnswer text x) e (is_answer text)

pub faulty : (text : List ℕ) (code : TCode) (start end : ℕ) →
    answer text ≡ Fault code (record { start = start; end = end }) →
    FirstFault text code (record { start = start; end = end })
faulty text code start end e = subst (λ (x : Answer). IsAnswer text x) e (is_answer text)

-- each text is read or has a first fault
abbrev Decided : List ℕ → Type 0
Decided text = ((P : SProg) × ReadsAs text P) ⊎ ((code : TCode) × (span : Span) × FirstFault text code span)

-- an item takes a byte at least, so the cutting ends
taken : (g : Tokens) {s : List ℕ} {x : Item g.Kind} → Next g s x → ((n : ℕ) → x ≡ Gap n → 0 < n)
    × ((k : g.Kind) (n : ℕ) → x ≡ Spelling k n → 0 < n)
taken g (n_gap {u} {r} h) =
    (λ n e. let l = gap_long u r h in let same : length u ≡ n = cc in omega (arith, same), λ k n e. absurd (cc))
taken g (n_spelling {u} {r} {k} m l) = (
  λ n e. absurd (cc),
  λ j n e. let o = spelling_long g u k l.spells in let same : length u ≡ n = cc in
      omega (arith, same),
)
taken g (n_nothing z m f) = (λ n e. absurd (cc), λ k n e. absurd (cc))

finished : (steps i : ℕ) (s : List ℕ) → length s ≤ steps → cut_in steps i s ≢ Unfinished
finished steps i [] le = λ e. cc
finished zero i (b ∷ s) le = absurd (omega arith)
finished (suc steps) i (b ∷ s) le =
    at (λ n lt. finished steps (i + n) (drop n (b ∷ s)) (omega (arith, length-drop n (b ∷ s)))) (item assembly (b ∷ s))
    (taken assembly (some_next assembly assembly_signs b s))
  where
    kept : (t : Token) (x : Tokenized) → x ≢ Unfinished → then_token t x ≢ Unfinished
    kept t (All w) h = λ e. cc
    kept t (Bad why j k) h = λ e. cc
    kept t Unfinished h = λ e. h refl

    at : ((n : ℕ) → 0 < n → cut_in steps (i + n) (drop n (b ∷ s)) ≢ Unfinished) → (x : Item Kind) →
        ((n : ℕ) → x ≡ Gap n → 0 < n) × ((k : Kind) (n : ℕ) → x ≡ Spelling k n → 0 < n) →
        by_item (λ n. cut_in steps (i + n) (drop n (b ∷ s))) i x ≢ Unfinished
    at f (Gap n) t = f n (t.0 n refl)
    at f (Spelling k n) t = by_bounds (keeps k)
      where
        by_bounds : (y : Bool) →
            (if y then then_token (record { kind = k; span = record { start = i; end = i + n } })
            (cut_in steps (i + n) (drop n (b ∷ s))) else Bad OutOfRange i (i + n)) ≢ Unfinished
        by_bounds true = kept _ _ (f n (t.1 k n refl))
        by_bounds false = λ e. cc
    at f Nothing t = λ e. cc

pub program_or_fault : ProgramOrFault
program_or_fault text =
    of_tokens (cut_in (length text) 0 text) (tells (length text) 0 text) (finished (length text) 0 text (omega arith))
  where
    named : (w : List Token) (raw : List RawItem) → IsCut text w → Program w raw →
        NonePasses assembly_grammar most_open w → (fs : List (TCode × Span)) → program_faults text raw ≡ fs →
        Decided text
    named w raw c p n [] e =
        inl (
          program_of text raw,
          record {
            stands = record { tokens = w; cut = c; raw = raw; shape = p; named = e; is = refl };
            within = (w, c, n);
          },
        )
    named w raw c p n (f ∷ rest) e = inr (f.0, f.1, in_names c p n e)

    of_verdict : (w : List Token) → IsCut text w → (v : Verdict table) → Says table most_open w v → Decided text
    of_verdict w c (Fine vs) h = named w h.value c h.shape h.within (program_faults text h.value) refl
    of_verdict w c (Unexpected []) h = inr (T03, _, cut_short c h)
    of_verdict w c (Unexpected (t ∷ z)) (u, h) = inr (T03, t.span, unexpected c h)
    of_verdict w c (Passed []) h = absurd h
    of_verdict w c (Passed (t ∷ z)) (u, h) = inr (M1, t.span, too_deep c h)

    of_tokens : (x : Tokenized) → Tells 0 text x → x ≢ Unfinished → Decided text
    of_tokens (All w) h f = of_verdict w h (bounded table most_open w (whole table w)) (assembly_exact most_open w)
    of_tokens (Bad why a b) (r, n, x, y, e) f =
        inr (
          code_of why,
          record { start = a; end = b },
          in_tokens why (record { rest = r; length = n; reached = x; wrong = y; ends = e }),
        )
    of_tokens Unfinished h f = absurd (f refl)
