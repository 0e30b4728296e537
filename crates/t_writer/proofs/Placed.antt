-- The tokens of written bytes, with their places, and that the bytes are cut into them.
use Rattle.std.proofs.Common.{◌≡◌, ℕ, ◌+◌, ◌-◌, List, [], ◌∷◌, ◌++◌, length, drop, Bool, true, false, refl, sym, ap}
use Rattle.std.proofs.Common.{◌∙◌, arith, subst, append_assoc, length-append}
use Rattle.std.specs.Prelude.{slice_range}
use Rattle.std.proofs.lemmas.List.{drop-drop}
use Rattle.std.proofs.lemmas.Bool.Decides.{nat_tests}
use Rattle.std.proofs.Math.Seq.{take-append_seam, drop-append_seam}
use Rattle.idx_core.specs.declared.span.Span.{Span}
use Rattle.text_core.specs.Byte.{space, of_word}
use Rattle.text_core.specs.Tokens.{Gap, Spelling, Next, Cut, c_end, c_gap, c_token}
use Rattle.text_core.specs.Lexeme.{item}
use Rattle.text_core.proofs.Items.{some_next}
use Rattle.t_text.specs.declared.token.Kind.{Kind}
use Rattle.t_text.specs.declared.token.Token.{Token}
use Rattle.t_text.specs.Tokens.{assembly}
use Rattle.t_text.specs.Grammar.{tok}
use Rattle.t_text.proofs.TokenLaws.{assembly_signs}
use Rattle.t_writer.specs.Lexeme.{Lexeme, Reserved, TypeName, LabelName, DataName, Register, Number, Digit, Sign}
use Rattle.t_writer.specs.Lexeme.{Blank, bytes, render}
use Rattle.text_core.proofs.Characters.{Stops}
use Rattle.t_writer.proofs.Items.{Valid, kind_of, lexeme_item, lexeme_keeps, sign_stops}

-- the length of what is written
abbrev pub size : List Lexeme → ℕ
size ls = length (render ls)

abbrev pub place_of : ℕ → Lexeme → Span
place_of i l = record { start = i; end = i + length (bytes l) }

abbrev pub token_of : ℕ → Lexeme → List Token
token_of i (Blank b) = []
token_of i l = tok (kind_of l) (place_of i l) ∷ []

-- the tokens of the lexemes, which stand from the place i on
abbrev pub placed : ℕ → List Lexeme → List Token
placed i [] = []
placed i (l ∷ ls) = token_of i l ++ placed (i + length (bytes l)) ls

size_append : (i : ℕ) (l : Lexeme) (a : List Lexeme) → i + length (bytes l) + size a ≡ i + size (l ∷ a)
size_append i l a = omega (arith, length-append (bytes l) (render a))

pub placed_append : (i : ℕ) (a b : List Lexeme) → placed i (a ++ b) ≡ placed i a ++ placed (i + size a) b
placed_append i [] b = let e : i + 0 ≡ i = omega arith in rw e refl
placed_append i (l ∷ a) b =
    ap (λ (w : List Token). token_of i l ++ w) (placed_append (i + length (bytes l)) a b)
    ∙ (sym (append_assoc (token_of i l) (placed (i + length (bytes l)) a) (placed (i + length (bytes l) + size a) b))
    ∙ ap (λ n. (token_of i l ++ placed (i + length (bytes l)) a) ++ placed n b) (size_append i l a))

-- whether the lexemes begin with what ends a word, where what follows them does by b
abbrev pub stops : List Lexeme → Bool → Bool
stops [] b = b
stops (Sign c ∷ ls) b = true
stops (Blank c ∷ ls) b = true
stops (l ∷ ls) b = false

abbrev pub Follows : Lexeme → List Lexeme → Bool → Type 0
Follows (Sign c) ls b = Unit {0}
Follows (Blank c) ls b = Unit {0}
Follows l ls b = stops ls b ≡ true

-- lexemes that may be written one after the other, before what ends a word where b holds
abbrev pub Fine : List Lexeme → Bool → Type 0
Fine [] b = Unit {0}
Fine (l ∷ ls) b = Valid l × Follows l ls b × Fine ls b

stops_append : (a b : List Lexeme) (x : Bool) → stops (a ++ b) x ≡ stops a (stops b x)
stops_append [] b x = refl
stops_append (Reserved u ∷ a) b x = refl
stops_append (TypeName n ∷ a) b x = refl
stops_append (LabelName n ∷ a) b x = refl
stops_append (DataName n ∷ a) b x = refl
stops_append (Register r ∷ a) b x = refl
stops_append (Number z ∷ a) b x = refl
stops_append (Digit n ∷ a) b x = refl
stops_append (Sign c ∷ a) b x = refl
stops_append (Blank c ∷ a) b x = refl

follows_append : (l : Lexeme) (a b : List Lexeme) (x : Bool) → Follows l a (stops b x) → Follows l (a ++ b) x
follows_append (Reserved u) a b x h = stops_append a b x ∙ h
follows_append (TypeName n) a b x h = stops_append a b x ∙ h
follows_append (LabelName n) a b x h = stops_append a b x ∙ h
follows_append (DataName n) a b x h = stops_append a b x ∙ h
follows_append (Register r) a b x h = stops_append a b x ∙ h
follows_append (Number z) a b x h = stops_append a b x ∙ h
follows_append (Digit n) a b x h = stops_append a b x ∙ h
follows_append (Sign c) a b x h = tt
follows_append (Blank c) a b x h = tt

pub fine_append : (a b : List Lexeme) (x : Bool) → Fine a (stops b x) → Fine b x → Fine (a ++ b) x
fine_append [] b x h k = k
fine_append (l ∷ a) b x h k = (h.0, follows_append l a b x h.1, fine_append a b x h.2 k)

-- what follows a lexeme, as bytes
space_stops : (c : ℕ) → space c ≡ true → of_word c ≡ false
space_stops c h = grind (arith, nat_tests)

stops_bytes : (ls : List Lexeme) → stops ls true ≡ true → Fine ls true → Stops (render ls)
stops_bytes [] e h = tt
stops_bytes (Sign c ∷ ls) e h = sign_stops c h.0
stops_bytes (Blank c ∷ ls) e h = space_stops c h.0
stops_bytes (l ∷ ls) e h = absurd (cc)

next_spelling : (s : List ℕ) (x : Kind) (n : ℕ) → item assembly s ≡ Spelling x n → Next assembly s (Spelling x n)
next_spelling [] x n e = absurd (cc)
next_spelling (b ∷ s) x n e = subst (Next assembly (b ∷ s)) e (some_next assembly assembly_signs b s)

next_gap : (s : List ℕ) (n : ℕ) → item assembly s ≡ Gap n → Next assembly s (Gap n)
next_gap [] n e = absurd (cc)
next_gap (b ∷ s) n e = subst (Next assembly (b ∷ s)) e (some_next assembly assembly_signs b s)

-- the bytes are cut into the tokens
module _ (i : ℕ) (l : Lexeme) (ls : List Lexeme) (v : Valid l) (w : List Token)
    (c : Cut assembly (i + length (bytes l)) (render ls) w) where
  cut_token : item assembly (bytes l ++ render ls) ≡ Spelling (kind_of l) (length (bytes l)) →
      Cut assembly i (bytes l ++ render ls) (tok (kind_of l) (place_of i l) ∷ w)
  cut_token e =
      c_token (next_spelling (bytes l ++ render ls) (kind_of l) (length (bytes l)) e) (lexeme_keeps l v)
      (rw (drop-append_seam (bytes l) (render ls)) c)

pub cut_placed : (i : ℕ) (ls : List Lexeme) → Fine ls true → Cut assembly i (render ls) (placed i ls)
cut_placed i [] h = c_end
cut_placed i (Blank b ∷ ls) h =
    c_gap (next_gap (b ∷ render ls) 1 (lexeme_item (Blank b) (render ls) h.0 tt)) (cut_placed (i + 1) ls h.2)
cut_placed i (Reserved u ∷ ls) h =
    cut_token i (Reserved u) ls h.0 _ (cut_placed (i + length u) ls h.2)
    (lexeme_item (Reserved u) (render ls) h.0 (stops_bytes ls h.1 h.2))
cut_placed i (TypeName n ∷ ls) h =
    cut_token i (TypeName n) ls h.0 _ (cut_placed _ ls h.2)
    (lexeme_item (TypeName n) (render ls) h.0 (stops_bytes ls h.1 h.2))
cut_placed i (LabelName n ∷ ls) h =
    cut_token i (LabelName n) ls h.0 _ (cut_placed _ ls h.2)
    (lexeme_item (LabelName n) (render ls) h.0 (stops_bytes ls h.1 h.2))
cut_placed i (DataName n ∷ ls) h =
    cut_token i (DataName n) ls h.0 _ (cut_placed _ ls h.2)
    (lexeme_item (DataName n) (render ls) h.0 (stops_bytes ls h.1 h.2))
cut_placed i (Register r ∷ ls) h =
    cut_token i (Register r) ls h.0 _ (cut_placed _ ls h.2)
    (lexeme_item (Register r) (render ls) h.0 (stops_bytes ls h.1 h.2))
cut_placed i (Number z ∷ ls) h =
    cut_token i (Number z) ls h.0 _ (cut_placed _ ls h.2)
    (lexeme_item (Number z) (render ls) h.0 (stops_bytes ls h.1 h.2))
cut_placed i (Digit n ∷ ls) h =
    cut_token i (Digit n) ls h.0 _ (cut_placed _ ls h.2)
    (lexeme_item (Digit n) (render ls) h.0 (stops_bytes ls h.1 h.2))
cut_placed i (Sign c ∷ ls) h =
    cut_token i (Sign c) ls h.0 _ (cut_placed _ ls h.2) (lexeme_item (Sign c) (render ls) h.0 tt)

-- each lexeme stands in the text, from the place i on
abbrev pub Written : List ℕ → ℕ → List Lexeme → Type 0
Written text i [] = Unit {0}
Written text i (l ∷ ls) = (slice_range text i (i + length (bytes l)) ≡ bytes l) × Written text (i + length (bytes l)) ls

pub written_append : (text : List ℕ) (i : ℕ) (a b : List Lexeme) → Written text i (a ++ b) →
    Written text i a × Written text (i + size a) b
written_append text i [] b h = let e : i + 0 ≡ i = omega arith in (tt, rw e h)
written_append text i (l ∷ a) b h =
    let p = written_append text (i + length (bytes l)) a b h.1 in
    ((h.0, p.0), subst (λ n. Written text n b) (size_append i l a) p.1)

-- what stands in the text at a place is written there
pub written_at : (text : List ℕ) (i : ℕ) (ls : List Lexeme) (r : List ℕ) → drop i text ≡ render ls ++ r →
    Written text i ls
written_at text i [] r e = tt
written_at text i (l ∷ ls) r e =
    let q : drop i text ≡ bytes l ++ (render ls ++ r) = e ∙ append_assoc (bytes l) (render ls) r in
    let m : i + length (bytes l) - i ≡ length (bytes l) = omega arith in
    let d : drop (i + length (bytes l)) text ≡ render ls ++ r = sym (drop-drop (length (bytes l)) i text)
    ∙ (ap (λ (s : List ℕ). drop (length (bytes l)) s) q ∙ drop-append_seam (bytes l) (render ls ++ r)) in
    (rw (m, q) (take-append_seam (bytes l) (render ls ++ r)), written_at text (i + length (bytes l)) ls r d)
