-- A text that is cut into tokens of which the first is the word `tal` begins with it.
use Rattle.std.proofs.Common.{◌≡◌, ◌+◌, ◌==◌, ℕ, List, [], ◌∷◌, ◌++◌, length, drop, take, Bool}
use Rattle.std.proofs.Common.{true}
use Rattle.std.proofs.Common.{false, refl, sym, ap, ◌∙◌, subst, arith, Option, Some, None, cond, codes}
use Rattle.std.specs.Prelude.{if◌then◌else◌, bytes_eq, not, ◌&&◌}
use Rattle.std.specs.List.{list_all, prefix_len}
use Rattle.std.proofs.lemmas.Bool.{and_parts, not-true}
use Rattle.std.proofs.lemmas.Slice.Eq.{bytes_eq-Decides}
use Rattle.text_core.specs.Byte.{of_line, of_word, value}
use Rattle.text_core.specs.Lexeme.{at_dashes}
use Rattle.text_core.specs.Tokens.{Cut, c_end, c_gap, c_token, EndsLine, Gap, IsGap, IsLongest, Item, Next}
use Rattle.text_core.specs.Tokens.{Spelling, Spells, g_comment, g_space, look, n_gap, n_nothing, n_spelling, s_negative}
use Rattle.text_core.specs.Tokens.{s_pair, s_plain, s_sign, s_word}
use Rattle.t_text.specs.declared.token.Kind.{Kind}
use Rattle.t_text.specs.declared.token.Kind.TheVariants as k
use Rattle.t_text.specs.declared.token.Token.{Token}
use Rattle.t_text.specs.Grammar.{Program, p_blocks, p_items}
use Rattle.t_text.specs.Raw.{RawItem}
use Rattle.t_text.specs.Tokens.{after_first, assembly, is_register, signs, word, word_in, words}
use Rattle.t_text.specs.Kind.{AssemblyBeginsSo, after_gaps, first_word}

true_false : true ≡ false → ⊥
true_false e = cc

-- a comment goes to the end of its line
comment_gone : (c r : List ℕ) → list_all of_line c ≡ true → EndsLine r → after_gaps true (c ++ r) ≡ after_gaps false r
comment_gone [] [] h e = refl
comment_gone [] (b ∷ r) h e = subst (λ x. after_gaps (of_line x) r ≡ after_gaps false (x ∷ r)) (sym e) refl
comment_gone (a ∷ c) r h e =
    let x = and_parts (of_line a) (list_all of_line c) h in
    ap (λ o. after_gaps o (c ++ r)) x.0 ∙ comment_gone c r x.1 e

gap_gone : (u r : List ℕ) → IsGap u r → after_gaps false (u ++ r) ≡ after_gaps false r
gap_gone _ r (g_space b h) =
    ap (λ o. if o then after_gaps false r else if at_dashes (b ∷ r) then after_gaps true r else b ∷ r) h
gap_gone _ r (g_comment {c} h e) = comment_gone c r h e

drop_front : (u r : List ℕ) → drop (length u) (u ++ r) ≡ r
drop_front [] r = refl
drop_front (b ∷ u) r = drop_front u r

-- which kinds the word is
abbrev is_tal : Kind → Bool
is_tal k.Tal = true
is_tal other = false

-- the kind of a word that is in no row of a table
not_in : (t : List (List ℕ × Kind)) (u : List ℕ) → list_all (λ e. not (is_tal e.1)) t ≡ true →
    is_tal (word_in t u) ≡ false
not_in [] u h = refl
not_in (e ∷ t) u h =
    let x = and_parts (not (is_tal e.1)) (list_all (λ d. not (is_tal d.1)) t) h in
    by_test (bytes_eq u e.0) (not-true (is_tal e.1) x.0) (not_in t u x.1)
  where
    by_test : (o : Bool) → is_tal e.1 ≡ false → is_tal (word_in t u) ≡ false →
        is_tal (if o then e.1 else word_in t u) ≡ false
    by_test true first rest = first
    by_test false first rest = rest

not_sign : (t : List (ℕ × Kind)) → list_all (λ e. not (is_tal e.1)) t ≡ true → (b : ℕ) (j : Kind) → look t b ≡ Some j →
    is_tal j ≡ false
not_sign [] h b j e = cc
not_sign (r ∷ t) h b j e =
    let x = and_parts (not (is_tal r.1)) (list_all (λ d. not (is_tal d.1)) t) h in
    by_test (b == r.0) (not-true (is_tal r.1) x.0) (λ q. not_sign t x.1 b j q) e
  where
    by_test : (o : Bool) → is_tal r.1 ≡ false → (look t b ≡ Some j → is_tal j ≡ false) →
        (if o then Some r.1 else look t b) ≡ Some j → is_tal j ≡ false
    by_test true first rest q = let same : r.1 ≡ j = cc in ap is_tal (sym same) ∙ first
    by_test false first rest q = rest q

abbrev tal : List ℕ
tal = codes "tal"

-- the other reserved words
abbrev others : List (List ℕ × Kind)
others = drop 1 words

no_tal : (j : Kind) → is_tal j ≡ false → j ≡ k.Tal → ⊥
no_tal j f e = true_false (sym (ap is_tal e) ∙ f)

tal_word : (u : List ℕ) → word u ≡ k.Tal → u ≡ tal
tal_word u e = go (is_register u) (bytes_eq u tal) refl e
  where
    go : (x y : Bool) → bytes_eq u tal ≡ y →
        (if x then k.Register (value (after_first u)) else if y then k.Tal else word_in others u) ≡ k.Tal → u ≡ tal
    go true y q f = absurd (no_tal _ refl f)
    go false true q f = (bytes_eq-Decides u tal).0 q
    go false false q f = absurd (no_tal _ (not_in others u refl) f)

spelled_tal : (u : List ℕ) (j : Kind) → Spells assembly u j → j ≡ k.Tal → u ≡ tal
spelled_tal _ _ (s_word b s l h) e = tal_word (b ∷ s) e
spelled_tal _ _ (s_plain b s h) e = absurd (no_tal _ refl e)
spelled_tal _ _ (s_negative b s h) e = absurd (no_tal _ refl e)
spelled_tal _ _ (s_sign b j q) e = absurd (no_tal j (not_sign signs refl b j q) e)
spelled_tal _ _ (s_pair b c j q) e = absurd (cc)

-- what follows the longest spelling is of no word
ends_there : (r : List ℕ) (j : Kind) → IsLongest assembly tal r j → prefix_len of_word r ≡ 0
ends_there [] j l = refl
ends_there (c ∷ q) j l = go (of_word c) refl
  where
    go : (x : Bool) → of_word c ≡ x → cond x (1 + prefix_len of_word q) 0 ≡ 0
    go false e = refl
    go true e =
        let all : list_all of_word (97 ∷ 108 ∷ c ∷ []) ≡ true = ap (λ o. o && true) e in
        let long = l.longest (116 ∷ 97 ∷ 108 ∷ c ∷ []) q _ refl (s_word 116 (97 ∷ 108 ∷ c ∷ []) refl all) in
        absurd (omega (arith, long))

word_there : (r : List ℕ) (j : Kind) → IsLongest assembly tal r j → first_word (after_gaps false (tal ++ r)) ≡ tal
word_there r j l = ap (λ m. take (1 + (1 + (1 + m))) (116 ∷ 97 ∷ 108 ∷ r)) (ends_there r j l)

next_tal : (s : List ℕ) (x : Item Kind) → Next assembly s x → (n : ℕ) → x ≡ Spelling k.Tal n →
    first_word (after_gaps false s) ≡ tal
next_tal _ _ (n_gap h) n e = absurd (cc)
next_tal _ _ (n_spelling {u} {r} {k = j} none l) n e =
    let kind : j ≡ k.Tal = cc in
    let is = spelled_tal u j l.spells kind in
    subst (λ v. first_word (after_gaps false (v ++ r)) ≡ tal) (sym is)
    (word_there r j (subst (λ v. IsLongest assembly v r j) is l))
next_tal s _ (n_nothing z m f) n e = absurd (cc)

next_gap : (s : List ℕ) (x : Item Kind) → Next assembly s x → (n : ℕ) → x ≡ Gap n →
    after_gaps false s ≡ after_gaps false (drop n s)
next_gap _ _ (n_gap {u} {r} h) n e =
    let long : length u ≡ n = cc in
    gap_gone u r h ∙ ap (after_gaps false) (sym (drop_front u r) ∙ ap (λ m. drop m (u ++ r)) long)
next_gap _ _ (n_spelling none l) n e = absurd (cc)
next_gap s _ (n_nothing z m f) n e = absurd (cc)

-- the kind of the first token
abbrev first_kind : List Token → Option Kind
first_kind [] = None
first_kind (t ∷ w) = Some t.kind

cut_tal : {i : ℕ} {s : List ℕ} {w : List Token} → Cut assembly i s w → first_kind w ≡ Some k.Tal →
    first_word (after_gaps false s) ≡ tal
cut_tal c_end e = absurd (cc)
cut_tal (c_gap {n} {s} h c) e = ap first_word (next_gap s (Gap n) h n refl) ∙ cut_tal c e
cut_tal (c_token {n} {k = j} {s} h q c) e =
    let kind : j ≡ k.Tal = cc in next_tal s (Spelling j n) h n (ap (λ z. Spelling z n) kind)

program_tal : {w : List Token} {raw : List RawItem} → Program w raw → first_kind w ≡ Some k.Tal
program_tal (p_blocks t n b) = refl
program_tal (p_items t n x h) = refl

pub begins_so : AssemblyBeginsSo
begins_so text P s = ap (λ v. bytes_eq v (codes "tal")) (cut_tal s.cut (program_tal s.shape))
