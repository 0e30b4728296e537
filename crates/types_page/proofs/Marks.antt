-- Lines of bytes, and the tokens from a byte on.
use Rattle.std.proofs.Common.{◌≡◌, ◌<◌, ◌≤◌, ℕ, zero, suc, ◌+◌, List, [], ◌∷◌, ◌++◌, length}
use Rattle.std.proofs.Common.{take, drop, get_or, refl, sym}
use Rattle.std.proofs.Common.{ap, ◌∙◌, arith, nat_lt, true, false, if◌then◌else◌, Bool}
use Rattle.std.proofs.lemmas.Bool.Decides.{nat_tests}
use Rattle.std.proofs.lemmas.List.{take_more, drop_more, drop_all, length-take}
use Rattle.std.proofs.lemmas.List.Sums.{count_by_more_yes, count_by_more_no}
use Rattle.page_core.specs.Spot.{last_begin, ends_line}
use Rattle.f_lexer.specs.declared.token.Token.{Token}
use Rattle.types_page.specs.Page.{bytes_of, from_byte, word}
use Rattle.types_page.specs.Writing.{Counted}

-- ---- lines

-- where the last line begins after one byte more
begin_more : (begin i : ℕ) (xs : List ℕ) (b : ℕ) → last_begin begin i (xs ++ b ∷ [])
    ≡ (if ends_line b then i + length xs + 1 else last_begin begin i xs)
begin_more begin i [] b = ap (λ n. if ends_line b then n + 1 else begin) (omega arith)
begin_more begin i (x ∷ xs) b =
    begin_more (if ends_line x then i + 1 else begin) (i + 1) xs b
    ∙ ap (λ n. if ends_line b then n + 1 else last_begin (if ends_line x then i + 1 else begin) (i + 1) xs)
    (omega arith)

module _ (text : List ℕ) (i number begin : ℕ) (lt : i < length text) (c : Counted text i number begin) where
  begins : (e : Bool) → ends_line (get_or text i 0) ≡ e →
      last_begin 0 0 (take (i + 1) text) ≡ (if e then i + 1 else begin)
  begins e is =
      let long : 0 + length (take i text) + 1 ≡ i + 1 = omega (arith, length-take i text, lt) in
      ap (last_begin 0 0) (take_more text i 0 lt) ∙ begin_more 0 0 (take i text) (get_or text i 0)
      ∙ ap (λ (b : Bool). if b then 0 + length (take i text) + 1 else last_begin 0 0 (take i text)) is
      ∙ ap (λ (n : ℕ). if e then n else last_begin 0 0 (take i text)) long
      ∙ ap (λ (n : ℕ). if e then i + 1 else n) (sym c.begins)

  by_case : (e : Bool) → ends_line (get_or text i 0) ≡ e → (n b : ℕ) → n ≡ (if e then number + 1 else number) →
      b ≡ (if e then i + 1 else begin) → Counted text (i + 1) n b
  by_case true is n b counts starts = record {
    counted = let c = c.counted in omega (arith, counts, count_by_more_yes ends_line text i 0 lt is);
    begins = starts ∙ sym (begins true is);
    least = let l = c.least in omega (arith, counts);
    bound = omega (arith, starts);
  }
  by_case false is n b counts starts = record {
    counted = let c = c.counted in omega (arith, counts, count_by_more_no ends_line text i 0 lt is);
    begins = starts ∙ sym (begins false is);
    least = let l = c.least in omega (arith, counts);
    bound = let l = c.bound in omega (arith, starts);
  }

-- the line behind one byte more
pub counted_more : (text : List ℕ) (i number begin n b : ℕ) → i < length text → Counted text i number begin →
    n ≡ (if ends_line (get_or text i 0) then number + 1 else number) →
    b ≡ (if ends_line (get_or text i 0) then i + 1 else begin) → Counted text (i + 1) n b
counted_more text i number begin n b lt c counts starts =
    by_case text i number begin lt c (ends_line (get_or text i 0)) refl n b counts starts

-- ---- tokens

-- one that begins before the byte is passed, and one that does not is the first
pub pass_token : (byte : ℕ) (ts : List Token) (i : ℕ) (t : Token) → i < length ts → t ≡ get_or ts i t →
    t.span.start < byte → from_byte byte (drop i ts) ≡ from_byte byte (drop (i + 1) ts)
pass_token byte ts i t lt is before =
    let test : nat_lt t.span.start byte ≡ true = grind (arith, nat_tests) in
    ap (from_byte byte) (drop_more ts i t lt)
    ∙ ap (λ (u : Token). from_byte byte (u ∷ drop (i + 1) ts)) (sym is)
    ∙ ap (λ (b : Bool). if b then from_byte byte (drop (i + 1) ts) else t ∷ drop (i + 1) ts) test

pub stop_token : (byte : ℕ) (ts : List Token) (i : ℕ) (t : Token) → i < length ts → t ≡ get_or ts i t →
    byte ≤ t.span.start → from_byte byte (drop i ts) ≡ drop i ts
stop_token byte ts i t lt is behind =
    let test : nat_lt t.span.start byte ≡ false = grind (arith, nat_tests) in
    ap (from_byte byte) (drop_more ts i t lt)
    ∙ ap (λ (u : Token). from_byte byte (u ∷ drop (i + 1) ts)) (sym is)
    ∙ ap (λ (b : Bool). if b then from_byte byte (drop (i + 1) ts) else t ∷ drop (i + 1) ts) test
    ∙ ap (λ (u : Token). u ∷ drop (i + 1) ts) is
    ∙ sym (drop_more ts i t lt)

pub no_token : (byte : ℕ) (ts : List Token) (i : ℕ) → length ts ≤ i → from_byte byte (drop i ts) ≡ drop i ts
no_token byte ts i le = ap (from_byte byte) (drop_all i ts le) ∙ sym (drop_all i ts le)

-- what becomes of each token
pub ruleset token_facts = (pass_token, stop_token, no_token)

-- from the first byte on: all
pub from_start : (ts : List Token) → from_byte 0 ts ≡ ts
from_start [] = refl
from_start (t ∷ ts) =
    let test : nat_lt t.span.start 0 ≡ false = grind (arith, nat_tests) in
    ap (λ (b : Bool). if b then from_byte 0 ts else t ∷ ts) test

-- those from a later byte on are among those from an earlier one on
later : (byte old : ℕ) (t : Token) (ts : List Token) → old ≤ byte →
    from_byte byte (from_byte old ts) ≡ from_byte byte ts → (e : Bool) → nat_lt t.span.start old ≡ e →
    from_byte byte (if e then from_byte old ts else t ∷ ts) ≡ from_byte byte (t ∷ ts)
later byte old t ts le more false is = refl
later byte old t ts le more true is =
    let test : nat_lt t.span.start byte ≡ true = grind (arith, nat_tests) in
    more ∙ sym (ap (λ (b : Bool). if b then from_byte byte ts else t ∷ ts) test)

pub from_later : (byte old : ℕ) (ts : List Token) → old ≤ byte →
    from_byte byte (from_byte old ts) ≡ from_byte byte ts
from_later byte old [] le = refl
from_later byte old (t ∷ ts) le =
    later byte old t ts le (from_later byte old ts le) (nat_lt t.span.start old) refl

-- token k, where there is one
pub word_at : (text : List ℕ) (ts : List Token) (k : ℕ) (d : Token) → k < length ts →
    word text ts k ≡ bytes_of text (get_or ts k d).span
word_at text [] k d lt = absurd (omega (arith, lt))
word_at text (t ∷ ts) zero d lt = refl
word_at text (t ∷ ts) (suc k) d lt = word_at text ts k d (omega (arith, lt))

pub no_word : (text : List ℕ) (ts : List Token) (k : ℕ) → length ts ≤ k → word text ts k ≡ []
no_word text [] k le = refl
no_word text (t ∷ ts) zero le = absurd (omega (arith, le))
no_word text (t ∷ ts) (suc k) le = no_word text ts k (omega (arith, le))
