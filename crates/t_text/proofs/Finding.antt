-- What the code finds at a place of an assembly text.
use Rattle.std.proofs.Common.{◌≡◌, ◌≢◌, ◌≤◌, ◌<◌, ◌==◌, ◌&&◌, ℕ, pos, suc, ◌+◌, ◌-◌, neg_ℤ, Bool, true, false}
use Rattle.std.proofs.Common.{if◌then◌else◌, List, [], ◌∷◌, length, take, drop, get_or, Option, Some, None, refl, sym}
use Rattle.std.proofs.Common.{◌∙◌, ap, arith}
use Rattle.std.specs.Prelude.{nat_le, bytes_eq}
use Rattle.std.specs.List.{list_all, prefix_len}
use Rattle.std.proofs.lemmas.Bool.{leb-true, leb-false, eqb-true}
use Rattle.std.proofs.lemmas.Int.{ints}
use Rattle.std.proofs.lemmas.List.{drop-drop, length-drop}
use Rattle.std.proofs.lemmas.List.Sums.{prefix_len-le-length}
use Rattle.text_core.specs.Byte.{value, space, digit, letter, of_word, of_line}
use Rattle.text_core.specs.Tokens.{Spelling, look}
use Rattle.text_core.specs.Lexeme.{Piece, PGap, PWord, PPlain, PNegative, POther, piece, at_dashes, at_negative}
use Rattle.text_core.specs.Lexeme.{of_sign, of_piece, item, Within, IsValue, IsFound}
use Rattle.text_core.specs.declared.lexeme.Digits.{Digits}
use Rattle.text_core.specs.declared.lexeme.Found.TheVariants.{Skip, Read, Large}
use Rattle.text_core.proofs.Pieces.{word_found}
use Rattle.text_core.proofs.Runs.{here, run_all}
use Rattle.t_types.specs.WellFormed.{max_number}
use Rattle.t_text.specs.declared.token.Kind.{Kind}
use Rattle.t_text.specs.declared.token.Kind.TheVariants as k
use Rattle.t_text.specs.Tokens.{assembly, words, word_in, signs, is_register, after_first, Keeps}
use Rattle.t_text.specs.Scan.{plain_found, negative_found, register_found, word_at, goes_on, IsRegisterAt}
use Rattle.text_core.proofs.Characters.{no_dashes, digit_no_letter, digit_of_word}

-- a word keeps its bounds where each word of the table does
pub all_keep : List (List ℕ × Kind) → Type 0
all_keep [] = Unit {0}
all_keep (e ∷ t) = Keeps e.1 × all_keep t

keeps_in : (t : List (List ℕ × Kind)) → all_keep t → (u : List ℕ) → Keeps (word_in t u)
unfolding all_keep
keeps_in [] h u = tt
keeps_in (e ∷ t) h u = go (bytes_eq u e.0) (keeps_in t h.1 u)
  where
    go : (b : Bool) → Keeps (word_in t u) → Keeps (if b then e.1 else word_in t u)
    go true x = h.0
    go false x = x

words_keep : all_keep words
unfolding all_keep
words_keep = search

-- a sign keeps its bounds, and begins neither a gap nor a word nor a number
Lone : ℕ → Kind → Type 0
Lone b k =
    (space b ≡ false) × ((b == 45) ≡ false) × (letter b ≡ false) × (digit b ≡ false) × ((b == 126) ≡ false)
    × Keeps k

pub all_lone : List (ℕ × Kind) → Type 0
all_lone [] = Unit {0}
all_lone (e ∷ t) = Lone e.0 e.1 × all_lone t

look_lone : (t : List (ℕ × Kind)) → all_lone t → (b : ℕ) (k : Kind) → look t b ≡ Some k → Lone b k
unfolding all_lone
look_lone [] h b k e = absurd (cc)
look_lone (x ∷ t) h b k e = go (b == x.0) refl h.0 (look_lone t h.1 b k) e
  where
    go : (y : Bool) → (b == x.0) ≡ y → Lone x.0 x.1 → (look t b ≡ Some k → Lone b k) →
        (if y then Some x.1 else look t b) ≡ Some k → Lone b k
    go true p m f q = let r : x.1 ≡ k = cc in rw (eqb-true b x.0 p, ← r) m
    go false p m f q = f q

signs_lone : all_lone signs
unfolding all_lone Lone
signs_lone = search

lone_item : (b : ℕ) (s : List ℕ) (k : Kind) → Lone b k → look signs b ≡ Some k → item assembly (b ∷ s) ≡ Spelling k 1
unfolding Lone
lone_item b [] k h e =
    let p : piece (b ∷ []) ≡ POther = rw (h.0, h.2, h.3) refl in
    ap (λ (x : Piece). of_piece assembly (b ∷ []) x) p ∙ ap (λ (x : Option Kind). of_sign x) e
lone_item b (c ∷ s) k h e =
    let p : piece (b ∷ (c ∷ s)) ≡ POther = rw (h.0, h.1, h.2, h.3, h.4) refl in
    ap (λ (x : Piece). of_piece assembly (b ∷ (c ∷ s)) x) p ∙ ap (λ (x : Option Kind). of_sign x) e

lone_keeps : (b : ℕ) (k : Kind) → Lone b k → Keeps k
unfolding Lone
lone_keeps b k h = h.5

pub sign_is_found : (t : List ℕ) (at : ℕ) (k : Kind) → at < length t → look signs (get_or t at 0) ≡ Some k →
    IsFound assembly t at (Read k (at + 1))
sign_is_found t at k l e =
    let h = look_lone signs signs_lone (get_or t at 0) k e in
    let one : at + 1 - at ≡ 1 = omega arith in (
      record { forward = omega arith; in_range = omega arith },
      rw (one, here t at l) (lone_item (get_or t at 0) (drop (at + 1) t) k h e),
      lone_keeps (get_or t at 0) k h,
    )

-- white space, a word and a number, by their first bytes

apart : (p : ℕ → Bool) (b n : ℕ) → p b ≡ true → p n ≡ false → (b == n) ≡ false
apart p b n e f = go (b == n) refl
  where
    go : (x : Bool) → (b == n) ≡ x → x ≡ false
    go true q = let r : b ≡ n = eqb-true b n q in absurd (cc)
    go false q = refl

no_space : (p : ℕ → Bool) (b : ℕ) → p b ≡ true → p 32 ≡ false → p 9 ≡ false → p 10 ≡ false → p 13 ≡ false →
    space b ≡ false
no_space p b e f g h i = rw (apart p b 32 e f, apart p b 9 e g, apart p b 10 e h, apart p b 13 e i) refl

module _ (t : List ℕ) (at : ℕ) (l : at < length t) where
  pub space_is_found : space (get_or t at 0) ≡ true → IsFound assembly t at (Skip (at + 1))
  space_is_found e =
      let s = drop (at + 1) t in
      let one : at + 1 - at ≡ 1 = omega arith in
      let p : piece (get_or t at 0 ∷ s) ≡ PGap 1 = rw e refl in (
        record { forward = omega arith; in_range = omega arith },
        rw (one, here t at l) (ap (λ (x : Piece). of_piece assembly (get_or t at 0 ∷ s) x) p),
      )

  pub letter_found : letter (get_or t at 0) ≡ true → (end : ℕ) →
      end ≡ at + 1 + prefix_len of_word (drop (at + 1) t) → Within t at end × (piece (drop at t) ≡ PWord (end - at))
  letter_found r end e =
      let b = get_or t at 0 in
      let d = no_dashes b (drop (at + 1) t) (apart letter b 45 r refl) in
      word_found t at l end e (no_space letter b r refl refl refl refl)
      (ap (λ (s : List ℕ). at_dashes s) (here t at l) ∙ d) r

  pub digit_found : digit (get_or t at 0) ≡ true → (d : Digits) → d.end ≡ at + prefix_len digit (drop at t) →
      IsValue d.value d.fits (take (prefix_len digit (drop at t)) (drop at t)) →
      Within t at d.end × (piece (drop at t) ≡ PPlain (d.end - at))
      × IsValue d.value d.fits (take (d.end - at) (drop at t))
  digit_found r d e v =
      let b = get_or t at 0 in
      let s = drop (at + 1) t in
      let z : d.end - at ≡ prefix_len digit (drop at t) = omega (arith, e) in
      let a = prefix_len-le-length digit (drop at t) in
      let m = length-drop at t in
      let q : prefix_len digit (b ∷ s) ≡ 1 + prefix_len digit s = rw r refl in
      let n : prefix_len digit (drop at t) ≡ 1 + prefix_len digit s = rw (here t at l) q in
      let p : piece (b ∷ s) ≡ PPlain (1 + prefix_len digit s) =
      rw (no_space digit b r refl refl refl refl, no_dashes b s (apart digit b 45 r refl), digit_no_letter b r, r)
      refl in (
        record { forward = omega (arith, e, n); in_range = omega (arith, e, a, m) },
        rw (z, n, here t at l) p,
        rw z v,
      )

-- registers

-- the word ends where its digits do
ends_with_digits : (s : List ℕ) → goes_on (drop (prefix_len digit s) s) ≡ false →
    prefix_len of_word s ≡ prefix_len digit s
ends_with_digits [] h = refl
ends_with_digits (b ∷ s) h = go (digit b) refl (ends_with_digits s) h
  where
    go : (x : Bool) → digit b ≡ x →
        (goes_on (drop (prefix_len digit s) s) ≡ false → prefix_len of_word s ≡ prefix_len digit s) →
        goes_on (drop (if x then 1 + prefix_len digit s else 0) (b ∷ s)) ≡ false →
        prefix_len of_word (b ∷ s) ≡ (if x then 1 + prefix_len digit s else 0)
    go true e f h =
        let z : 1 + prefix_len digit s ≡ suc (prefix_len digit s) = omega arith in
        rw (digit_of_word b e, f (rw z at h)) refl
    go false e f h = rw h refl

-- the word goes on after its digits
goes_past_digits : (s : List ℕ) → goes_on (drop (prefix_len digit s) s) ≡ true →
    list_all digit (take (prefix_len of_word s) s) ≡ false
goes_past_digits [] h = absurd (cc)
goes_past_digits (b ∷ s) h = go (digit b) refl (goes_past_digits s) h
  where
    z : 1 + prefix_len of_word s ≡ suc (prefix_len of_word s)
    z = omega arith

    go : (x : Bool) → digit b ≡ x →
        (goes_on (drop (prefix_len digit s) s) ≡ true → list_all digit (take (prefix_len of_word s) s) ≡ false) →
        goes_on (drop (if x then 1 + prefix_len digit s else 0) (b ∷ s)) ≡ true →
        list_all digit (take (prefix_len of_word (b ∷ s)) (b ∷ s)) ≡ false
    go true e f h =
        let y : 1 + prefix_len digit s ≡ suc (prefix_len digit s) = omega arith in
        rw (digit_of_word b e, z, e) (f (rw y at h))
    go false e f h = rw (h, z, e) refl

not_digits : (b : ℕ) (w : List ℕ) → list_all digit w ≡ false → is_register (b ∷ w) ≡ false
not_digits b [] e = absurd (cc)
not_digits b (c ∷ w) e = rw e (go (b == 114))
  where
    go : (x : Bool) → (x && false) ≡ false
    go true = refl
    go false = refl

all_digits : (s : List ℕ) → prefix_len digit s ≢ 0 → is_register (114 ∷ take (prefix_len digit s) s) ≡ true
all_digits [] n = absurd (n refl)
all_digits (c ∷ s) n = go (digit c) refl n
  where
    go : (x : Bool) → digit c ≡ x → (if x then 1 + prefix_len digit s else 0) ≢ 0 →
        is_register (114 ∷ take (if x then 1 + prefix_len digit s else 0) (c ∷ s)) ≡ true
    go true e m =
        let z : 1 + prefix_len digit s ≡ suc (prefix_len digit s) = omega arith in rw (z, e, run_all digit s) refl
    go false e m = absurd (m refl)

piece_of_r : (s : List ℕ) → piece (114 ∷ s) ≡ PWord (1 + prefix_len of_word s)
piece_of_r [] = refl
piece_of_r (c ∷ s) = refl

-- the length of a word
word_length : (b : ℕ) (s : List ℕ) (n : ℕ) → piece (b ∷ s) ≡ PWord n → n ≡ 1 + prefix_len of_word s
word_length b s n e = go (space b) (at_dashes (b ∷ s)) (letter b) (digit b) (at_negative (b ∷ s)) e
  where
    go : (x y z u v : Bool) →
        (if x then PGap 1
        else if y then PGap (2 + prefix_len of_line (drop 1 s))
        else if z then PWord (1 + prefix_len of_word s)
        else if u then PPlain (1 + prefix_len digit s)
        else if v then PNegative (1 + prefix_len digit s)
        else POther) ≡ PWord n → n ≡ 1 + prefix_len of_word s
    go true y z u v q = absurd (cc)
    go false true z u v q = absurd (cc)
    go false false true u v q = cc
    go false false false true v q = absurd (cc)
    go false false false false true q = absurd (cc)
    go false false false false false q = absurd (cc)

module _ (t : List ℕ) (at : ℕ) (l : at < length t) where
  -- the digits after the first byte
  module _ (d : Digits) (e : d.end ≡ at + 1 + prefix_len digit (drop (at + 1) t)) where
    rest : drop d.end t ≡ drop (prefix_len digit (drop (at + 1) t)) (drop (at + 1) t)
    rest = rw e (sym (drop-drop (prefix_len digit (drop (at + 1) t)) (at + 1) t))

    pub word_goes_on : goes_on (drop d.end t) ≡ true → IsRegisterAt t at None
    word_goes_on g =
        let s = drop (at + 1) t in
        let h = goes_past_digits s (ap (λ (x : List ℕ). goes_on x) (sym rest) ∙ g) in
        rw (here t at l) (not_digits (get_or t at 0) (take (prefix_len of_word s) s) h)

    same_length : goes_on (drop d.end t) ≡ false →
        prefix_len of_word (drop (at + 1) t) ≡ prefix_len digit (drop (at + 1) t)
    same_length g = ends_with_digits (drop (at + 1) t) (ap (λ (s : List ℕ). goes_on s) (sym rest) ∙ g)

    pub register_stands : get_or t at 0 ≡ 114 → goes_on (drop d.end t) ≡ false → d.end ≢ at + 1 →
        IsValue d.value d.fits (take (prefix_len digit (drop (at + 1) t)) (drop (at + 1) t)) →
        IsRegisterAt t at (Some d)
    register_stands r g n v =
        let m = same_length g in
        let z : d.end - at ≡ suc (prefix_len digit (drop (at + 1) t)) = omega arith in
        let some : prefix_len digit (drop (at + 1) t) ≢ 0 = λ x. n (omega (arith, e, x)) in
        let a = prefix_len-le-length digit (drop (at + 1) t) in
        let b = length-drop (at + 1) t in (
          record { forward = omega arith; in_range = omega arith },
          rw (here t at l, r) (piece_of_r (drop (at + 1) t) ∙ ap (λ (n : ℕ). PWord n) (omega (arith, m, z))),
          rw (z, here t at l, r) (all_digits (drop (at + 1) t) some),
          rw (z, here t at l) v,
        )

pub register_is_found : (t : List ℕ) (at : ℕ) (d : Digits) → IsRegisterAt t at (Some d) →
    IsFound assembly t at (register_found d)
register_is_found t at d (w, p, r, v) = go d.fits refl (nat_le 1 d.value) refl (nat_le d.value max_number) refl
  where
    u : List ℕ
    u = take (d.end - at) (drop at t)

    is : item assembly (drop at t) ≡ Spelling (k.Register (value (after_first u))) (d.end - at)
    is = ap (λ (x : Piece). of_piece assembly (drop at t) x) p ∙ rw r refl

    by_fit : (d.fits ≡ true → ¬ ((1 ≤ d.value) × (d.value ≤ max_number))) → (f : Bool) → d.fits ≡ f →
        ¬ Keeps (k.Register (value (after_first u)))
    by_fit x true q = let s = (v.small q).0 in rw (← s) (x q)
    by_fit x false q = let s = v.large q in λ y. omega (arith, y.1)

    large : (d.fits ≡ true → ¬ ((1 ≤ d.value) × (d.value ≤ max_number))) → IsFound assembly t at (Large d.end)
    large x = (w, (k.Register (value (after_first u)), is, by_fit x d.fits refl))

    go : (f : Bool) → d.fits ≡ f → (a : Bool) → nat_le 1 d.value ≡ a → (b : Bool) → nat_le d.value max_number ≡ b →
        IsFound assembly t at (register_found d)
    go true e true p true q =
        let s = (v.small e).0 in
        rw (e, p, q) (w, rw s is, (leb-true 1 d.value p, leb-true d.value max_number q))
    go true e true p false q =
        let m = leb-false d.value max_number q in rw (e, p, q) (large (λ x y. omega (arith, y.1)))
    go true e false p b q = let m = leb-false 1 d.value p in rw (e, p) (large (λ x y. omega (arith, y.0)))
    go false e a p b q = rw e (large (λ x y. absurd (cc)))

-- a word that is no register
pub word_is_found : (t : List ℕ) (at end : ℕ) (x : Kind) → at < length t → is_register (word_at (drop at t)) ≡ false →
    Within t at end → piece (drop at t) ≡ PWord (end - at) →
    x ≡ word_in words (take (end - at) (drop at t)) → IsFound assembly t at (Read x end)
word_is_found t at end x l r w p e =
    let s = drop (at + 1) t in
    let n : end - at ≡ suc (prefix_len of_word s) =
    omega (arith, word_length (get_or t at 0) s (end - at) (ap (λ (y : List ℕ). piece y) (sym (here t at l)) ∙ p)) in
    let same : take (end - at) (drop at t) ≡ word_at (drop at t) = rw (n, here t at l) refl in
    let f : is_register (take (end - at) (drop at t)) ≡ false = ap (λ (y : List ℕ). is_register y) same ∙ r in
    rw e (
      w,
      ap (λ (y : Piece). of_piece assembly (drop at t) y) p ∙ rw f refl,
      keeps_in words words_keep (take (end - at) (drop at t)),
    )

pub plain_is_found : (t : List ℕ) (at : ℕ) (d : Digits) → Within t at d.end → piece (drop at t) ≡ PPlain (d.end - at) →
    IsValue d.value d.fits (take (d.end - at) (drop at t)) →
    IsFound assembly t at (plain_found d)
plain_is_found t at d w p v = go d.fits refl (nat_le d.value max_number) refl
  where
    u : List ℕ
    u = take (d.end - at) (drop at t)

    is : item assembly (drop at t) ≡ Spelling (k.Plain (pos (value u))) (d.end - at)
    is = ap (λ (x : Piece). of_piece assembly (drop at t) x) p

    go : (f : Bool) → d.fits ≡ f → (l : Bool) → nat_le d.value max_number ≡ l → IsFound assembly t at (plain_found d)
    go true e true q =
        let s = (v.small e).0 in
        let m = leb-true d.value max_number q in rw (e, q) (w, rw s is, omega (arith, ints))
    go true e false q =
        let s = (v.small e).0 in
        let m = leb-false d.value max_number q in
        rw (e, q) (w, (k.Plain (pos (value u)), is, λ x. omega (arith, ints)))
    go false e l q = let s = v.large e in rw e (w, (k.Plain (pos (value u)), is, λ x. omega (arith, ints)))

pub negative_is_found : (t : List ℕ) (at : ℕ) (d : Digits) → Within t at d.end →
    piece (drop at t) ≡ PNegative (d.end - at) → IsValue d.value d.fits (drop 1 (take (d.end - at) (drop at t))) →
    IsFound assembly t at (negative_found d)
negative_is_found t at d w p v = go d.fits refl
  where
    u : List ℕ
    u = drop 1 (take (d.end - at) (drop at t))

    is : item assembly (drop at t) ≡ Spelling (k.Negative (neg_ℤ (pos (value u)))) (d.end - at)
    is = ap (λ (x : Piece). of_piece assembly (drop at t) x) p

    go : (f : Bool) → d.fits ≡ f → IsFound assembly t at (negative_found d)
    go true e = let s = (v.small e).0 in let m = (v.small e).1 in rw e (w, rw s is, omega (arith, ints))
    go false e = let s = v.large e in rw e (w, (k.Negative (neg_ℤ (pos (value u))), is, λ x. omega (arith, ints)))
