-- The first bytes decide what stands next: something does wherever a text is not at its end, and one thing at most.
use Rattle.std.proofs.Common.{◌≡◌, ◌≤◌, ◌==◌, ℕ, suc, ◌+◌, List, [], ◌∷◌, ◌++◌, length, take, drop, Bool, true, false}
use Rattle.std.proofs.Common.{if◌then◌else◌, not, ◌||◌, refl, sym, ◌∙◌, ap, subst, arith, Option, Some, None}
use Rattle.std.specs.List.{prefix_len, take_while, list_all}
use Rattle.std.proofs.lemmas.Bool.{eqb-true, and_parts, or_parts, not-true}
use Rattle.std.proofs.lemmas.List.{take-append-drop, length-take-le}
use Rattle.std.proofs.lemmas.List.Sums.{prefix_len-le-length, take_while-cons}
use Rattle.text_core.specs.Byte.{space, digit, letter, of_word, of_line, mark, value}
use Rattle.text_core.specs.Tokens.{Tokens, Spells, s_word, s_plain, s_negative, s_sign, s_pair, EndsLine, IsGap}
use Rattle.text_core.specs.Tokens.{g_space, g_comment, NoGap, IsLongest, Item, Gap, Spelling, Next, n_gap, n_spelling}
use Rattle.text_core.specs.Tokens.{n_nothing, HasSigns}
use Rattle.text_core.specs.Lexeme.{PGap, PWord, PPlain, PNegative, POther, at_dashes, at_negative, sign_item, of_sign}
use Rattle.text_core.specs.Lexeme.{of_pair, of_piece, item}
use Rattle.text_core.proofs.Runs.{run_all, run_longest}
use Rattle.text_core.proofs.Characters.{digit_no_letter as digit_letter}

-- kinds of bytes

pub record IsMark (b : ℕ) : Type 0 where
  no_letter : letter b ≡ false
  no_digit : digit b ≡ false
  no_tilde : (b == 126) ≡ false

pub marked : (b : ℕ) → mark b ≡ true → IsMark b
marked b e =
    let x = or_parts (letter b || digit b) (b == 126) (not-true (letter b || digit b || b == 126) e) in
    let y = or_parts (letter b) (digit b) x.0 in
    record { no_letter = y.0; no_digit = y.1; no_tilde = x.1 }

-- gaps

ends_line : (s : List ℕ) → EndsLine (drop (prefix_len of_line s) s)
ends_line [] = tt
ends_line (b ∷ s) = go (b == 10) refl (ends_line s)
  where
    go : (x : Bool) → (b == 10) ≡ x → EndsLine (drop (prefix_len of_line s) s) →
        EndsLine (drop (if not x then 1 + prefix_len of_line s else 0) (b ∷ s))
    go true e h = eqb-true b 10 e
    go false e h = let z : 1 + prefix_len of_line s ≡ suc (prefix_len of_line s) = omega arith in rw z h

same_comment : (c r d q : List ℕ) → c ++ r ≡ d ++ q → list_all of_line c ≡ true → EndsLine r →
    list_all of_line d ≡ true → EndsLine q → length c ≡ length d
same_comment [] r [] q e f g h i = refl
same_comment [] [] (b ∷ d) q e f g h i = absurd (cc)
same_comment [] (a ∷ r) (b ∷ d) q e f g h i =
    let x : b ≡ 10 = cc in
    let y = (and_parts (of_line b) (list_all of_line d) h).0 in
    let z : of_line b ≡ false = rw x refl in absurd (cc)
same_comment (a ∷ c) r [] [] e f g h i = absurd (cc)
same_comment (a ∷ c) r [] (b ∷ q) e f g h i =
    let x : a ≡ 10 = cc in
    let y = (and_parts (of_line a) (list_all of_line c) f).0 in
    let z : of_line a ≡ false = rw x refl in absurd (cc)
same_comment (a ∷ c) r (b ∷ d) q e f g h i =
    let y : c ++ r ≡ d ++ q = cc in
    ap (λ (n : ℕ). suc n)
    (same_comment c r d q y (and_parts (of_line a) (list_all of_line c) f).1 g
    (and_parts (of_line b) (list_all of_line d) h).1 i)

-- two gaps at one place have one length
same_gap : (g r d q : List ℕ) → g ++ r ≡ d ++ q → IsGap g r → IsGap d q → length g ≡ length d
same_gap _ r _ q e (g_space b h) (g_space c k) = refl
same_gap _ r _ q e (g_space b h) (g_comment f l) =
    let x : b ≡ 45 = cc in let y : space b ≡ false = rw x refl in absurd (cc)
same_gap _ r _ q e (g_comment f l) (g_space b h) =
    let x : b ≡ 45 = cc in let y : space b ≡ false = rw x refl in absurd (cc)
same_gap _ r _ q e (g_comment {c} f l) (g_comment {c = d} k m) =
    let x : c ++ r ≡ d ++ q = cc in ap (λ (n : ℕ). suc (suc n)) (same_comment c r d q x f l k m)

at_comment : (c r : List ℕ) → at_dashes ((45 ∷ (45 ∷ c)) ++ r) ≡ true
at_comment c r = refl

no_gap : (b : ℕ) (s : List ℕ) → space b ≡ false → at_dashes (b ∷ s) ≡ false → NoGap (b ∷ s)
no_gap b s e f _ r q (g_space c h) = let x : b ≡ c = cc in let y : space c ≡ false = rw (← x) e in absurd (cc)
no_gap b s e f _ r q (g_comment {c} h l) =
    let x : at_dashes (b ∷ s) ≡ true = ap (λ (w : List ℕ). at_dashes w) q ∙ at_comment c r in absurd (cc)

same_length : (u r v q : List ℕ) → u ++ r ≡ v ++ q → length u ≡ length v → u ≡ v
same_length [] r [] q e l = refl
same_length [] r (b ∷ v) q e l = absurd (omega arith)
same_length (a ∷ u) r [] q e l = absurd (omega arith)
same_length (a ∷ u) r (b ∷ v) q e l =
    let x : a ≡ b = cc in
    let y : u ++ r ≡ v ++ q = cc in
    let z = same_length u r v q y (omega arith) in cc

module _ (g : Tokens) (signs : HasSigns g) where
  -- a spelling is of one kind
  by_sign : ℕ → List ℕ → Option g.Kind
  by_sign b [] = g.sign b
  by_sign b (c ∷ []) = g.pair b c
  by_sign b (c ∷ (d ∷ s)) = None

  kind_of : List ℕ → Option g.Kind
  kind_of [] = None
  kind_of (b ∷ s) =
      if letter b then Some (g.word (b ∷ s)) else if digit b then Some (g.plain (value (b ∷ s)))
      else if b == 126 then Some (g.negative (value s)) else by_sign b s

  spelled : (u : List ℕ) (k : g.Kind) → Spells g u k → kind_of u ≡ Some k
  unfolding kind_of by_sign
  spelled _ _ (s_word b s l h) = rw l refl
  spelled _ _ (s_plain b s h) = let d = (and_parts (digit b) (list_all digit s) h).0 in rw (digit_letter b d, d) refl
  spelled _ _ (s_negative b s h) = refl
  spelled _ _ (s_sign b k e) = let m = marked b (signs.of_sign b k e) in rw (m.no_letter, m.no_digit, m.no_tilde) e
  spelled _ _ (s_pair b c k e) = let m = marked b (signs.of_pair b c k e) in rw (m.no_letter, m.no_digit, m.no_tilde) e

  one_kind : (u : List ℕ) (k j : g.Kind) → Spells g u k → Spells g u j → k ≡ j
  one_kind u k j x y = let p = spelled u k x in let q = spelled u j y in cc

  gap_same : (s u r : List ℕ) (x : Item g.Kind) → s ≡ u ++ r → IsGap u r → Next g s x → Gap (length u) ≡ x
  gap_same s u r _ e h (n_gap {u = d} {r = q} k) = ap (λ (n : ℕ). Gap n) (same_gap u r d q (sym e) h k)
  gap_same s u r _ e h (n_spelling n l) = absurd (n u r e h)
  gap_same s u r _ e h (n_nothing z n f) = absurd (n u r e h)

  spelled_same : (s u r : List ℕ) (k : g.Kind) (x : Item g.Kind) → s ≡ u ++ r → NoGap s → IsLongest g u r k →
      Next g s x → Spelling k (length u) ≡ x
  spelled_same s u r k _ e n l (n_gap {u = d} {r = q} h) = absurd (n d q refl h)
  spelled_same s u r k _ e n l (n_spelling {u = v} {r = q} {k = j} m h) =
      let a = l.longest v q j (sym e) h.spells in
      let b = h.longest u r k e l.spells in
      let c : length u ≡ length v = omega arith in
      let d = same_length u r v q (sym e) c in
      let y : Spells g u j = subst (λ (w : List ℕ). Spells g w j) (sym d) h.spells in
      let z = one_kind u k j l.spells y in cc
  spelled_same s u r k _ e n l (n_nothing z m f) = absurd (f u r k e l.spells)

  pub one_next : (s : List ℕ) (x y : Item g.Kind) → Next g s x → Next g s y → x ≡ y
  one_next s _ y (n_gap {u} {r} h) k = gap_same (u ++ r) u r y refl h k
  one_next s _ y (n_spelling {u} {r} {k = j} n l) k = spelled_same (u ++ r) u r j y refl n l k
  one_next s _ _ (n_nothing z n f) (n_gap {u} {r} h) = absurd (n u r refl h)
  one_next s _ _ (n_nothing z n f) (n_spelling {u} {r} {k = j} m l) = absurd (f u r j refl l.spells)
  one_next s _ _ (n_nothing z n f) (n_nothing a m o) = refl

  -- something stands next wherever the text is not at its end

  gap_next : (s : List ℕ) (n : ℕ) → n ≤ length s → IsGap (take n s) (drop n s) → Next g s (Gap n)
  gap_next s n l h =
      subst (λ (w : List ℕ). Next g w (Gap n)) (take-append-drop n s)
      (subst (λ (m : ℕ). Next g (take n s ++ drop n s) (Gap m)) (length-take-le n s l) (n_gap h))

  spelling_next : (s : List ℕ) (n : ℕ) (k : g.Kind) → n ≤ length s → NoGap s → Spells g (take n s) k →
      ((v q : List ℕ) (j : g.Kind) → s ≡ v ++ q → Spells g v j → length v ≤ n) → Next g s (Spelling k n)
  spelling_next s n k l empty h f =
      let e = take-append-drop n s in
      let m = length-take-le n s l in
      let long : IsLongest g (take n s) (drop n s) k =
      record { spells = h; longest = λ v q j d x. let y = f v q j (sym e ∙ d) x in omega arith } in
      subst (λ (w : List ℕ). Next g w (Spelling k n)) e
      (subst (λ (m : ℕ). Next g (take n s ++ drop n s) (Spelling k m)) m
      (n_spelling (subst (λ (w : List ℕ). NoGap w) (sym e) empty) long))

  module _ (b : ℕ) (s : List ℕ) where
    word_longest : letter b ≡ true → (v q : List ℕ) (j : g.Kind) → b ∷ s ≡ v ++ q → Spells g v j →
        length v ≤ 1 + prefix_len of_word s
    word_longest l _ q _ e (s_word c v h i) =
        let x : s ≡ v ++ q = cc in let y = run_longest of_word v q i in rw x (omega arith)
    word_longest l _ q _ e (s_plain c v h) =
        let x : b ≡ c = cc in let y : letter c ≡ true = rw (← x) l in
        let z = digit_letter c (and_parts (digit c) (list_all digit v) h).0 in absurd (cc)
    word_longest l _ q _ e (s_negative c v h) =
        let x : b ≡ 126 = cc in let y : letter b ≡ false = rw x refl in absurd (cc)
    word_longest l _ q _ e (s_sign c k i) = omega arith
    word_longest l _ q _ e (s_pair c d k i) =
        let x : b ≡ c = cc in
        let y : letter c ≡ true = rw (← x) l in let z = (marked c (signs.of_pair c d k i)).no_letter in absurd (cc)

    plain_longest : digit b ≡ true → (v q : List ℕ) (j : g.Kind) → b ∷ s ≡ v ++ q → Spells g v j →
        length v ≤ 1 + prefix_len digit s
    plain_longest l _ q _ e (s_word c v h i) =
        let x : b ≡ c = cc in let y : digit c ≡ true = rw (← x) l in let z = digit_letter c y in absurd (cc)
    plain_longest l _ q _ e (s_plain c v h) =
        let x : s ≡ v ++ q = cc in
        let y = run_longest digit v q (and_parts (digit c) (list_all digit v) h).1 in rw x (omega arith)
    plain_longest l _ q _ e (s_negative c v h) =
        let x : b ≡ 126 = cc in let y : digit b ≡ false = rw x refl in absurd (cc)
    plain_longest l _ q _ e (s_sign c k i) = omega arith
    plain_longest l _ q _ e (s_pair c d k i) =
        let x : b ≡ c = cc in
        let y : digit c ≡ true = rw (← x) l in let z = (marked c (signs.of_pair c d k i)).no_digit in absurd (cc)

    negative_longest : b ≡ 126 → (v q : List ℕ) (j : g.Kind) → b ∷ s ≡ v ++ q → Spells g v j →
        length v ≤ 1 + prefix_len digit s
    negative_longest l _ q _ e (s_word c v h i) =
        let x : c ≡ 126 = cc in let y : letter c ≡ false = rw x refl in absurd (cc)
    negative_longest l _ q _ e (s_plain c v h) =
        let x : c ≡ 126 = cc in
        let y : digit c ≡ false = rw x refl in let z = (and_parts (digit c) (list_all digit v) h).0 in absurd (cc)
    negative_longest l _ q _ e (s_negative c v h) =
        let x : s ≡ (c ∷ v) ++ q = cc in let y = run_longest digit (c ∷ v) q h in rw x (omega arith)
    negative_longest l _ q _ e (s_sign c k i) = omega arith
    negative_longest l _ q _ e (s_pair c d k i) =
        let x : c ≡ 126 = cc in let y : mark c ≡ false = rw x refl in let z = signs.of_pair c d k i in absurd (cc)

  -- where neither a word nor a number begins
  record Else (b : ℕ) (s : List ℕ) : Type 0 where
    gap : NoGap (b ∷ s)
    no_letter : letter b ≡ false
    no_digit : digit b ≡ false
    no_negative : at_negative (b ∷ s) ≡ false

  -- then only signs are left
  data Sign (b : ℕ) (s : List ℕ) (v : List ℕ) (j : g.Kind) : Type 0 where
    one : g.sign b ≡ Some j → length v ≡ 1 → Sign b s v j
    two : (c : ℕ) (r : List ℕ) → s ≡ c ∷ r → g.pair b c ≡ Some j → length v ≡ 2 → Sign b s v j

  only_sign : (b : ℕ) (s : List ℕ) → Else b s → (v q : List ℕ) (j : g.Kind) → b ∷ s ≡ v ++ q → Spells g v j →
      Sign b s v j
  only_sign b s h _ q _ e (s_word c v l i) =
      let x : b ≡ c = cc in let y : letter c ≡ false = rw (← x) h.no_letter in absurd (cc)
  only_sign b s h _ q _ e (s_plain c v l) =
      let x : b ≡ c = cc in
      let y : digit c ≡ false = rw (← x) h.no_digit in
      let z = (and_parts (digit c) (list_all digit v) l).0 in absurd (cc)
  only_sign b s h _ q _ e (s_negative c v l) =
      let x : at_negative (126 ∷ (c ∷ (v ++ q))) ≡ false = ap (λ (w : List ℕ). at_negative w) (sym e) ∙ h.no_negative in
      let z = (and_parts (digit c) (list_all digit v) l).0 in absurd (cc)
  only_sign b s h _ q _ e (s_sign c k i) = let x : b ≡ c = cc in one (rw x i) refl
  only_sign b s h _ q _ e (s_pair c d k i) = let x : b ≡ c = cc in let y : s ≡ d ∷ q = cc in two d q y (rw x i) refl

  by_one : (b : ℕ) (s : List ℕ) → Else b s → ((c : ℕ) (r : List ℕ) → s ≡ c ∷ r → g.pair b c ≡ None) →
      (o : Option g.Kind) → g.sign b ≡ o → Next g (b ∷ s) (of_sign o)
  by_one b s h alone (Some k) e =
      spelling_next (b ∷ s) 1 k (omega arith) h.gap (s_sign b k e) (λ v q j d x. short v j (only_sign b s h v q j d x))
    where
      short : (v : List ℕ) (j : g.Kind) → Sign b s v j → length v ≤ 1
      short v j (one i l) = omega arith
      short v j (two c r p i l) = let z = alone c r p in absurd (cc)
  by_one b s h alone None e = n_nothing (λ x. cc) h.gap (λ u r k d x. none u k (only_sign b s h u r k d x))
    where
      none : (u : List ℕ) (k : g.Kind) → Sign b s u k → ⊥
      none u k (one i l) = cc
      none u k (two c r p i l) = let z = alone c r p in cc

  by_two : (b c : ℕ) (s : List ℕ) → Else b (c ∷ s) → (o : Option g.Kind) → g.pair b c ≡ o →
      Next g (b ∷ (c ∷ s)) (of_pair o (of_sign (g.sign b)))
  by_two b c s h (Some k) e =
      spelling_next (b ∷ (c ∷ s)) 2 k (omega arith) h.gap (s_pair b c k e)
      (λ v q j d x. short v j (only_sign b (c ∷ s) h v q j d x))
    where
      short : (v : List ℕ) (j : g.Kind) → Sign b (c ∷ s) v j → length v ≤ 2
      short v j (one i l) = omega arith
      short v j (two d r p i l) = omega arith
  by_two b c s h None e = by_one b (c ∷ s) h (λ d r p. let x : c ≡ d = cc in rw (← x) e) (g.sign b) refl

  other : (b : ℕ) (s : List ℕ) → Else b s → Next g (b ∷ s) (sign_item g (b ∷ s))
  other b [] h = by_one b [] h (λ c r p. absurd (cc)) (g.sign b) refl
  other b (c ∷ s) h = by_two b c s h (g.pair b c) refl

  by_negative : (b : ℕ) (s : List ℕ) → NoGap (b ∷ s) → letter b ≡ false → digit b ≡ false → (x : Bool) →
      at_negative (b ∷ s) ≡ x →
      Next g (b ∷ s) (of_piece g (b ∷ s) (if x then PNegative (1 + prefix_len digit s) else POther))
  by_negative b [] n l d true e = absurd (cc)
  by_negative b (c ∷ s) n l d true e =
      let t = and_parts (b == 126) (digit c) e in
      let p = eqb-true b 126 t.0 in
      let m = prefix_len-le-length digit (c ∷ s) in
      let z : 1 + prefix_len digit (c ∷ s) ≡ suc (prefix_len digit (c ∷ s)) = omega arith in
      let cons : take (prefix_len digit (c ∷ s)) (c ∷ s) ≡ c ∷ take_while digit s =
      take_while-cons digit c s ∙ rw t.1 refl in
      let all : list_all digit (c ∷ take_while digit s) ≡ true = rw (t.1, run_all digit s) refl in
      let sp : Spells g (take (1 + prefix_len digit (c ∷ s)) (b ∷ (c ∷ s)))
      (g.negative (value (drop 1 (take (1 + prefix_len digit (c ∷ s)) (b ∷ (c ∷ s)))))) =
      rw z (rw (cons, p) (s_negative c (take_while digit s) all)) in
      spelling_next (b ∷ (c ∷ s)) (1 + prefix_len digit (c ∷ s))
      (g.negative (value (drop 1 (take (1 + prefix_len digit (c ∷ s)) (b ∷ (c ∷ s)))))) (omega arith) n sp
      (negative_longest b (c ∷ s) p)
  by_negative b s n l d false e = other b s (record { gap = n; no_letter = l; no_digit = d; no_negative = e })

  by_digit : (b : ℕ) (s : List ℕ) → NoGap (b ∷ s) → letter b ≡ false → (x : Bool) → digit b ≡ x →
      Next g (b ∷ s)
      (of_piece g (b ∷ s)
      (if x then PPlain (1 + prefix_len digit s) else if at_negative (b ∷ s) then PNegative
      (1 + prefix_len digit s) else POther))
  by_digit b s n l true e =
      let m = prefix_len-le-length digit s in
      let z : 1 + prefix_len digit s ≡ suc (prefix_len digit s) = omega arith in
      let all : list_all digit (b ∷ take_while digit s) ≡ true = rw (e, run_all digit s) refl in
      spelling_next (b ∷ s) (1 + prefix_len digit s) (g.plain (value (take (1 + prefix_len digit s) (b ∷ s))))
      (omega arith) n (rw z (s_plain b (take_while digit s) all)) (plain_longest b s e)
  by_digit b s n l false e = by_negative b s n l e (at_negative (b ∷ s)) refl

  by_letter : (b : ℕ) (s : List ℕ) → NoGap (b ∷ s) → (x : Bool) → letter b ≡ x →
      Next g (b ∷ s)
      (of_piece g (b ∷ s)
      (if x then PWord (1 + prefix_len of_word s) else if digit b then PPlain (1 + prefix_len digit s) else if
      at_negative (b ∷ s) then PNegative (1 + prefix_len digit s) else POther))
  by_letter b s n true e =
      let m = prefix_len-le-length of_word s in
      let z : 1 + prefix_len of_word s ≡ suc (prefix_len of_word s) = omega arith in
      spelling_next (b ∷ s) (1 + prefix_len of_word s) (g.word (take (1 + prefix_len of_word s) (b ∷ s)))
      (omega arith) n (rw z (s_word b (take_while of_word s) e (run_all of_word s))) (word_longest b s e)
  by_letter b s n false e = by_digit b s n e (digit b) refl

  comment : (c : ℕ) (b : ℕ) (s : List ℕ) → (b == 45) ≡ true → (c == 45) ≡ true →
      Next g (b ∷ (c ∷ s)) (Gap (2 + prefix_len of_line s))
  comment c b s p q =
      let m = prefix_len-le-length of_line s in
      let z : 2 + prefix_len of_line s ≡ suc (suc (prefix_len of_line s)) = omega arith in
      let h : IsGap (take (2 + prefix_len of_line s) (b ∷ (c ∷ s))) (drop (2 + prefix_len of_line s) (b ∷ (c ∷ s))) =
      rw (z, eqb-true b 45 p, eqb-true c 45 q)
      (g_comment {c = take_while of_line s} {r = drop (prefix_len of_line s) s} (run_all of_line s)
      (ends_line s)) in
      gap_next (b ∷ (c ∷ s)) (2 + prefix_len of_line s) (omega arith) h

  by_dashes : (b : ℕ) (s : List ℕ) → space b ≡ false → (x : Bool) → at_dashes (b ∷ s) ≡ x →
      Next g (b ∷ s)
      (of_piece g (b ∷ s)
      (if x then PGap (2 + prefix_len of_line (drop 1 s)) else if letter b then PWord (1 + prefix_len of_word s)
      else if digit b then PPlain (1 + prefix_len digit s) else if at_negative (b ∷ s) then PNegative
      (1 + prefix_len digit s) else POther))
  by_dashes b [] p true e = absurd (cc)
  by_dashes b (c ∷ s) p true e = let t = and_parts (b == 45) (c == 45) e in comment c b s t.0 t.1
  by_dashes b s p false e = by_letter b s (no_gap b s p e) (letter b) refl

  by_space : (b : ℕ) (s : List ℕ) (x : Bool) → space b ≡ x →
      Next g (b ∷ s)
      (of_piece g (b ∷ s)
      (if x then PGap 1 else if at_dashes (b ∷ s) then PGap (2 + prefix_len of_line (drop 1 s)) else if letter b
      then PWord (1 + prefix_len of_word s) else if digit b then PPlain (1 + prefix_len digit s) else if
      at_negative (b ∷ s) then PNegative (1 + prefix_len digit s) else POther))
  by_space b s true e = gap_next (b ∷ s) 1 (omega arith) (g_space b e)
  by_space b s false e = by_dashes b s e (at_dashes (b ∷ s)) refl

  pub some_next : (b : ℕ) (s : List ℕ) → Next g (b ∷ s) (item g (b ∷ s))
  some_next b s = by_space b s (space b) refl
