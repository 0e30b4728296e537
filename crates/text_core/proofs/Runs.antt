-- Runs of bytes of one kind, by place.
use Rattle.std.proofs.Common.{◌≡◌, ◌≤◌, ◌<◌, ℕ, ◌+◌, ◌-◌, ◌*◌, ◌/◌, ◌^◌, List, [], ◌∷◌, ◌++◌, length, drop, get_or}
use Rattle.std.proofs.Common.{Bool, true, false, refl, sym, ◌∙◌, ap, arith, lit≤, drop-cons, add-one}
use Rattle.std.specs.Prelude.{nat_lt}
use Rattle.std.specs.List.{prefix_len, take_while, list_all}
use Rattle.std.proofs.lemmas.Bool.{ltb-true, and_parts}
use Rattle.std.proofs.lemmas.List.Sums.{prefix_len-drop_yes, take_while-cons}
use Rattle.std.proofs.Math.Nat.{le_trans, lt_of_lt_of_le}
use Rattle.text_core.specs.Byte.{digit, value, value_from}

pub here : (t : List ℕ) (i : ℕ) → i < length t → drop i t ≡ get_or t i 0 ∷ drop (i + 1) t
here t i h = rw (drop-cons t i 0 h, ← add-one i) refl

pub run_yes : (p : ℕ → Bool) (b : ℕ) (s : List ℕ) → p b ≡ true → take_while p (b ∷ s) ≡ b ∷ take_while p s
run_yes p b s e = take_while-cons p b s ∙ rw e refl

pub run_no : (p : ℕ → Bool) (b : ℕ) (s : List ℕ) → p b ≡ false → take_while p (b ∷ s) ≡ []
run_no p b s e = take_while-cons p b s ∙ rw e refl

pub run_more : (p : ℕ → Bool) (t : List ℕ) (i : ℕ) → i < length t → p (get_or t i 0) ≡ true →
    take_while p (drop i t) ≡ get_or t i 0 ∷ take_while p (drop (i + 1) t)
run_more p t i l e = rw (here t i l) (run_yes p (get_or t i 0) (drop (i + 1) t) e)

-- all of a run pass, and it is the longest that does
pub run_all : (p : ℕ → Bool) (s : List ℕ) → list_all p (take_while p s) ≡ true
run_all p [] = refl
run_all p (b ∷ s) = go (p b) refl (run_all p s)
  where
    go : (x : Bool) → p b ≡ x → list_all p (take_while p s) ≡ true → list_all p (take_while p (b ∷ s)) ≡ true
    go true e h = rw (run_yes p b s e, e) h
    go false e h = rw (run_no p b s e) refl

pub run_longest : (p : ℕ → Bool) (u r : List ℕ) → list_all p u ≡ true → length u ≤ prefix_len p (u ++ r)
run_longest p [] r h = omega arith
run_longest p (b ∷ u) r h =
    let x = and_parts (p b) (list_all p u) h in
    let y = run_longest p u r x.1 in
    rw x.0 (omega arith)

-- the value of digits

grows : (s : List ℕ) (n : ℕ) → n ≤ value_from n s
grows [] n = omega arith
grows (b ∷ s) n = let h = grows s (n * 10 + (b - 48)) in omega arith

digit_range : (b : ℕ) → digit b ≡ true → b < 58
digit_range b e = ltb-true b 58 (and_parts (nat_lt 47 b) (nat_lt b 58) e).1

room : (l v d : ℕ) → d ≤ l → v ≤ (l - d) / 10 → v * 10 + d ≤ l
room l v d h m = omega arith

no_room : (l v d : ℕ) → (l - d) / 10 < v → l < v * 10 + d
no_room l v d m = omega arith

pub record DigitsSoFar (text : List ℕ) (at i v : ℕ) (fits : Bool) : Type 0 where
  pub in_range : i ≤ length text
  pub same_end : i + prefix_len digit (drop i text) ≡ at + prefix_len digit (drop at text)
  pub bound : v ≤ 2 ^ 63
  pub small : fits ≡ true → value_from v (take_while digit (drop i text)) ≡ value (take_while digit (drop at text))
  pub large : fits ≡ false → 2 ^ 63 < value (take_while digit (drop at text))

module _ (t : List ℕ) (at i v : ℕ) (f : Bool) (h : DigitsSoFar t at i v f) (l : i < length t)
    (n : digit (get_or t i 0) ≡ true) where
  ends : i + 1 + prefix_len digit (drop (i + 1) t) ≡ at + prefix_len digit (drop at t)
  ends = let e = prefix_len-drop_yes digit t i 0 l n in omega (arith, h.same_end)

  pub digits_more : v ≤ (2 ^ 63 - (get_or t i 0 - 48)) / 10 → DigitsSoFar t at (i + 1) (v * 10 + (get_or t i 0 - 48)) f
  digits_more m =
      let r = digit_range (get_or t i 0) n in
      let k : get_or t i 0 - 48 ≤ 10 = omega arith in
      record {
        in_range = omega arith;
        same_end = ends;
        bound = room (2 ^ 63) v (get_or t i 0 - 48) (le_trans k (lit≤ tt)) m;
        small = λ x. ap (λ (w : List ℕ). value_from v w) (sym (run_more digit t i l n)) ∙ h.small x;
        large = h.large;
      }

  pub digits_large : (f ≡ true → (2 ^ 63 - (get_or t i 0 - 48)) / 10 < v) → DigitsSoFar t at (i + 1) v false
  digits_large m = record {
    in_range = omega arith;
    same_end = ends;
    bound = h.bound;
    small = λ x. absurd (cc);
    large = λ x. by_flag f refl;
  }
    where
      by_flag : (g : Bool) → f ≡ g → 2 ^ 63 < value (take_while digit (drop at t))
      by_flag false p = h.large p
      by_flag true p =
          let a = grows (take_while digit (drop (i + 1) t)) (v * 10 + (get_or t i 0 - 48)) in
          let b = no_room (2 ^ 63) v (get_or t i 0 - 48) (m p) in
          let c : value_from v (take_while digit (drop i t))
          ≡ value_from (v * 10 + (get_or t i 0 - 48)) (take_while digit (drop (i + 1) t)) =
          ap (λ (w : List ℕ). value_from v w) (run_more digit t i l n) in
          rw (← h.small p, c) (lt_of_lt_of_le b a)
