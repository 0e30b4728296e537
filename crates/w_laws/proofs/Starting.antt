-- Where a program begins, its memory shows its data.
use Rattle.std.proofs.Common.{◌≡◌, ℕ, zero, suc, ◌+◌, ◌-◌, ◌*◌, ◌/◌, ◌%◌, ◌<◌, ◌≤◌, nat_eq, nat_lt, cond}
use Rattle.std.proofs.Common.{true, false, List, [], ◌∷◌, ◌++◌, length, map, Option, Some, None, refl, sym, ap}
use Rattle.std.proofs.Common.{◌∙◌, subst, arith, slice_get, length-append}
use Rattle.std.proofs.lemmas.Bool.Decides.{nat_tests}
use Rattle.std.proofs.lemmas.List.{length-map}
use Rattle.std.proofs.lemmas.Option.{slice_get_within}
use Rattle.std.proofs.Math.Nat.{mul-mod_right, mul-div_cancel_left}
use Rattle.t_rules.specs.Erase.{EWord, EHeap}
use Rattle.w_terms.specs.Tree.{WProg}
use Rattle.w_terms.specs.Machine.{Memory, datum_word, image_word, start_memory}
use Rattle.w_terms.specs.declared.program.WDatum.{WDatum}
use Rattle.w_rooms.specs.Numbers.{bytes}
use Rattle.w_laws.specs.Code.{data_at, datum, data_words, data_size}

-- words in a row, from the address a on
abbrev pub Stand : (ℕ → ℕ) → Memory → ℕ → List WDatum → Type 0
Stand place m a [] = Unit {0}
Stand place m a (x ∷ xs) = (m a ≡ Some (datum_word place x)) × Stand place m (a + 8) xs

module _ (place : ℕ → ℕ) (m : Memory) where
  pub stand_split : (xs ys : List WDatum) (a : ℕ) → Stand place m a (xs ++ ys) →
      Stand place m a xs × Stand place m (a + 8 * length xs) ys
  stand_split [] ys a s = let e : a ≡ a + 8 * 0 = omega arith in (tt, subst (λ x. Stand place m x ys) e s)
  stand_split (x ∷ xs) ys a s =
      let t = stand_split xs ys (a + 8) s.1 in
      let e : a + 8 + 8 * length xs ≡ a + 8 * suc (length xs) = omega arith in
      ((s.0, t.0), subst (λ x. Stand place m x ys) e t.1)

  pub stand_at : (xs : List WDatum) (a i : ℕ) (x : WDatum) → Stand place m a xs → slice_get xs i ≡ Some x →
      m (a + 8 * i) ≡ Some (datum_word place x)
  stand_at [] a i x s e = cc
  stand_at (y ∷ xs) a zero x s e =
      let same : y ≡ x = cc in let plus : a + 8 * 0 ≡ a = omega arith in
      ap m plus ∙ s.0 ∙ ap (λ z. Some (datum_word place z)) same
  stand_at (y ∷ xs) a (suc i) x s e =
      let plus : a + 8 * suc i ≡ a + 8 + 8 * i = omega arith in ap m plus ∙ stand_at xs (a + 8) i x s.1 e

  -- of data
  module _ (at : ℕ → ℕ) where
    pub data_field : (h : EHeap) (a d i : ℕ) (t : List EWord) (w : EWord) → Stand place m a (data_words at h) →
        slice_get h d ≡ Some t → slice_get t i ≡ Some w →
        m (data_at a h d + 8 * i) ≡ Some (datum_word place (datum at w))
    data_field [] a d i t w s e f = cc
    data_field (u ∷ h) a zero i t w s e f =
        let same : u ≡ t = cc in
        let parts = stand_split (map (datum at) u) (data_words at h) (a + 8) s.1 in
        stand_at (map (datum at) u) (a + 8) i (datum at w) parts.0 (mapped u i w (ap (λ x. slice_get x i) same ∙ f))
      where
        mapped : (t : List EWord) (i : ℕ) (w : EWord) → slice_get t i ≡ Some w →
            slice_get (map (datum at) t) i ≡ Some (datum at w)
        mapped [] i w f = cc
        mapped (x ∷ xs) zero w f = let one : x ≡ w = cc in ap (λ y. Some (datum at y)) one
        mapped (x ∷ xs) (suc i) w f = mapped xs i w f
    data_field (u ∷ h) a (suc d) i t w s e f =
        let parts = stand_split (map (datum at) u) (data_words at h) (a + 8) s.1 in
        let long = length_map u in
        let next : a + 8 + 8 * length (map (datum at) u) ≡ a + bytes (length u) = omega (arith, long) in
        data_field h (a + bytes (length u)) d i t w (subst (λ x. Stand place m x (data_words at h)) next parts.1) e f
      where
        length_map : (t : List EWord) → length (map (datum at) t) ≡ length t
        length_map [] = refl
        length_map (x ∷ xs) = ap suc (length_map xs)

-- the words of data
pub data_long : (at : ℕ → ℕ) (h : EHeap) → length (data_words at h) ≡ data_size h
data_long at [] = refl
data_long at (t ∷ h) =
    let both = length-append (map (datum at) t) (data_words at h) in
    let first = length-map t (datum at) in
    let rest = data_long at h in
    omega (arith, both, first, rest)

-- a field is one of these words
pub data_inside : (h : EHeap) (a d i : ℕ) (t : List EWord) → slice_get h d ≡ Some t → i < length t →
    (k : ℕ) × (data_at a h d ≡ a + 8 * k) × (k + i < data_size h)
data_inside [] a d i t e lt = cc
data_inside (u ∷ h) a zero i t e lt =
    let same : u ≡ t = cc in
    let long = ap (λ (x : List EWord). length x) same in
    (1, (omega arith), (omega (arith, lt, long)))
data_inside (u ∷ h) a (suc d) i t e lt =
    let k = data_inside h (a + bytes (length u)) d i t e lt in
    let there = k.1 in
    let in' = k.2 in
    (k.0 + (length u + 1), (omega (arith, there)), (omega (arith, in')))

-- no two data fields are at one address
pub from_start : (h : EHeap) (a d : ℕ) (t : List EWord) → slice_get h d ≡ Some t → a + 8 ≤ data_at a h d
from_start [] a d t e = cc
from_start (u ∷ h) a zero t e = omega arith
from_start (u ∷ h) a (suc d) t e = let le = from_start h (a + bytes (length u)) d t e in omega (arith, le)

pub data_apart : (h : EHeap) (a d e i j : ℕ) (t u : List EWord) → slice_get h d ≡ Some t → slice_get h e ≡ Some u →
    i < length t → j < length u → data_at a h d + 8 * i ≡ data_at a h e + 8 * j → (d ≡ e) × (i ≡ j)
data_apart [] a d e i j t u f g lt lt' s = cc
data_apart (x ∷ h) a zero zero i j t u f g lt lt' s = (refl, omega (arith, s))
data_apart (x ∷ h) a zero (suc e) i j t u f g lt lt' s =
    let same : length x ≡ length t = ap (λ (o : Option (List EWord)). long o) f in
    let le = from_start h (a + bytes (length x)) e u g in
    absurd (omega (arith, s, lt, same, le))
  where
    long : Option (List EWord) → ℕ
    long (Some y) = length y
    long None = 0
data_apart (x ∷ h) a (suc d) zero i j t u f g lt lt' s =
    let same : length x ≡ length u = ap (λ (o : Option (List EWord)). long o) g in
    let le = from_start h (a + bytes (length x)) d t f in
    absurd (omega (arith, s, lt', same, le))
  where
    long : Option (List EWord) → ℕ
    long (Some y) = length y
    long None = 0
data_apart (x ∷ h) a (suc d) (suc e) i j t u f g lt lt' s =
    let k = data_apart h (a + bytes (length x)) d e i j t u f g lt lt' s in (ap suc k.0, k.1)

-- the memory of a program
module _ (place : ℕ → ℕ) (W : WProg) where
  pub word_at : (k : ℕ) → k < W.size → start_memory place W (W.base + 8 * k)
      ≡ Some (image_word place (slice_get W.image k))
  word_at k lt =
      let off : W.base + 8 * k - W.base ≡ 8 * k = omega arith in
      let no' : nat_lt (W.base + 8 * k) W.base ≡ false = grind (arith, nat_tests) in
      let rem : (8 * k) % 8 ≡ 0 = mul-mod_right 8 k in
      let quot : (8 * k) / 8 ≡ k = mul-div_cancel_left k {n = 8} (omega arith) in
      let yes : nat_lt k W.size ≡ true = grind (arith, nat_tests) in
      ap (λ b. cond b None (inner (W.base + 8 * k - W.base))) no'
      ∙ ap inner off
      ∙ ap (λ x. cond (nat_eq x 0) (cond (nat_lt ((8 * k) / 8) W.size)
      (Some (image_word place (slice_get W.image ((8 * k) / 8)))) None) None) rem
      ∙ ap (λ x. cond (nat_lt x W.size) (Some (image_word place (slice_get W.image x))) None) quot
      ∙ ap (λ b. cond b (Some (image_word place (slice_get W.image k))) None) yes
    where
      inner : ℕ → Option ℕ
      inner x = cond (nat_eq (x % 8) 0)
          (cond (nat_lt (x / 8) W.size) (Some (image_word place (slice_get W.image (x / 8)))) None) None

  pub image_stands : length W.image ≤ W.size → (xs : List WDatum) (k : ℕ) →
      ((j : ℕ) (x : WDatum) → slice_get xs j ≡ Some x → slice_get W.image (k + j) ≡ Some x) →
      Stand place (start_memory place W) (W.base + 8 * k) xs
  image_stands le [] k at = tt
  image_stands le (x ∷ xs) k at =
      let plus : k + 0 ≡ k = omega arith in
      let here : slice_get W.image k ≡ Some x = ap (slice_get W.image) (sym plus) ∙ at 0 x refl in
      let lt : k < W.size = let in' = slice_get_within W.image k x here in omega (arith, in', le) in
      let next : W.base + 8 * suc k ≡ W.base + 8 * k + 8 = omega arith in (
        word_at k lt ∙ ap (λ o. Some (image_word place o)) here,
        subst (λ a. Stand place (start_memory place W) a xs) next
            (image_stands le xs (suc k) (λ j y e. let more : suc k + j ≡ k + suc j = omega arith in
            ap (slice_get W.image) more ∙ at (suc j) y e)),
      )
