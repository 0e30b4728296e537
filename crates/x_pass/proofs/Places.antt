-- The homes of registers are homes: each is its own, and the slots lie below the memory of the program.
use Rattle.std.proofs.Common.{◌≡◌, ℕ, ◌+◌, ◌*◌, ◌%◌, ◌<◌, ◌≤◌, Bool, true, false, cond, nat_lt, nat_le, nat_eq}
use Rattle.std.proofs.Common.{List, [], ◌∷◌, Option, Some, None, refl, sym, ap, ◌∙◌, arith, pos}
use Rattle.std.proofs.Common.{eqb-true, eq-eqb, lt-ltb, le-leb, ◌==◌}
use Rattle.x_terms.specs.Numbers.{entry, number, same}
use Rattle.x_terms.specs.declared.register.Register.{Register}
use Rattle.x_terms.specs.Machine.{Image, is_word, word}
use Rattle.x_laws.specs.Homes.{InSlot, spare, Apart, IsHome, AreHomes}
use Rattle.w_terms.specs.Machine.{Memory}
use Rattle.x_pass.specs.Homes.{home, home_by, rows, slot, slots_at, most}

-- which register of word code lives in the one with this number
abbrev dwells : List (ℕ × ℕ)
dwells = (3, 0) ∷ (5, 1) ∷ (8, 4) ∷ (9, 16) ∷ (10, 17) ∷ (12, 18) ∷ (13, 19) ∷ (14, 20) ∷ (15, 21) ∷ []

abbrev Row : ℕ → Register → Type 0
Row q r = (spare r ≡ false) × (entry (number r) dwells ≡ Some q)

abbrev AllRows : List (ℕ × Register) → Type 0
AllRows [] = Unit {0}
AllRows (x ∷ xs) = Row x.0 x.1 × AllRows xs

are_rows : AllRows rows
are_rows = (
  (refl, refl),
  (
    (refl, refl),
    (
      (refl, refl),
      (
        (refl, refl),
        (
          (refl, refl),
          (
            (refl, refl),
            (
              (refl, refl),
              (
                (refl, refl),
                (
                  (refl, refl),
                  tt,
                ),
              ),
            ),
          ),
        ),
      ),
    ),
  ),
)

-- what a table has for a number stands in it
found : (xs : List (ℕ × Register)) → AllRows xs → (q : ℕ) (r : Register) → entry q xs ≡ Some r → Row q r
found [] h q r e = absurd (cc)
found (x ∷ xs) h q r e = by_first (nat_eq q x.0) refl (found xs h.1 q r)
  where
    by_first : (b : Bool) → nat_eq q x.0 ≡ b → (entry q xs ≡ Some r → Row q r) → Row q r
    by_first true p more =
        let at : q ≡ x.0 = eqb-true q x.0 p in
        let is : Some x.1 ≡ Some r = ap (λ b. cond b (Some x.1) (entry q xs)) (sym p) ∙ e in
        let reg : x.1 ≡ r = cc in
        rw (at, sym reg) h.0
    by_first false p more = more (ap (λ b. cond b (Some x.1) (entry q xs)) (sym p) ∙ e)

some_number : (a b : ℕ) → Some a ≡ Some b → a ≡ b
some_number a b e = cc

module _ (m : Image) (mem : Memory) (n : ℕ) (low : n ≤ most) (begin : m.data_at ≡ slots_at)
    (end : slots_at + 8 * n ≤ m.data_end) (none : (a : ℕ) → a < slots_at + 8 * n → mem a ≡ None) where
  slot_is_word : (q : ℕ) → q < n → is_word m (slot q) ≡ true
  slot_is_word q f =
      let even : (slot q % 8 == 0) ≡ true = eq-eqb (slot q % 8) 0 (omega arith) in
      let above : nat_le m.data_at (slot q) ≡ true = le-leb m.data_at (slot q) (omega (arith, begin)) in
      let below : nat_le (slot q + 8) m.data_end ≡ true = le-leb (slot q + 8) m.data_end (omega (arith, end)) in
      rw (even, above, below) refl

  by_rows : (q : ℕ) → q < n → (o : Option Register) → entry q rows ≡ o → IsHome m mem (home_by q o)
  by_rows q f (Some r) e = (found rows are_rows q r e).0
  by_rows q f None e =
      let less : nat_lt q most ≡ true = lt-ltb q most (omega arith) in
      let is : IsHome m mem (InSlot (pos (slot q))) =
      (slot_is_word q f, none (slot q) (omega arith), record { sfits = omega arith }) in
      rw less is

  each_home : (q : ℕ) → q < n → IsHome m mem (home q)
  unfolding home
  each_home q f = by_rows q f (entry q rows) refl

  two_registers : (q p : ℕ) (r s : Register) → nat_eq q p ≡ false → entry q rows ≡ Some r → entry p rows ≡ Some s →
      (b : Bool) → same r s ≡ b → b ≡ false
  two_registers q p r s d e f false g = refl
  two_registers q p r s d e f true g =
      let one : number r ≡ number s = eqb-true (number r) (number s) g in
      let both : Some q ≡ Some p =
      sym (found rows are_rows q r e).1 ∙ ap (λ k. entry k dwells) one ∙ (found rows are_rows p s f).1 in
      let is : nat_eq q p ≡ true = eq-eqb q p (some_number q p both) in
      absurd (cc)

  two_slots : (q p : ℕ) → nat_eq q p ≡ false → (b : Bool) → nat_eq (slot q) (slot p) ≡ b → b ≡ false
  two_slots q p d false e = refl
  two_slots q p d true e =
      let one : slot q ≡ slot p = eqb-true (slot q) (slot p) e in
      let is : nat_eq q p ≡ true = eq-eqb q p (omega (arith, one)) in
      absurd (cc)

  apart_by : (q p : ℕ) → q < n → p < n → nat_eq q p ≡ false → (x y : Option Register) → entry q rows ≡ x →
      entry p rows ≡ y → Apart (home_by q x) (home_by p y)
  apart_by q p f g d (Some r) (Some s) e h = two_registers q p r s d e h (same r s) refl
  apart_by q p f g d (Some r) None e h =
      let less : nat_lt p most ≡ true = lt-ltb p most (omega arith) in
      rw less tt
  apart_by q p f g d None (Some s) e h =
      let less : nat_lt q most ≡ true = lt-ltb q most (omega arith) in
      rw less tt
  apart_by q p f g d None None e h =
      let less : nat_lt q most ≡ true = lt-ltb q most (omega arith) in
      let more : nat_lt p most ≡ true = lt-ltb p most (omega arith) in
      rw (less, more) (two_slots q p d (nat_eq (slot q) (slot p)) refl)

  homes_apart : (q p : ℕ) → q < n → p < n → nat_eq q p ≡ false → Apart (home q) (home p)
  unfolding home
  homes_apart q p f g d = apart_by q p f g d (entry q rows) (entry p rows) refl refl

  pub are_homes : AreHomes m mem n home
  are_homes = record { each = each_home; apart = homes_apart }
