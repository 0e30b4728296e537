-- Counts in ascending lists.
use Rattle.std.proofs.Common.{◌≡◌, ℕ, zero, suc, ◌-◌, ◌<◌, ◌≤◌, List, [], ◌∷◌, length, get_or, refl, sym, ap, ◌∙◌}
use Rattle.std.proofs.Common.{arith}
use Rattle.std.proofs.lemmas.Bool.{lt-ltb, le-ltb}
use Rattle.calc_core.specs.Ends.{after_one}
use Rattle.c_rules.specs.Emit.{below}
use Rattle.c_rules.specs.Know.{above}
use Rattle.c_rules.specs.Climbs.{Climbs}
use Rattle.c_rules.proofs.Sets.{Rising}

-- a rising list climbs
first_least : (lo : ℕ) (xs : List ℕ) (j : ℕ) → Rising lo xs → j < length xs → lo ≤ get_or xs j 0
first_least lo [] j r h = absurd (omega (arith, h))
first_least lo (x ∷ xs) zero r h = r.0
first_least lo (x ∷ xs) (suc j) r h = let q = first_least (suc x) xs j r.1 (omega (arith, h)) in omega (arith, q, r.0)

pub climbs : (lo : ℕ) (xs : List ℕ) → Rising lo xs → Climbs xs
climbs lo [] r i j h k = absurd (omega (arith, k))
climbs lo (x ∷ xs) r zero zero h k = absurd (omega (arith, h))
climbs lo (x ∷ xs) r zero (suc j) h k = let q = first_least (suc x) xs j r.1 (omega (arith, k)) in omega (arith, q)
climbs lo (x ∷ xs) r (suc i) zero h k = absurd (omega (arith, h))
climbs lo (x ∷ xs) r (suc i) (suc j) h k = climbs (suc x) xs r.1 i j (omega (arith, h)) (omega (arith, k))

-- those before a place are less, and those from it on are not
pub below_is : (xs : List ℕ) (l i : ℕ) → i ≤ length xs → ((k : ℕ) → k < i → get_or xs k 0 < l) →
    ((k : ℕ) → i ≤ k → k < length xs → l ≤ get_or xs k 0) → i ≡ below l xs
below_is [] l i h f g = omega (arith, h)
below_is (x ∷ xs) l zero h f g =
    below_is xs l 0 (omega arith) (λ k q. absurd (omega (arith, q)))
    (λ k a q. g (suc k) (omega arith) (omega (arith, q)))
    ∙ sym (ap (λ b. after_one b (below l xs)) (le-ltb x l (g 0 (omega arith) (omega arith))))
below_is (x ∷ xs) l (suc i) h f g =
    ap suc (below_is xs l i (omega (arith, h)) (λ k q. f (suc k) (omega (arith, q)))
    (λ k a q. g (suc k) (omega (arith, a)) (omega (arith, q))))
    ∙ sym (ap (λ b. after_one b (below l xs)) (lt-ltb x l (f 0 (omega arith))))

-- those before a place are not greater, and those from it on are
pub above_is : (xs : List ℕ) (l i : ℕ) → i ≤ length xs → ((k : ℕ) → k < i → get_or xs k 0 ≤ l) →
    ((k : ℕ) → i ≤ k → k < length xs → l < get_or xs k 0) → length xs - i ≡ above l xs
above_is [] l i h f g = omega (arith, h)
above_is (x ∷ xs) l zero h f g =
    (let q : suc (length xs) - 0 ≡ suc (length xs - 0) = omega arith in q)
    ∙ ap suc (above_is xs l 0 (omega arith) (λ k q. absurd (omega (arith, q)))
    (λ k a q. g (suc k) (omega arith) (omega (arith, q))))
    ∙ sym (ap (λ b. after_one b (above l xs)) (lt-ltb l x (g 0 (omega arith) (omega arith))))
above_is (x ∷ xs) l (suc i) h f g =
    (let q : suc (length xs) - suc i ≡ length xs - i = omega arith in q)
    ∙ above_is xs l i (omega (arith, h)) (λ k q. f (suc k) (omega (arith, q)))
    (λ k a q. g (suc k) (omega (arith, a)) (omega (arith, q)))
    ∙ sym (ap (λ b. after_one b (above l xs)) (le-ltb l x (f 0 (omega arith))))

pub weak : (xs : List ℕ) → Climbs xs → (i j : ℕ) → i ≤ j → j < length xs → get_or xs i 0 ≤ get_or xs j 0
weak xs c i j h k = step (j - i) refl
  where
    step : (n : ℕ) → n ≡ j - i → get_or xs i 0 ≤ get_or xs j 0
    step zero e = let q : i ≡ j = omega (arith, e, h) in let z = ap (λ m. get_or xs m 0) q in omega (arith, z)
    step (suc n) e = let q = c i j (omega (arith, e)) k in omega (arith, q)

-- a search finds the place
module _ (xs : List ℕ) (c : Climbs xs) (l : ℕ) where
  pub below_found : (i : ℕ) → (i < length xs) × (get_or xs i 0 ≡ l) → i ≡ below l xs
  below_found i h =
      below_is xs l i (omega (arith, h.0))
      (λ k q. let z = c k i q h.0 in omega (arith, z, h.1))
      (λ k a q. let z = weak xs c i k a q in omega (arith, z, h.1))

  pub below_gap : (i : ℕ) → (i ≤ length xs) × ((k : ℕ) → k < i → get_or xs k 0 < l)
      × ((k : ℕ) → i ≤ k → k < length xs → l < get_or xs k 0) → i ≡ below l xs
  below_gap i h = below_is xs l i h.0 h.1 (λ k a q. let z = h.2 k a q in omega (arith, z))

  pub above_found : (i : ℕ) → (i < length xs) × (get_or xs i 0 ≡ l) → length xs - i - 1 ≡ above l xs
  above_found i h =
      (let q : length xs - i - 1 ≡ length xs - suc i = omega arith in q)
      ∙ above_is xs l (suc i) (omega (arith, h.0))
      (λ k q. let z = weak xs c k i (omega (arith, q)) h.0 in omega (arith, z, h.1))
      (λ k a q. let z = c i k (omega (arith, a)) q in omega (arith, z, h.1))

  pub above_gap : (i : ℕ) → (i ≤ length xs) × ((k : ℕ) → k < i → get_or xs k 0 < l)
      × ((k : ℕ) → i ≤ k → k < length xs → l < get_or xs k 0) → length xs - i ≡ above l xs
  above_gap i h = above_is xs l i h.0 (λ k q. let z = h.1 k q in omega (arith, z)) h.2
