-- Registers above those that are used, and free ones.
use Rattle.std.proofs.Common.{◌≡◌, ℕ, zero, suc, ◌+◌, ◌<◌, ◌≤◌, List, [], ◌∷◌, sym, ◌∙◌, arith, cond, ⊎_elim}
use Rattle.std.specs.Prelude.{◌==◌, nat_lt, Bool, true, ◌&&◌, not, length}
use Rattle.std.proofs.lemmas.Bool.{eq-eqb, eqb-true, ltb-true, ltb-false, cond_both, or_left, or_right, or_cases}
use Rattle.std.proofs.lemmas.Bool.{and_from, and_parts, and_cases, not-true, true≢false as clash}
use Rattle.a_terms.specs.Tree.{AVal, ATm, Let, Call, If0, Halt}
use Rattle.t_gen_rules.specs.Gen.{place, top, busy, first_free, names, argument, wanted, arguments, picked, free}
use Rattle.t_gen_rules.specs.Gen.{other_than}

-- one register among them
step : (b r : ℕ) (o : Bool) → (b ≤ cond (o && nat_lt b r) r b) × (o ≡ true → r ≤ cond (o && nat_lt b r) r b)
step b r o =
    cond_both (o && nat_lt b r) r b (λ x. (b ≤ x) × (o ≡ true → r ≤ x))
    (λ e. let lt = ltb-true b r (and_parts o (nat_lt b r) e).1 in (omega (arith, lt), λ y. omega arith))
    (λ e. (
      omega arith,
      λ y. ⊎_elim (λ z. absurd (clash (sym y ∙ z))) (λ z. (let ge = ltb-false b r z in omega (arith, ge)))
          (and_cases o (nat_lt b r) e),
    ))

pub top_least : (b : ℕ) (m : List ℕ) (u : ℕ → Bool) → b ≤ top b m u
top_least b [] u = omega arith
top_least b (r ∷ m) u =
    let s = step b r (u 0) in
    let t = top_least (cond (u 0 && nat_lt b r) r b) m (λ n. u (suc n)) in
    omega (arith, s.0, t)

pub top_place : (b : ℕ) (m : List ℕ) (u : ℕ → Bool) (n : ℕ) → u n ≡ true → place m n ≤ top b m u
top_place b [] u n y = omega arith
top_place b (r ∷ m) u zero y =
    let s = (step b r (u 0)).1 y in
    let t = top_least (cond (u 0 && nat_lt b r) r b) m (λ n. u (suc n)) in
    omega (arith, s, t)
top_place b (r ∷ m) u (suc n) y = top_place (cond (u 0 && nat_lt b r) r b) m (λ n. u (suc n)) n y

-- fewer of them
pub top_fewer : (b c : ℕ) (m : List ℕ) (u v : ℕ → Bool) → ((n : ℕ) → v n ≡ true → u n ≡ true) → b ≤ c →
    top b m v ≤ top c m u
top_fewer b c [] u v k le = le
top_fewer b c (r ∷ m) u v k le =
    let s = step c r (u 0) in
    let first : cond (v 0 && nat_lt b r) r b ≤ cond (u 0 && nat_lt c r) r c =
    cond_both (v 0 && nat_lt b r) r b (λ x. x ≤ cond (u 0 && nat_lt c r) r c)
    (λ e. s.1 (k 0 (and_parts (v 0) (nat_lt b r) e).0))
    (λ e. omega (arith, s.0, le)) in
    top_fewer (cond (v 0 && nat_lt b r) r b) (cond (u 0 && nat_lt c r) r c) m (λ n. u (suc n)) (λ n. v (suc n))
    (λ n y. k (suc n) y) first

-- a register of a variable that is used is found
pub busy_place : (r : ℕ) (m : List ℕ) (u : ℕ → Bool) (n : ℕ) → 1 ≤ r → u n ≡ true → place m n ≡ r → busy r m u ≡ true
busy_place r [] u n le y e = absurd (omega (arith, e))
busy_place r (q ∷ m) u zero le y e =
    or_left (u 0 && q == r) (busy r m (λ n. u (suc n))) (and_from (u 0) (q == r) y (eq-eqb q r e))
busy_place r (q ∷ m) u (suc n) le y e =
    or_right (u 0 && q == r) (busy r m (λ n. u (suc n))) (busy_place r m (λ n. u (suc n)) n le y e)

-- and one that is found is that of a variable that is used
pub busy_found : (r : ℕ) (m : List ℕ) (u : ℕ → Bool) → busy r m u ≡ true → (n : ℕ) × (u n ≡ true) × (place m n ≡ r)
busy_found r [] u e = absurd (clash (sym e))
busy_found r (q ∷ m) u e = ⊎_elim
    (λ x. let p = and_parts (u 0) (q == r) x in (0, p.0, eqb-true q r p.1))
    (λ x. let p = busy_found r m (λ n. u (suc n)) x in (suc p.0, p.1, p.2))
    (or_cases (u 0 && q == r) (busy r m (λ n. u (suc n))) e)

pub first_low : (n r : ℕ) (m : List ℕ) (u : ℕ → Bool) → r ≤ first_free n r m u
first_low zero r m u = omega arith
first_low (suc n) r m u =
    cond_both (busy r m u) (first_free n (suc r) m u) r (λ x. r ≤ x)
    (λ e. let s = first_low n (suc r) m u in omega (arith, s)) (λ e. omega arith)

-- the first one that holds none is above all by one at most, or where the search begins
first_within : (n r k : ℕ) (m : List ℕ) (u : ℕ → Bool) → top 0 m u < k → r ≤ k → first_free n r m u ≤ k
first_within zero r k m u lt le = le
first_within (suc n) r k m u lt le =
    cond_both (busy r m u) (first_free n (suc r) m u) r (λ x. x ≤ k)
    (λ e.
    let p = busy_found r m u e in
    let t = top_place 0 m u p.0 p.1 in
    first_within n (suc r) k m u lt (omega (arith, lt, t, p.2)))
    (λ e. le)

pub first_apart : (n r : ℕ) (m : List ℕ) (u : ℕ → Bool) (i : ℕ) → 1 ≤ r → top 0 m u < r + n → u i ≡ true →
    place m i ≡ first_free n r m u → ⊥
first_apart zero r m u i le lt y e = let t = top_place 0 m u i y in absurd (omega (arith, t, e))
first_apart (suc n) r m u i le lt y e =
    cond_both (busy r m u) (first_free n (suc r) m u) r (λ x. place m i ≡ x → ⊥)
    (λ c z. first_apart n (suc r) m u i (omega arith) (omega arith) y z)
    (λ c z. clash (sym (busy_place r m u i le y z) ∙ c)) e

picked_apart : (h s : ℕ) (m : List ℕ) (u : ℕ → Bool) (i : ℕ) → 1 ≤ s → u i ≡ true → place m i ≡ picked h s m u → ⊥
picked_apart h s m u i le y e =
    cond_both (nat_lt 0 h && not (busy h m u)) h (first_free (top 0 m u) s m u) (λ x. place m i ≡ x → ⊥)
    (λ c z.
    let p = and_parts (nat_lt 0 h) (not (busy h m u)) c in
    let one = ltb-true 0 h p.0 in
    clash (sym (busy_place h m u i (omega (arith, one)) y z) ∙ not-true (busy h m u) p.1))
    (λ c z. first_apart (top 0 m u) s m u i le (omega (arith, le)) y z) e

-- the register of a new variable is no other's that is used
pub free_apart : (m : List ℕ) (u : ℕ → Bool) (e : ATm) (i : ℕ) → u i ≡ true → place m i ≡ free m u e → ⊥
free_apart m u e i y z = picked_apart (wanted e 0) (suc (arguments e)) m u i (omega arith) y z

picked_within : (h s k : ℕ) (m : List ℕ) (u : ℕ → Bool) → 1 ≤ s → top 0 m u < k → h ≤ k → s ≤ k →
    (1 ≤ picked h s m u) × (picked h s m u ≤ k)
picked_within h s k m u one lt hk sk =
    cond_both (nat_lt 0 h && not (busy h m u)) h (first_free (top 0 m u) s m u) (λ x. (1 ≤ x) × (x ≤ k))
    (λ c. let l = ltb-true 0 h (and_parts (nat_lt 0 h) (not (busy h m u)) c).0 in (omega (arith, l), hk))
    (λ c. let f = first_low (top 0 m u) s m u in (omega (arith, one, f), first_within (top 0 m u) s k m u lt sk))

argument_within : (j : ℕ) (vs : List AVal) (n : ℕ) → argument j vs n < suc (j + length vs)
argument_within j [] n = omega arith
argument_within j (v ∷ vs) n =
    cond_both (names v n) j (argument (suc j) vs n) (λ x. x < suc (j + suc (length vs)))
    (λ c. omega arith) (λ c. let r = argument_within (suc j) vs n in omega (arith, r))

-- the end wants a variable in the register of one of its arguments, or in the first one
wanted_within : (e : ATm) (n : ℕ) → wanted e n ≤ suc (arguments e)
wanted_within (Let x e) n = wanted_within e (suc n)
wanted_within (Call v ts vs) n = let r = argument_within 1 vs n in omega (arith, r)
wanted_within (If0 v a b) n = wanted_within a n
wanted_within (Halt v) n = cond_both (names v n) 1 0 (λ x. x ≤ 1) (λ c. omega arith) (λ c. omega arith)

-- it is above all that are used, or above the arguments of the end, by one at most
pub free_within : (k : ℕ) (m : List ℕ) (u : ℕ → Bool) (e : ATm) → top 0 m u < k → arguments e < k →
    (1 ≤ free m u e) × (free m u e ≤ k)
free_within k m u e lt more =
    let w = wanted_within e 0 in
    picked_within (wanted e 0) (suc (arguments e)) k m u (omega arith) lt (omega (arith, w, more)) (omega (arith, more))

-- a spare register is the given one or the next, and not r
pub spare_apart : (r t : ℕ) → (t ≤ other_than r t) × (other_than r t ≤ suc t) × (r ≡ other_than r t → ⊥)
spare_apart r t =
    cond_both (r == t) (suc t) t (λ s. (t ≤ s) × (s ≤ suc t) × (r ≡ s → ⊥))
    (λ c. let same = eqb-true r t c in (omega arith, omega arith, λ z. absurd (omega (arith, same, z))))
    (λ c. (omega arith, omega arith, λ z. clash (sym (eq-eqb r t z) ∙ c)))
