-- Of registers one after the other, one more than there are variables, one holds none.
use Rattle.std.proofs.Common.{◌≡◌, ℕ, zero, suc, ◌+◌, ◌<◌, ◌≤◌, List, [], ◌∷◌, length, refl, sym, ap}
use Rattle.std.proofs.Common.{◌∙◌, arith, ⊎_elim}
use Rattle.std.specs.Prelude.{Bool, true, false, ◌&&◌, ◌||◌, ◌==◌, ◌^◌, not}
use Rattle.std.proofs.lemmas.Bool.{ne_eqb, eqb-true}
use Rattle.t_gen.specs.Uses.{mem}
use Rattle.t_gen_rules.specs.Gen.{busy}
use Rattle.t_gen.specs.Registers.{Holds, Room}
use Rattle.t_gen.specs.declared.registers.Registers.{Registers}
use Rattle.t_gen.proofs.Gapped.{clash}
use Rattle.idx_core.proofs.Bools.{either as bool_cases}

abbrev keep : Bool → ℕ → List ℕ → List ℕ
keep true x xs = xs
keep false x xs = x ∷ xs

-- the list without a number
abbrev without : ℕ → List ℕ → List ℕ
without q [] = []
without q (x ∷ xs) = keep (x == q) x (without q xs)

keep_few : (b : Bool) (x n : ℕ) (ys : List ℕ) → length ys ≤ n → length (keep b x ys) ≤ suc n
keep_few true x n ys le = omega arith
keep_few false x n ys le = omega arith

few : (q : ℕ) (xs : List ℕ) → length (without q xs) ≤ length xs
few q [] = omega arith
few q (x ∷ xs) = keep_few (x == q) x (length xs) (without q xs) (few q xs)

keep_fewer : (b c : Bool) (x n : ℕ) (ys : List ℕ) → (b || c) ≡ true → length ys ≤ n →
    (c ≡ true → suc (length ys) ≤ n) → suc (length (keep b x ys)) ≤ suc n
keep_fewer true c x n ys e le f = omega arith
keep_fewer false c x n ys e le f = omega (arith, f e)

fewer : (q : ℕ) (xs : List ℕ) → mem xs q ≡ true → suc (length (without q xs)) ≤ length xs
fewer q [] e = absurd (clash e refl)
fewer q (x ∷ xs) e =
    keep_fewer (x == q) (mem xs q) x (length xs) (without q xs) e (few q xs) (λ y. fewer q xs y)

or_none : (a b c : Bool) → (b ≡ false → c ≡ false) → (a || b) ≡ false → (a || c) ≡ false
or_none true b c f e = absurd (clash refl e)
or_none false b c f e = f e

keep_left : (b : Bool) (q r x : ℕ) (ys xs : List ℕ) → (x == q) ≡ b → (q ≡ r → ⊥) →
    (mem ys r ≡ false → mem xs r ≡ false) → mem (keep b x ys) r ≡ false → ((x == r) || mem xs r) ≡ false
keep_left true q r x ys xs is ne f e =
    ap (λ c. c || mem xs r) (ne_eqb x r (λ z. ne (sym (eqb-true x q is) ∙ z))) ∙ f e
keep_left false q r x ys xs is ne f e = or_none (x == r) (mem ys r) (mem xs r) f e

left : (q r : ℕ) (xs : List ℕ) → (q ≡ r → ⊥) → mem (without q xs) r ≡ false → mem xs r ≡ false
left q r [] ne e = refl
left q r (x ∷ xs) ne e =
    keep_left (x == q) q r x (without q xs) xs refl ne (λ y. left q r xs ne y) e

-- a number that is not in the list, of one more than it has from s on
outside : (n s : ℕ) (xs : List ℕ) → length xs ≤ n → (r : ℕ) × (s ≤ r) × (r ≤ s + n) × (mem xs r ≡ false)
outside zero s [] le = (s, omega arith, omega arith, refl)
outside zero s (x ∷ xs) le = absurd (omega arith)
outside (suc n) s xs le = ⊎_elim
    (λ (y : mem xs s ≡ true).
    let f = fewer s xs y in
    let o = outside n (suc s) (without s xs) (omega (arith, le, f)) in
    (o.0, omega (arith, o.1), omega (arith, o.2), left s o.0 xs (λ z. absurd (omega (arith, z, o.1))) o.3))
    (λ (z : mem xs s ≡ false). (s, omega arith, omega arith, z))
    (bool_cases (mem xs s))

both_none : (x a b c : Bool) → (b ≡ false → c ≡ false) → (a || b) ≡ false → ((x && a) || c) ≡ false
both_none x true b c f e = absurd (clash refl e)
both_none true false b c f e = f e
both_none false false b c f e = f e

not_busy : (r : ℕ) (m : List ℕ) (u : ℕ → Bool) → mem m r ≡ false → busy r m u ≡ false
not_busy r [] u e = refl
not_busy r (q ∷ m) u e =
    both_none (u 0) (q == r) (mem m r) (busy r m (λ n. u (suc n))) (not_busy r m (λ n. u (suc n))) e

-- where those of some variables are let go
pub room_of : (s : Registers) (m : List ℕ) (u h : ℕ → Bool) (a : ℕ) → length m + a + 1 < 2 ^ 64 →
    Holds s (λ r. busy r m u && not (h r)) → Room s a
room_of s m u h a lt k =
    let o = outside (length m) a m (omega arith) in (
      (λ r. busy r m u && not (h r)),
      o.0,
      k,
      o.1,
      omega (arith, lt, o.2),
      ap (λ b. b && not (h o.0)) (not_busy o.0 m u o.3),
    )
