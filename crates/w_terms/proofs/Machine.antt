-- Words, memory, labels and runs, for every proof over the machine.
use Rattle.std.proofs.Common.{◌≡◌, ◌≢◌, ℕ, zero, suc, ◌+◌, ◌-◌, ◌/◌, ◌%◌, ◌<◌, ◌≤◌, ◌^◌, nat_eq, cond, true, false}
use Rattle.std.proofs.Common.{List}
use Rattle.std.proofs.Common.{◌∷◌, Option, Some, None, refl, ap, ap₂, ◌∙◌, arith, option_and_then, ⊎_elim, ◌⊎◌, inl}
use Rattle.std.proofs.Common.{inr}
use Rattle.std.specs.Prelude.{option_map}
use Rattle.std.proofs.lemmas.Bool.Decides.{eqb_tells}
use Rattle.w_terms.specs.Tree.{WSeq, WThen, WJump, WGoto, WExit}
use Rattle.w_terms.specs.Machine.{WState, WAt, Written, ExitsWith, Memory, with_word, byte_at, bytes_at, label_at}
use Rattle.w_terms.specs.Machine.{wstep, wrun}

-- a difference of words
pub difference : (a b : ℕ) → a ≤ b → b < 2 ^ 64 → (b + (2 ^ 64 - a)) % 2 ^ 64 ≡ b - a
difference a b le lt = omega (arith, le, lt)

-- the label of an address
pub found : (place : ℕ → ℕ) (n l : ℕ) → l < n →
    ((k j : ℕ) → k < n → j < n → place k ≡ place j → k ≡ j) → label_at place n (place l) ≡ Some l
found place zero l lt one = absurd (omega (arith, lt))
found place (suc n) l lt one = ⊎_elim
    (λ (p : (nat_eq (place n) (place l) ≡ true) × (place n ≡ place l)).
    ap (λ x. cond x (Some n) (label_at place n (place l))) p.0 ∙ ap Some (one n l (omega arith) lt p.1))
    (λ (p : (nat_eq (place n) (place l) ≡ false) × (place n ≢ place l)).
    let other : n ≢ l = λ e. p.1 (ap place e) in
    ap (λ x. cond x (Some n) (label_at place n (place l))) p.0
    ∙ found place n l (omega (arith, lt, other)) (λ k j a b. one k j (omega (arith, a)) (omega (arith, b))))
    (eqb_tells (place n) (place l))

-- what is written at a number, and what stands elsewhere
module _ {A : Type 0} (f : ℕ → A) (k : ℕ) (x : A) where
  pub written_here : (q : ℕ) → k ≡ q → with_word f k x q ≡ x
  written_here q e = ⊎_elim
      (λ (p : (nat_eq k q ≡ true) × (k ≡ q)). ap (λ b. cond b x (f q)) p.0)
      (λ (p : (nat_eq k q ≡ false) × (k ≢ q)). absurd (p.1 e))
      (eqb_tells k q)

  pub written_apart : (q : ℕ) → k ≢ q → with_word f k x q ≡ f q
  written_apart q ne = ⊎_elim
      (λ (p : (nat_eq k q ≡ true) × (k ≡ q)). absurd (ne p.1))
      (λ (p : (nat_eq k q ≡ false) × (k ≢ q)). ap (λ b. cond b x (f q)) p.0)
      (eqb_tells k q)

  pub written_cases : (q : ℕ) → ((k ≡ q) × (with_word f k x q ≡ x)) ⊎ ((k ≢ q) × (with_word f k x q ≡ f q))
  written_cases q = ⊎_elim
      (λ (p : (nat_eq k q ≡ true) × (k ≡ q)). inl (p.1, written_here q p.1))
      (λ (p : (nat_eq k q ≡ false) × (k ≢ q)). inr (p.1, written_apart q p.1))
      (eqb_tells k q)

-- bytes of words that two memories share
byte_same : (x y : Memory) (a : ℕ) → x (a - a % 8) ≡ y (a - a % 8) → byte_at x a ≡ byte_at y a
byte_same x y a e = ap (option_map (λ w. (w / 256 ^ (a % 8)) % 256)) e

pub bytes_same : (x y : Memory) (n a : ℕ) → ((b : ℕ) → b < a + n → x b ≡ y b) → bytes_at x a n ≡ bytes_at y a n
bytes_same x y zero a e = refl
bytes_same x y (suc n) a e =
    ap₂ (λ b bs. option_and_then (λ c. option_map (λ cs. c ∷ cs) bs) b)
    (byte_same x y a (e (a - a % 8) (omega arith)))
    (bytes_same x y n (suc a) (λ b lt. e b (omega (arith, lt))))

-- so many steps, and then more
pub run_join : (place : ℕ → ℕ) (blocks : List WSeq) (m n : ℕ) (x y : WState) (z : Option WState) →
    wrun place blocks m x ≡ Some y → wrun place blocks n y ≡ z → wrun place blocks (m + n) x ≡ z
run_join place blocks zero n x y z e f =
    let same : x ≡ y = cc in
    let none : 0 + n ≡ n = omega arith in
    ap (λ k. wrun place blocks k x) none ∙ ap (wrun place blocks n) same ∙ f
run_join place blocks (suc m) n x y z e f =
    let more : suc m + n ≡ suc (m + n) = omega arith in
    ap (λ k. wrun place blocks k x) more
    ∙ go (λ u g. run_join place blocks m n u y z g f) (wstep place blocks x) e
  where
    go : ((u : WState) → wrun place blocks m u ≡ Some y → wrun place blocks (m + n) u ≡ z) → (o : Option WState) →
        option_and_then (wrun place blocks m) o ≡ Some y → option_and_then (wrun place blocks (m + n)) o ≡ z
    go next None e = cc
    go next (Some u) e = next u e

-- an exit has no step
pub exit_last : (place : ℕ → ℕ) (blocks : List WSeq) (x : WState) (status : ℕ) (out : List Written) →
    ExitsWith x status out → wstep place blocks x ≡ None
exit_last place blocks (WAt r m log (WExit n)) status out e = refl
exit_last place blocks (WAt r m log (WThen i c)) status out e = absurd e
exit_last place blocks (WAt r m log (WJump l)) status out e = absurd e
exit_last place blocks (WAt r m log (WGoto q)) status out e = absurd e
