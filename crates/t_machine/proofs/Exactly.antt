-- The answers of runs are exact.
use Rattle.std.proofs.Common.{◌≡◌, ℕ, ◌+◌, ◌<◌, ◌≤◌, subst, arith, ⊎_elim}
use Rattle.std.proofs.lemmas.Bool.{cases_lt}
use Rattle.std.specs.Prelude.{ℤ}
use Rattle.t_terms.specs.Tree.{TProg}
use Rattle.t_rules.specs.Machine.{State, Place, HaltedWith, After, GoesOnAfter}
use Rattle.t_rules.specs.Machine.{HaltedAfter}
use Rattle.t_machine.specs.ProgramLaws.{ProgramLaws}
use Rattle.t_machine.specs.Runs.{HaltedExactly, SpentExactly}
use Rattle.t_machine.specs.declared.machine.Ran.TheVariants.{Halted, Spent, NoMemory}

module _ (laws : ProgramLaws) where
  -- there is no state after more steps than it takes to halt
  no_later : (P : TProg) (n m : ℕ) (i : ℤ) (t : State) (q : Place) → HaltedAfter P n i → After P m t q → n < m → ⊥
  no_later P n m i t q h run lt = omega (arith, laws.last P n m i t q h run)

  halted_state : (P : TProg) (n : ℕ) (i : ℤ) (t : State) (q : Place) → HaltedAfter P n i → After P n t q →
      HaltedWith t i
  halted_state P n i t q h run = subst (λ u. HaltedWith u i) (laws.one P n h.0 t h.1 q h.2 run).0 h.3

  both_halted : (P : TProg) (n m : ℕ) (i j : ℤ) → HaltedAfter P n i → HaltedAfter P m j → (i ≡ j) × (n ≡ m)
  both_halted P n m i j h k = ⊎_elim
      (λ (lt : n < m). absurd (no_later P n m i k.0 k.1 h k.2 lt))
      (λ (ge : m ≤ n). ⊎_elim
      (λ (lt : m < n). absurd (no_later P m n j h.0 h.1 k h.2 lt))
      (λ (le : n ≤ m).
      (laws.answers P n m i j (n, omega arith, h) (m, omega arith, k), omega arith))
      (cases_lt m n))
      (cases_lt n m)

  pub going_not_halted : (P : TProg) (n m : ℕ) (i : ℤ) → HaltedAfter P n i → GoesOnAfter P m → n ≤ m → ⊥
  going_not_halted P n m i h k le = ⊎_elim
      (λ (lt : n < m). no_later P n m i k.0 k.1 h k.2 lt)
      (λ (ge : m ≤ n). let e : n ≡ m = omega arith in
      k.3 i (halted_state P m i k.0 k.1 (subst (λ a. HaltedAfter P a i) e h) k.2))
      (cases_lt n m)

  pub halted_exactly : HaltedExactly
  halted_exactly P whole acc m n (Halted value made) ran i k le h =
      let same = both_halted P (m + made) (m + k) value i ran.1 h in
      let e = same.1 in
      (same.0, omega arith)
  halted_exactly P whole acc m n Spent ran i k le h = going_not_halted P (m + k) (m + n) i h ran (omega arith)
  halted_exactly P whole acc m n (NoMemory made) ran i k le h =
      let run = ran.1.6 in
      ⊎_elim
      (λ (lt : made < k). lt)
      (λ (ge : k ≤ made). ⊎_elim
      (λ (lt : k < made). absurd (no_later P (m + k) (m + made) i _ _ h run (omega arith)))
      (λ (same : made ≤ k).
      let e : m + k ≡ m + made = omega arith in
      absurd (halted_state P (m + made) i _ _ (subst (λ a. HaltedAfter P a i) e h) run))
      (cases_lt k made))
      (cases_lt made k)

  pub spent_exactly : SpentExactly
  spent_exactly P whole acc m n (Halted value made) ran goes = let le = ran.0 in
      going_not_halted P (m + made) (m + n) value ran.1 goes (omega arith)
  spent_exactly P whole acc m n Spent ran goes = tt
  spent_exactly P whole acc m n (NoMemory made) ran goes = tt
