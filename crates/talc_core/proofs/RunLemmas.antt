-- A program that goes on after so many steps has not halted before.
use Rattle.std.proofs.Common.{◌≡◌, ℕ, ℤ, ◌<◌, ◌≤◌, subst, arith, ⊎_elim}
use Rattle.std.proofs.lemmas.Bool.{cases_lt}
use Rattle.t_terms.specs.Tree.{TProg}
use Rattle.t_rules.specs.Machine.{State, Place, HaltedWith, HaltedAfter, After, GoesOnAfter}
use Rattle.talc_core.specs.TextLaws.{TextLaws}

module _ (laws : TextLaws) where
  -- there is no state after more steps than it takes to halt
  no_later : (P : TProg) (n m : ℕ) (i : ℤ) (t : State) (q : Place) → HaltedAfter P n i → After P m t q → n < m → ⊥
  no_later P n m i t q h run lt = omega (arith, laws.halting_is_last P n m i t q h run)

  halted_state : (P : TProg) (n : ℕ) (i : ℤ) (t : State) (q : Place) → HaltedAfter P n i → After P n t q →
      HaltedWith t i
  halted_state P n i t q h run = subst (λ u. HaltedWith u i) (laws.one_run P n h.0 t h.1 q h.2 run).0 h.3

  pub going_not_halted : (P : TProg) (n m : ℕ) (i : ℤ) → HaltedAfter P n i → GoesOnAfter P m → n ≤ m → ⊥
  going_not_halted P n m i h k le = ⊎_elim
      (λ (lt : n < m). no_later P n m i k.0 k.1 h k.2 lt)
      (λ (ge : m ≤ n). let e : n ≡ m = omega arith in
      k.3 i (halted_state P m i k.0 k.1 (subst (λ a. HaltedAfter P a i) e h) k.2))
      (cases_lt n m)
