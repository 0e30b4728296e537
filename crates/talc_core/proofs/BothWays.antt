-- A source term and an accepted program that mean the same: what the one evaluates to, and the other halts with, both
-- ways, and where both go on.
use Rattle.std.proofs.Common.{◌≡◌, ◌∙◌, ◌+◌, ◌*◌, ◌≤◌, ◌<◌, ◌⊎◌, ℕ, ℤ, sym, subst, inl, inr, ⊎_elim, arith}
use Rattle.std.proofs.Math.Logic.{∥∥₁_elim, ∥∥₁_map}
use Rattle.std.proofs.Math.IntN.{ℤ_set}
use Rattle.f_terms.specs.Tm.{Term}
use Rattle.f_terms.specs.Typing.{IsProgram}
use Rattle.f_terms.specs.Eval.{VInt, Gives, Spent, Evaluates, IsSpent}
use Rattle.t_terms.specs.Tree.{TProg, Then, Ends, Jmp, Halt}
use Rattle.t_terms.specs.Whole.{WellFormedProgram}
use Rattle.t_rules.specs.Rules.{Accepted}
use Rattle.t_rules.specs.Machine.{State, At, Where, Step, Place, After, HaltedWith}
use Rattle.t_rules.specs.Machine.{HaltsWithin, Halts, GoesOnAfter}
use Rattle.t_rules.specs.LawsSound.{NoStep, OneStep}
use Rattle.t_rules.specs.Times.{program_size}
use Rattle.pipeline.specs.Meaning.{SameMeaning, HaltsSoon}
use Rattle.talc_core.specs.TextLaws.{TextLaws}
use Rattle.talc_core.proofs.RunLemmas.{going_not_halted}

no_step_halted : (P : TProg) (s t : State) (k : Where) (i : ℤ) → Step P s k t → HaltedWith s i → ⊥
no_step_halted P (At h r (Then j c)) t k i step halted = halted
no_step_halted P (At h r (Ends (Jmp v))) t k i step halted = halted
no_step_halted P (At h r (Ends Halt)) t k i step halted = step

spent_or_value : (e : Term) (n : ℕ) (i : ℤ) → Evaluates e n i → IsSpent e n → ⊥
spent_or_value e n i (left, (st, is)) spent = let clash : Gives (VInt i) left st ≡ Spent = sym is ∙ spent in cc

-- the program halts within n instructions
abbrev Halted : TProg → ℕ → Type 0
Halted P n = (i : ℤ) × HaltsWithin P n i

abbrev Here : TProg → ℕ → Type 0
Here P n = (s : State) × (p : Place) × After P n s p

abbrev Earlier : TProg → ℕ → Type 0
Earlier P n = (k : ℕ) × (s : State) × (p : Place) × (i : ℤ) × (k < n) × After P k s p × HaltedWith s i

module _ (laws : TextLaws) where
  -- an accepted program is halted after so many instructions, or goes on
  pub settled : (P : TProg) → WellFormedProgram P → Accepted P → (n : ℕ) → Halted P n ⊎ GoesOnAfter P n
  settled P whole accepted n = ⊎_elim
      (λ (x : Here P n). ⊎_elim
      (λ (y : ((i : ℤ) × HaltedWith x.0 i) × NoStep P x.0). inl (y.0.0, (n, omega arith, (x.0, x.1, x.2, y.0.1))))
      (λ (y : OneStep P x.0). inr (
        x.0,
        x.1,
        x.2,
        (λ i halted. no_step_halted P x.0 y.1 y.0 i y.2 halted),
        (λ stuck. stuck.1 y.0 y.1 y.2),
      ))
      (laws.halted_or_one_step P x.0 (whole, accepted, (n, x.1, x.2))))
      (λ (x : Earlier P n). let le = x.4 in inl (x.3, (x.0, omega (arith, le), (x.1, x.2, x.5, x.6))))
      (laws.runs_on P whole accepted n)

  halted_not_on : (P : TProg) (n m : ℕ) (i : ℤ) → HaltsWithin P n i → GoesOnAfter P m → n ≤ m → ⊥
  halted_not_on P n m i halts on le =
      let most = halts.1 in going_not_halted laws P halts.0 m i halts.2 on (omega (arith, most, le))

  -- a term and a program that mean the same
  module _ (e : Term) (P : TProg) (program : IsProgram e) (whole : WellFormedProgram P) (accepted : Accepted P)
      (meaning : ∥ SameMeaning e P ∥₁) where
    same_integer : (n m : ℕ) (i j : ℤ) → Evaluates e n i → HaltsWithin P m j → i ≡ j
    same_integer n m i j evaluates halts =
        ∥∥₁_elim meaning (ℤ_set i j) (λ same. laws.one_value e n m i j evaluates (same.back m j halts))

    pub evaluates : (n : ℕ) (i : ℤ) → HaltsWithin P n i → Evaluates e n i
    evaluates n i halts = ⊎_elim
        (λ (x : (j : ℤ) × Evaluates e n j). subst (Evaluates e n) (same_integer n n x.0 i x.1 halts) x.1)
        (λ (spent : IsSpent e n). absurd (∥∥₁_elim meaning (λ a b. absurd a)
        (λ same. spent_or_value e n i (same.back n i halts) spent)))
        (laws.value_or_spent e program n)

    halts_by : (n m : ℕ) (i : ℤ) → Evaluates e n i → ∥ HaltsWithin P m i ∥₁ → HaltsWithin P m i
    halts_by n m i ev halts = ⊎_elim
        (λ (x : Halted P m). subst (HaltsWithin P m) (sym (same_integer n m i x.0 ev x.1)) x.1)
        (λ (on : GoesOnAfter P m). absurd (∥∥₁_elim halts (λ a b. absurd a)
        (λ h. halted_not_on P m m i h on (omega arith))))
        (settled P whole accepted m)

    pub halts : ∥ HaltsSoon e P ∥₁ → (n : ℕ) (i : ℤ) → Evaluates e n i → HaltsWithin P ((n + 1) * program_size P) i
    halts soon n i ev = halts_by n ((n + 1) * program_size P) i ev (∥∥₁_map soon (λ s. s n i ev))

    pub on_where_spent : ((n : ℕ) → IsSpent e n) → (m : ℕ) → GoesOnAfter P m
    on_where_spent spent m = ⊎_elim
        (λ (x : Halted P m). absurd (spent_or_value e m x.0 (evaluates m x.0 x.1) (spent m)))
        (λ (on : GoesOnAfter P m). on)
        (settled P whole accepted m)

    pub spent_where_on : ((m : ℕ) → GoesOnAfter P m) → (n : ℕ) → IsSpent e n
    spent_where_on on n = ⊎_elim
        (λ (x : (i : ℤ) × Evaluates e n i). absurd (∥∥₁_elim meaning (λ a b. absurd a)
        (λ same. let h : Halts P x.0 = same.forth n x.0 x.1 in
        halted_not_on P h.0 h.0 x.0 h.1 (on h.0) (omega arith))))
        (λ (spent : IsSpent e n). spent)
        (laws.value_or_spent e program n)
