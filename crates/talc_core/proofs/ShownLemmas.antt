-- What is shown of the run of a text's program is one answer.
use Rattle.std.proofs.Common.{◌≡◌, ℕ, ℤ, ◌≤◌, List, refl, subst, arith}
use Rattle.t_terms.specs.Tree.{TProg}
use Rattle.t_terms.specs.Spanned.{SProg}
use Rattle.t_rules.specs.Machine.{HaltedWith, HaltedAfter}
use Rattle.t_rules.proofs.OneStep.{halted_one as one_integer}
use Rattle.talc_core.specs.declared.status.Status.{Status}
use Rattle.talc_core.specs.declared.status.Status.TheVariants.{Done, Refused, Usage, Limit, Budget, ReadFault}
use Rattle.talc_core.specs.declared.status.Status.TheVariants.{WriteFault, Memory}
use Rattle.talc_core.specs.FirstFault.{IsAcceptedText}
use Rattle.talc_core.specs.Shown.{ShowsOfRun}
use Rattle.talc_core.specs.TextLaws.{TextLaws}
use Rattle.talc_core.proofs.FaultLemmas.{same_program}

module _ (laws : TextLaws) where
  pub same_steps : (P : TProg) (n m : ℕ) (i j : ℤ) → HaltedAfter P n i → HaltedAfter P m j → n ≡ m
  same_steps P n m i j x y =
      let le : m ≤ n = laws.halting_is_last P n m i y.0 y.1 x y.2 in
      let ge : n ≤ m = laws.halting_is_last P m n j x.0 x.1 y x.2 in
      omega (arith, le, ge)

  pub same_value : (P : TProg) (n : ℕ) (i j : ℤ) → HaltedAfter P n i → HaltedAfter P n j → i ≡ j
  same_value P n i j x y =
      one_integer x.0 i j x.3 (subst (λ s. HaltedWith s j) (laws.one_run P n y.0 x.0 y.1 x.1 y.2 x.2).0 y.3)

abbrev Lines : Type 1
Lines = List ℕ → SProg → List ℕ → Type 0

module _ (laws : TextLaws) (H R : Lines)
    (halted : (text : List ℕ) (P : SProg) (a b : List ℕ) → H text P a → H text P b → a ≡ b)
    (running : (text : List ℕ) (P : SProg) (a b : List ℕ) → R text P a → R text P b → a ≡ b)
    (not_both : (text : List ℕ) (P : SProg) (a b : List ℕ) → H text P a → R text P b → ⊥) where
  -- one program is read of a text
  there : (text : List ℕ) (a b : SProg) → IsAcceptedText text a → IsAcceptedText text b → a ≡ b
  there text a b x y = same_program laws text a b x.0 y.0

  pub one_shown : (s u : Status) (text a b : List ℕ) → ShowsOfRun H R s text a → ShowsOfRun H R u text b →
      (s ≡ u) × (a ≡ b)
  one_shown Done Done text a b x y =
      (refl, halted text x.0 a b x.2 (subst (λ P. H text P b) (there text y.0 x.0 y.1 x.1) y.2))
  one_shown Budget Budget text a b x y =
      (refl, running text x.0 a b x.2 (subst (λ P. R text P b) (there text y.0 x.0 y.1 x.1) y.2))
  one_shown Done Budget text a b x y =
      absurd (not_both text x.0 a b x.2 (subst (λ P. R text P b) (there text y.0 x.0 y.1 x.1) y.2))
  one_shown Budget Done text a b x y =
      absurd (not_both text y.0 b a y.2 (subst (λ P. R text P a) (there text x.0 y.0 x.1 y.1) x.2))
  one_shown Done Refused text a b x y = absurd y
  one_shown Done Usage text a b x y = absurd y
  one_shown Done Limit text a b x y = absurd y
  one_shown Done ReadFault text a b x y = absurd y
  one_shown Done WriteFault text a b x y = absurd y
  one_shown Done Memory text a b x y = absurd y
  one_shown Budget Refused text a b x y = absurd y
  one_shown Budget Usage text a b x y = absurd y
  one_shown Budget Limit text a b x y = absurd y
  one_shown Budget ReadFault text a b x y = absurd y
  one_shown Budget WriteFault text a b x y = absurd y
  one_shown Budget Memory text a b x y = absurd y
  one_shown Refused u text a b x y = absurd x
  one_shown Usage u text a b x y = absurd x
  one_shown Limit u text a b x y = absurd x
  one_shown ReadFault u text a b x y = absurd x
  one_shown WriteFault u text a b x y = absurd x
  one_shown Memory u text a b x y = absurd x
