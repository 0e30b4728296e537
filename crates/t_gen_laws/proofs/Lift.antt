-- The erased machine with its entries, and the typed machine of an accepted program.
use Rattle.std.proofs.Common.{◌≡◌, ℕ, zero, suc, ◌==◌, cond, ◌≤◌, List, [], ◌∷◌, Option, Some, None, refl, sym, ap}
use Rattle.std.proofs.Common.{◌∙◌, subst, arith, slice_get, ⊎_elim}
use Rattle.std.specs.Prelude.{ℤ, count_by, option_map, option_and_then}
use Rattle.std.proofs.lemmas.List.Sums.{sum_by-cons}
use Rattle.std.proofs.lemmas.Bool.{cases_eq, eq-eqb, ne_eqb}
use Rattle.t_terms.specs.Tree.{TBlock, TProg}
use Rattle.t_terms.specs.Whole.{WellFormedProgram}
use Rattle.t_rules.specs.Rules.{Accepted}
use Rattle.t_rules.specs.Machine.{State, Place, After, HaltsWithin}
use Rattle.t_rules.specs.Times.{entries}
use Rattle.t_rules.specs.Erase.{ESeq, EState, EAt, EStep, EGoes, no_ewords, erase, erase_block, erase_blocks}
use Rattle.t_rules.specs.Erase.{erase_heap, estep, EHaltedWith}
use Rattle.t_rules.specs.ErasedRuns.{ERun, EOn, went, onward, erun_first, begun, RunsErase, HaltsErased, StepsFirst}
use Rattle.t_gen_laws.specs.Counting.{one, count}
use Rattle.t_gen_laws.proofs.Leads.{LState, On, logged, lstep, so, after}

-- a run without its place
abbrev placeless : ERun → LState
placeless (EOn e p log) = On e log

step_placeless : (B : List ESeq) (x : ERun) → option_map placeless (onward B x) ≡ lstep B (placeless x)
step_placeless B (EOn e p log) = go (estep B e)
  where
    go : (o : Option EStep) → option_map placeless (option_map (went p log) o) ≡ option_map (logged log) o
    go None = refl
    go (Some (EGoes k f)) = refl

after_placeless : (B : List ESeq) (m : ℕ) (x : ERun) → option_map placeless (erun_first B m x) ≡ after B m (placeless x)
after_placeless B zero x = refl
after_placeless B (suc m) x = go (onward B x) (lstep B (placeless x)) (step_placeless B x) (λ y. after_placeless B m y)
  where
    go : (o : Option ERun) (q : Option LState) → option_map placeless o ≡ q →
        ((y : ERun) → option_map placeless (erun_first B m y) ≡ after B m (placeless y)) →
        option_map placeless (option_and_then (erun_first B m) o) ≡ so q (after B m)
    go None q e f = ap (λ r. so r (after B m)) e
    go (Some y) q e f = f y ∙ ap (λ r. so r (after B m)) e

-- the state is halted with the integer i
abbrev pub HaltsAt : LState → ℤ → Type 0
HaltsAt (On e log) i = EHaltedWith e i

-- the erased start
abbrev pub start_of : TProg → TBlock → LState
start_of P b = On (EAt (erase_heap P) no_ewords (erase_block b)) (0 ∷ [])

pub count_same : (l : ℕ) (xs : List ℕ) → count_by (λ x. x == l) xs ≡ count l xs
count_same l [] = refl
count_same l (x ∷ xs) =
    let a = sum_by-cons (λ y. cond (y == l) 1 0) x xs in
    let b : cond (x == l) 1 0 ≡ one (l == x) = ⊎_elim
    (λ e. ap (λ q. cond q 1 0) (eq-eqb x l e) ∙ sym (ap one (eq-eqb l x (sym e))))
    (λ ne. ap (λ q. cond q 1 0) (ne_eqb x l ne) ∙ sym (ap one (ne_eqb l x (λ e. ne (sym e)))))
    (cases_eq x l) in
    omega (arith, a, b, count_same l xs)

module _ (runs : RunsErase) (halts : HaltsErased) (first : StepsFirst) (P : TProg) (whole : WellFormedProgram P)
    (acc : Accepted P)
    (b : TBlock) (there : slice_get P.blocks 0 ≡ Some b) where
  abbrev B : List ESeq
  B = erase_blocks P

  -- a run of the typed machine is one of the erased machine, with the same entries
  pub run_logged : (m : ℕ) (s : State) (p : Place) (run : After P m s p) →
      after B m (start_of P b) ≡ Some (On (erase s) (entries P m s p run))
  run_logged m s p run =
      sym (after_placeless B m (begun P b))
      ∙ ap (option_map placeless) (first B m (begun P b) ∙ runs P whole acc b there m s p run)

  -- where the erased machine halts the typed one does
  pub halts_typed : (m : ℕ) (e : EState) (log : List ℕ) (i : ℤ) → after B m (start_of P b) ≡ Some (On e log) →
      EHaltedWith e i → HaltsWithin P m i
  halts_typed m e log i h k = go (erun_first B m (begun P b)) refl (after_placeless B m (begun P b) ∙ h)
    where
      go : (o : Option ERun) → erun_first B m (begun P b) ≡ o → option_map placeless o ≡ Some (On e log) →
          HaltsWithin P m i
      go None y x = cc
      go (Some (EOn f p l)) y x =
          let same : f ≡ e = cc in
          (halts P whole acc b there m i).1
          (m, f, p, l, omega arith, sym (first B m (begun P b)) ∙ y, subst (λ z. EHaltedWith z i) (sym same) k)

  -- and the other way round
  pub typed_halts : (n : ℕ) (i : ℤ) → HaltsWithin P n i → (m : ℕ) × (t : LState) × (m ≤ n)
      × (after B m (start_of P b) ≡ Some t) × HaltsAt t i
  typed_halts n i h =
      let z = (halts P whole acc b there n i).0 h in (
        z.0,
        On z.1 z.3,
        z.4,
        sym (after_placeless B z.0 (begun P b))
            ∙ ap (option_map placeless) (first B z.0 (begun P b) ∙ z.5),
        z.6,
      )
