-- Runs of the typed machine and of the erased one, and how runs go on.
use Rattle.std.proofs.Common.{◌≡◌, ◌+◌, ◌-◌, ◌<◌, ℕ, zero, suc, List, [], ◌∷◌, Option, Some, None, refl, sym, ap, ap₂}
use Rattle.std.proofs.Common.{◌∙◌, subst, arith, ⊎_elim, option_and_then}
use Rattle.std.specs.Prelude.{ℤ, option_map}
use Rattle.t_rules.specs.Machine.{State, Step, Place, Spot, After, HaltedWith}
use Rattle.t_rules.specs.Times.{entered_by, entries}
use Rattle.t_rules.specs.Erase.{ESeq, erase, erase_blocks}
use Rattle.t_rules.specs.ErasedRuns.{ERun, EOn, went, onward, erun, erun_first, begun, RunsErase, RunsComeOf}
use Rattle.t_rules.specs.ErasedRuns.{HaltsErased, RunsJoin, StepsFirst, ErasedHaltingIsLast, RunsCountAlike}
use Rattle.t_rules.proofs.OneStep.{step_one, after_one}
use Rattle.t_rules.proofs.Lock.{lockstep, erased_starts, erased_halts_alike, halted_none, halted_erased}
use Rattle.t_rules.proofs.Runs.{runs_on}

pub runs_erase : RunsErase
runs_erase P whole acc b first zero s p run =
    let start = erased_starts P b first in
    let same = after_one P 0 start.1.0 s (Spot 0 0) p start.1.1 run in
    ap (λ x. Some (EOn x (Spot 0 0) (0 ∷ []))) (start.1.2 ∙ ap erase same.0)
    ∙ ap (λ y. Some (EOn (erase s) y (0 ∷ []))) same.1
runs_erase P whole acc b first (suc m) s p run =
    let t = run.0 in
    let q = run.1 in
    let k = run.2 in
    let log = entries P m t q run.3 in
    ap (option_and_then (onward (erase_blocks P))) (runs_erase P whole acc b first m t q run.3)
    ∙ ap (option_map (went q log)) (lockstep P t (whole, acc, (m, q, run.3)) k s run.4)
    ∙ ap (λ y. Some (EOn (erase s) y (entered_by k log))) (sym run.5)

-- where the erased machine has no step, no run is longer
ended : (blocks : List ESeq) (k : ℕ) (x y : ERun) → erun blocks k x ≡ Some y → onward blocks y ≡ None → (d n : ℕ) →
    n ≡ suc d + k → erun blocks n x ≡ None
ended blocks k x y run stop zero n e =
    let next : n ≡ suc k = omega arith in
    subst (λ j. erun blocks j x ≡ None) (sym next) (ap (option_and_then (onward blocks)) run ∙ stop)
ended blocks k x y run stop (suc d) n e =
    let next : n ≡ suc (suc d + k) = omega arith in
    subst (λ j. erun blocks j x ≡ None) (sym next)
    (ap (option_and_then (onward blocks)) (ended blocks k x y run stop d (suc d + k) refl))

pub runs_come_of : RunsComeOf
runs_come_of P whole acc b first m e p log run = ⊎_elim
    (λ (x : (s : State) × (q : Place) × After P m s q).
    let same = sym run ∙ runs_erase P whole acc b first m x.0 x.1 x.2 in
    let place : p ≡ x.1 = cc in
    let state : e ≡ erase x.0 = cc in
    let blocks : log ≡ entries P m x.0 x.1 x.2 = cc in
    subst (λ (y : Place). (s : State) × (r : After P m s y) × (e ≡ erase s) × (log ≡ entries P m s y r)) (sym place)
    (x.0, x.2, state, blocks))
    (λ (x : (k : ℕ) × (s : State) × (q : Place) × (i : ℤ) × (k < m) × After P k s q × HaltedWith s i).
    let le = x.4 in
    let stop : onward (erase_blocks P) (EOn (erase x.1) x.2 (entries P x.0 x.1 x.2 x.5)) ≡ None =
    ap (option_map (went x.2 (entries P x.0 x.1 x.2 x.5)))
    (halted_none (erase_blocks P) (erase x.1) x.3 (halted_erased x.1 x.3 x.6)) in
    let long : m ≡ suc (m - suc x.0) + x.0 = omega arith in
    let none : None ≡ Some (EOn e p log) =
    sym (ended (erase_blocks P) x.0 (begun P b) _ (runs_erase P whole acc b first x.0 x.1 x.2 x.5) stop
    (m - suc x.0) m long) ∙ run in
    cc)
    (runs_on P whole acc m)

pub halts_erased : HaltsErased
halts_erased P whole acc b first n i = (
  (λ h.
      let k = h.2 in
      (h.0, erase k.0, k.1, _, h.1, runs_erase P whole acc b first h.0 k.0 k.1 k.2, halted_erased k.0 i k.3)),
  (λ h.
      let r = runs_come_of P whole acc b first h.0 h.1 h.2 h.3 h.5 in
      let back = (erased_halts_alike P whole acc h.0 (erase_blocks P) h.1 h.2 (refl, (r.0, r.1, r.2)) i).0 h.6 in
      (h.0, h.4, back)),
)

pub runs_join : RunsJoin
runs_join blocks m zero x =
    let e : m + 0 ≡ m = omega arith in ap (λ k. erun blocks k x) e ∙ sym (nothing_more (erun blocks m x))
  where
    nothing_more : (o : Option ERun) → option_and_then (λ y. Some y) o ≡ o
    nothing_more None = refl
    nothing_more (Some y) = refl
runs_join blocks m (suc n) x =
    let e : m + suc n ≡ suc (m + n) = omega arith in
    ap (λ k. erun blocks k x) e ∙ ap (option_and_then (onward blocks)) (runs_join blocks m n x)
    ∙ after_both (erun blocks m x)
  where
    after_both : (o : Option ERun) → option_and_then (onward blocks) (option_and_then (erun blocks n) o)
        ≡ option_and_then (erun blocks (suc n)) o
    after_both None = refl
    after_both (Some y) = refl

-- one step, and then m
one_and_more : (blocks : List ESeq) (m : ℕ) (x : ERun) →
    option_and_then (erun blocks m) (onward blocks x) ≡ erun blocks (suc m) x
one_and_more blocks m x =
    let e : 1 + m ≡ suc m = omega arith in sym (runs_join blocks 1 m x) ∙ ap (λ k. erun blocks k x) e

pub steps_first : StepsFirst
steps_first blocks zero x = refl
steps_first blocks (suc m) x = each (λ y. steps_first blocks m y) (onward blocks x) ∙ one_and_more blocks m x
  where
    each : ((y : ERun) → erun_first blocks m y ≡ erun blocks m y) → (o : Option ERun) →
        option_and_then (erun_first blocks m) o ≡ option_and_then (erun blocks m) o
    each h None = refl
    each h (Some y) = h y

pub erased_halting_is_last : ErasedHaltingIsLast
erased_halting_is_last blocks x m n e p log i run halted lt =
    let stop : onward blocks (EOn e p log) ≡ None = ap (option_map (went p log)) (halted_none blocks e i halted) in
    let long : n ≡ suc (n - suc m) + m = omega arith in
    ended blocks m x _ run stop (n - suc m) n long

pub runs_count_alike : RunsCountAlike
runs_count_alike P zero s t p q run other = (refl, refl)
runs_count_alike P (suc m) s t p q run other =
    let before = runs_count_alike P m run.0 other.0 run.1 other.1 run.3 other.3 in
    let same = after_one P m run.0 other.0 run.1 other.1 run.3 other.3 in
    let to = step_one P other.0 s t run.2 other.2 (subst (λ z. Step P z run.2 s) same.0 run.4) other.4 in
    (ap₂ (λ y ys. y ∷ ys) same.1 before.0, ap₂ entered_by to.0 before.1)
