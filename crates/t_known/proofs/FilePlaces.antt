-- The registers of a file by their places: a file fits where each of them does.
use Rattle.std.proofs.Common.{◌≡◌, ℕ, zero, suc, ◌+◌, ◌<◌, ◌≤◌, ◌⊎◌, inl, inr, Bool, IsTrue, ◌↔◌, List, [], ◌∷◌, length}
use Rattle.std.proofs.Common.{Some, None, refl, sym, ◌∙◌, arith, subst}
use Rattle.std.specs.Prelude.{option_map, slice_get, IfSome}
use Rattle.std.proofs.lemmas.Bool.{cases_lt}
use Rattle.std.proofs.lemmas.Option.{same_Some}
use Rattle.t_types.specs.Tree.{Ty, CodeTy, TFile, NoRegs, MoreRegs}
use Rattle.t_types.specs.Fits.{FitsFile, RegTypes}
use Rattle.t_intern.specs.Nodes.{at, regs_at, RegsBelow}
use Rattle.t_known.specs.Fitted.{FitsPlace, reg_in}
use Rattle.t_rules.specs.Faults.{KnownFits}
use Rattle.t_known.specs.Parts.{IsRegsOf, with_type}

module _ (ts : List Ty) where
  -- the file of a code type that owes nothing
  pub file_is : (n : ℕ) (xs : List (ℕ × ℕ)) (f : TFile) → IsRegsOf ts n xs → at ts n ≡ CodeTy 0 f → regs_at ts xs ≡ f
  file_is n xs f h e =
      let code = h.0 in
      let both : CodeTy code.0 (regs_at ts xs) ≡ CodeTy 0 f = sym code.1 ∙ e in
      cc

  -- a file by the numbers of its types
  pub reg_got : (xs : List (ℕ × ℕ)) (i : ℕ) → option_map (with_type ts) (slice_get xs i) ≡ reg_in (regs_at ts xs) i
  reg_got [] i = refl
  reg_got (x ∷ xs) zero = refl
  reg_got (x ∷ xs) (suc i) = reg_got xs i

  pub reg_past : (xs : List (ℕ × ℕ)) (i : ℕ) → length xs ≤ i → reg_in (regs_at ts xs) i ≡ None
  reg_past [] i le = refl
  reg_past (x ∷ xs) zero le = absurd (omega (arith, le))
  reg_past (x ∷ xs) (suc i) le = reg_past xs i (omega (arith, le))

pub got_below : (n : ℕ) (xs : List (ℕ × ℕ)) (i : ℕ) → RegsBelow n xs → IfSome (slice_get xs i) (λ (x : ℕ × ℕ). x.1 < n)
got_below n [] i h = tt
got_below n (x ∷ xs) zero h = h.0
got_below n (x ∷ xs) (suc i) h = got_below n xs i h.1

module _ (g : RegTypes) where
  fits_as : (x y : ℕ × Ty) → Some x ≡ Some y → KnownFits g x.0 x.1 → KnownFits g y.0 y.1
  fits_as x y e h = subst (λ (z : ℕ × Ty). KnownFits g z.0 z.1) (same_Some x y e) h

  pub fits_places : (f : TFile) → FitsFile g f → (i : ℕ) → FitsPlace g f i
  fits_places NoRegs h i r t e = cc
  fits_places (MoreRegs q u f) h zero r t e = fits_as (q, u) (r, t) e h.0
  fits_places (MoreRegs q u f) h (suc i) r t e = fits_places f h.1 i r t e

  places_fit : (f : TFile) → ((i : ℕ) → FitsPlace g f i) → FitsFile g f
  places_fit NoRegs h = tt
  places_fit (MoreRegs q u f) h = (h zero q u refl, places_fit f (λ i r t e. h (suc i) r t e))

  -- those before a place fit, and the file has no others
  pub all_fit : (f : TFile) (n i : ℕ) → ((j : ℕ) → j < i → FitsPlace g f j) → n ≤ i →
      ((j : ℕ) → n ≤ j → reg_in f j ≡ None) → FitsFile g f
  all_fit f n i before le past = places_fit f (λ j. pick j (cases_lt j n))
    where
      pick : (j : ℕ) → (j < n) ⊎ (n ≤ j) → FitsPlace g f j
      pick j (inl lt) = before j (omega (arith, lt, le))
      pick j (inr more) = λ r t e. let none = past j more in cc

  -- one more of them
  pub place_more : (f : TFile) (i : ℕ) → FitsPlace g f i → ((j : ℕ) → j < i → FitsPlace g f j) →
      (j : ℕ) → j < i + 1 → FitsPlace g f j
  place_more f i here before j lt = pick (cases_lt j i)
    where
      pick : (j < i) ⊎ (i ≤ j) → FitsPlace g f j
      pick (inl l) = before j l
      pick (inr le) = let same : i ≡ j = omega arith in subst (λ n. FitsPlace g f n) same here

  -- what is told of the register at a place
  pub place_by : (f : TFile) (i r : ℕ) (u : Ty) (b : Bool) → reg_in f i ≡ Some (r, u) → (IsTrue b ↔ KnownFits g r u) →
      IsTrue b ↔ FitsPlace g f i
  place_by f i r u b e h = ((λ y q t named. fits_as (r, u) (q, t) (sym e ∙ named) (h.0 y)), λ a. h.1 (a r u e))
