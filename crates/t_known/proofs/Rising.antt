-- Files whose registers rise: what is known fits such a file where it fits each register by itself, and a binary search
-- finds a register in it.
use Rattle.std.proofs.Common.{◌≡◌, ◌≢◌, ℕ, zero, suc, ◌+◌, ◌<◌, ◌≤◌, ◌⊎◌, inl, inr, Bool, true, false, cond, nat_eq}
use Rattle.std.proofs.Common.{nat_lt, List, [], ◌∷◌, length, get_or, Option, Some, None, Ok, Err, refl, sym, ap, ◌∙◌}
use Rattle.std.proofs.Common.{arith, subst, IsTrue, ◌↔◌, true≢false}
use Rattle.std.specs.List.{IsAllAdjacentAnswer}
use Rattle.std.specs.List.Sorted.{IsBinarySearchResult, IsNonDecreasingBy}
use Rattle.std.specs.Ordering.{nat_cmp, ordering_index}
use Rattle.std.proofs.lemmas.Bool.{cases_lt, eq-eqb, ltb-true, lt-ltb}
use Rattle.std.proofs.lemmas.Bool.Decides.{eqb_tells, nat_tests}
use Rattle.std.proofs.lemmas.Cmp.{ranked}
use Rattle.std.proofs.lemmas.List.Sorted.{IsNonDecreasingBy-from_default}
use Rattle.t_types.specs.Tree.{Ty, TFile, NoRegs, MoreRegs, Below, BelowFile}
use Rattle.t_types.specs.Fits.{Fits, FitsFile, RegTypes, lookup}
use Rattle.t_intern.specs.Nodes.{at, regs_at}
use Rattle.t_known.specs.Fitted.{RisesFrom, Rises, AgreesAt, IsSince, SinceAgree, FitsBut}
use Rattle.t_rules.specs.Faults.{KnownFits}

-- where a register is found: at the first entry, or further on
named : (q r : ℕ) (u t : Ty) (o : Option Ty) → cond (nat_eq q r) (Some u) o ≡ Some t →
    ((q ≡ r) × (u ≡ t)) ⊎ (o ≡ Some t)
named q r u t o e = pick (eqb_tells q r)
  where
    pick : ((nat_eq q r ≡ true) × (q ≡ r)) ⊎ ((nat_eq q r ≡ false) × (q ≢ r)) → ((q ≡ r) × (u ≡ t)) ⊎ (o ≡ Some t)
    pick (inl h) = let same : Some u ≡ Some t = subst (λ b. cond b (Some u) o ≡ Some t) h.0 e in inl (h.1, cc)
    pick (inr h) = inr (subst (λ b. cond b (Some u) o ≡ Some t) h.0 e)

first_is : (q r : ℕ) (u : Ty) (o : Option Ty) → q ≡ r → cond (nat_eq q r) (Some u) o ≡ Some u
first_is q r u o e = ap (λ b. cond b (Some u) o) (eq-eqb q r e)

first_not : (q r : ℕ) (u : Ty) (o : Option Ty) → q ≢ r → cond (nat_eq q r) (Some u) o ≡ o
first_not q r u o ne = pick (eqb_tells q r)
  where
    pick : ((nat_eq q r ≡ true) × (q ≡ r)) ⊎ ((nat_eq q r ≡ false) × (q ≢ r)) → cond (nat_eq q r) (Some u) o ≡ o
    pick (inl h) = absurd (ne h.1)
    pick (inr h) = ap (λ b. cond b (Some u) o) h.0

rises_low : (low : ℕ) (f : TFile) (r : ℕ) (t : Ty) → RisesFrom low f → lookup f r ≡ Some t → low ≤ r
rises_low low NoRegs r t h e = cc
rises_low low (MoreRegs q u f) r t h e = pick (named q r u t (lookup f r) e) (rises_low (q + 1) f r t h.1)
  where
    pick : ((q ≡ r) × (u ≡ t)) ⊎ (lookup f r ≡ Some t) → (lookup f r ≡ Some t → q + 1 ≤ r) → low ≤ r
    pick (inl k) rest = omega (arith, h.0, k.0)
    pick (inr k) rest = omega (arith, h.0, rest k)

-- a file of closed types
pub lookup_below : (f : TFile) (n r : ℕ) (t : Ty) → BelowFile n f → lookup f r ≡ Some t → Below n t
lookup_below NoRegs n r t h e = cc
lookup_below (MoreRegs q u f) n r t h e = pick (named q r u t (lookup f r) e) (lookup_below f n r t h.1)
  where
    pick : ((q ≡ r) × (u ≡ t)) ⊎ (lookup f r ≡ Some t) → (lookup f r ≡ Some t → Below n t) → Below n t
    pick (inl k) rest = subst (Below n) k.1 h.0
    pick (inr k) rest = rest k

module _ (g : RegTypes) where
  -- a file, and its registers each by itself
  pub fits_all : (f : TFile) → FitsFile g f → (r : ℕ) → AgreesAt g f r
  fits_all NoRegs h r t e = cc
  fits_all (MoreRegs q u f) h r t e = pick (named q r u t (lookup f r) e) (fits_all f h.1 r t)
    where
      pick : ((q ≡ r) × (u ≡ t)) ⊎ (lookup f r ≡ Some t) → (lookup f r ≡ Some t → KnownFits g r t) → KnownFits g r t
      pick (inl k) rest = subst (λ s. KnownFits g s t) k.0 (subst (KnownFits g q) k.1 h.0)
      pick (inr k) rest = rest k

  fits_from : (low : ℕ) (f : TFile) → RisesFrom low f → ((r : ℕ) → AgreesAt g f r) → FitsFile g f
  fits_from low NoRegs a h = tt
  fits_from low (MoreRegs q u f) a h = (
    h q u (first_is q q u (lookup f q) refl),
    fits_from (q + 1) f a.1
        (λ r t e. h r t
        (let past = rises_low (q + 1) f r t a.1 e in first_not q r u (lookup f r) (λ same. omega (arith, past, same))
        ∙ e)),
  )

  -- a file that fits but for some registers, where these agree with it
  pub fits_both : (f : TFile) (rs : List ℕ) (i : ℕ) → Rises f → FitsBut g f rs i → SinceAgree g f rs i → FitsFile g f
  fits_both f rs i rise but since = fits_from 0 f rise (λ r t e. pick r t e (but r t e))
    where
      pick : (r : ℕ) (t : Ty) → lookup f r ≡ Some t → IsSince rs i r ⊎ KnownFits g r t → KnownFits g r t
      pick r t e (inl s) =
          subst (λ q. KnownFits g q t) s.3 (since s.0 s.1 s.2 t (subst (λ q. lookup f q ≡ Some t) (sym s.3) e))
      pick r t e (inr k) = k

  pub known_fit : (r : ℕ) (t w : Ty) → g r ≡ Some t → KnownFits g r w → Fits t w
  known_fit r t w e h = let k = h.1 in let same : h.0 ≡ t = cc in subst (λ u. Fits u w) same h.2

  -- what is told of a register that the file names
  pub agrees_by : (f : TFile) (r : ℕ) (u : Ty) (b : Bool) → lookup f r ≡ Some u → (IsTrue b ↔ KnownFits g r u) →
      IsTrue b ↔ AgreesAt g f r
  agrees_by f r u b e h = (
    (λ y t named. let both : Some u ≡ Some t = sym e ∙ named in let same : u ≡ t = cc in
        subst (KnownFits g r) same (h.0 y)),
    λ a. h.1 (a u e),
  )

  -- one more of those from a place on
  pub agree_more : (f : TFile) (rs : List ℕ) (from i : ℕ) → AgreesAt g f (get_or rs i 0) →
      ((j : ℕ) → from ≤ j → j < i → AgreesAt g f (get_or rs j 0)) → (j : ℕ) → from ≤ j → j < i + 1 →
      AgreesAt g f (get_or rs j 0)
  agree_more f rs from i here before j a b = pick (cases_lt j i)
    where
      pick : (j < i) ⊎ (i ≤ j) → AgreesAt g f (get_or rs j 0)
      pick (inl lt) = before j a lt
      pick (inr le) = let same : i ≡ j = omega arith in subst (λ n. AgreesAt g f (get_or rs n 0)) same here

-- a file by the numbers of its types: the register at a place
abbrev pub name_at : List (ℕ × ℕ) → ℕ → ℕ
name_at xs i = (get_or xs i (0, 0)).0

abbrev pub NamesRise : List (ℕ × ℕ) → Type 0
NamesRise xs = (i j : ℕ) → i < j → j < length xs → name_at xs i < name_at xs j

module _ (ts : List Ty) where
  low_name : (low : ℕ) (xs : List (ℕ × ℕ)) (j : ℕ) → RisesFrom low (regs_at ts xs) → j < length xs → low ≤ name_at xs j
  low_name low [] j h lt = absurd (omega (arith, lt))
  low_name low (x ∷ xs) zero h lt = h.0
  low_name low (x ∷ xs) (suc j) h lt =
      let rest = low_name (x.0 + 1) xs j h.1 (omega (arith, lt)) in omega (arith, h.0, rest)

  pub names_rise : (low : ℕ) (xs : List (ℕ × ℕ)) → RisesFrom low (regs_at ts xs) → NamesRise xs
  names_rise low [] h i j l lt = absurd (omega (arith, lt))
  names_rise low (x ∷ xs) h i zero l lt = absurd (omega (arith, l))
  names_rise low (x ∷ xs) h zero (suc j) l lt =
      let rest = low_name (x.0 + 1) xs j h.1 (omega (arith, lt)) in omega (arith, rest)
  names_rise low (x ∷ xs) h (suc i) (suc j) l lt =
      names_rise (x.0 + 1) xs h.1 i j (omega (arith, l)) (omega (arith, lt))

  -- and back, from neighbours
  pub rises_from : (low : ℕ) (xs : List (ℕ × ℕ)) → (0 < length xs → low ≤ name_at xs 0) →
      ((i j : ℕ) → j ≡ i + 1 → j < length xs → name_at xs i < name_at xs j) → RisesFrom low (regs_at ts xs)
  rises_from low [] first next = tt
  rises_from low (x ∷ xs) first next = (
    first (omega arith),
    rises_from (x.0 + 1) xs (λ some. let lt = next 0 (suc 0) (omega arith) (omega (arith, some)) in omega (arith, lt))
        (λ i j e lt. next (suc i) (suc j) (omega (arith, e)) (omega (arith, lt))),
  )

  -- a register that is there, and one that is not
  pub lookup_there : (xs : List (ℕ × ℕ)) (r i : ℕ) → i < length xs → name_at xs i ≡ r →
      ((j : ℕ) → j < i → name_at xs j ≢ r) → lookup (regs_at ts xs) r ≡ Some (at ts (get_or xs i (0, 0)).1)
  lookup_there [] r i lt e other = absurd (omega (arith, lt))
  lookup_there (x ∷ xs) r zero lt e other = first_is x.0 r (at ts x.1) (lookup (regs_at ts xs) r) e
  lookup_there (x ∷ xs) r (suc i) lt e other =
      first_not x.0 r (at ts x.1) (lookup (regs_at ts xs) r) (other 0 (omega arith))
      ∙ lookup_there xs r i (omega (arith, lt)) e (λ j l. other (suc j) (omega (arith, l)))

  pub lookup_none : (xs : List (ℕ × ℕ)) (r : ℕ) → ((j : ℕ) → j < length xs → name_at xs j ≢ r) →
      lookup (regs_at ts xs) r ≡ None
  lookup_none [] r other = refl
  lookup_none (x ∷ xs) r other = first_not x.0 r (at ts x.1) (lookup (regs_at ts xs) r) (other 0 (omega arith))
      ∙ lookup_none xs r (λ j l. other (suc j) (omega (arith, l)))

  -- whether neighbours rise tells whether the file does
  pub rises_told : (xs : List (ℕ × ℕ)) (b : Bool) →
      IsAllAdjacentAnswer (λ (x y : ℕ × ℕ) (a : Bool). a ≡ nat_lt x.0 y.0) xs b → IsTrue b ↔ Rises (regs_at ts xs)
  rises_told xs true h = ((λ y. rises_from 0 xs (λ some. omega arith) (λ i j e lt. next i j e lt)), λ y. refl)
    where
      next : (i j : ℕ) → j ≡ i + 1 → j < length xs → name_at xs i < name_at xs j
      next i j e lt =
          ltb-true (name_at xs i) (name_at xs j)
          (subst (λ n. nat_lt (name_at xs i) (name_at xs n) ≡ true) (sym e) (sym (h i (0, 0) (omega (arith, e, lt)))))
  rises_told xs false h = ((λ y. cc), λ y. absurd (apart y))
    where
      apart : Rises (regs_at ts xs) → ⊥
      apart y =
          let up = names_rise 0 xs y h.0 (h.0 + 1) (omega arith) h.1 in
          let no_less : false ≡ nat_lt (name_at xs h.0) (name_at xs (h.0 + 1)) = h.2 (0, 0) in
          absurd (true≢false (sym (lt-ltb (name_at xs h.0) (name_at xs (h.0 + 1)) up) ∙ sym no_less))

-- a binary search for a register ends at it, or it is not there
module _ (xs : List (ℕ × ℕ)) (rise : NamesRise xs) (r : ℕ) where
  comparisons_rise : IsNonDecreasingBy (λ (x : ℕ × ℕ). ordering_index (nat_cmp x.0 r)) xs
  comparisons_rise =
      IsNonDecreasingBy-from_default (λ (x : ℕ × ℕ). ordering_index (nat_cmp x.0 r)) xs (0, 0) (λ i j le lt.
      let up : name_at xs i ≤ name_at xs j = grind (arith, rise i j, λ (same : i ≡ j). ap (name_at xs) same) in
      grind (arith, nat_tests))

  pub found_at : (i : ℕ) → IsBinarySearchResult (λ (x : ℕ × ℕ). nat_cmp x.0 r) xs (Ok i) → name_at xs i ≡ r
  found_at i equal = ranked _ r _ (sym (equal (0, 0)))

  pub none_before : (i : ℕ) → i < length xs → name_at xs i ≡ r → (j : ℕ) → j < i → name_at xs j ≢ r
  none_before i lt is j l same = let up = rise j i l lt in omega (arith, up, is, same)

  pub found_none : (i : ℕ) → IsBinarySearchResult (λ (x : ℕ × ℕ). nat_cmp x.0 r) xs (Err i) → (j : ℕ) → j < length xs →
      name_at xs j ≢ r
  found_none i parted j lt same = pick (cases_lt j i)
    where
      pick : (j < i) ⊎ (i ≤ j) → ⊥
      pick (inl l) =
          let less : name_at xs j < r = ranked _ r _ (sym ((parted comparisons_rise).0 j (0, 0) (omega arith) l)) in
          omega (arith, less, same)
      pick (inr le) =
          let more : r < name_at xs j = ranked _ r _ (sym ((parted comparisons_rise).1 j (0, 0) le lt)) in
          omega (arith, more, same)
