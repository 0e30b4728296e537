-- The places that the page shows are those executed most.
use Rattle.std.proofs.Common.{◌≡◌, ◌∙◌, ℕ, zero, suc, ◌+◌, ◌≤◌, ◌⊎◌, Bool, true, false, List, [], ◌∷◌, ◌++◌, All}
use Rattle.std.proofs.Common.{length, get_or, take, drop, insert, nat_lt, IsPermutation, refl, sym, ap, subst, arith}
use Rattle.std.proofs.Common.{inl, inr}
use Rattle.std.proofs.Common.{append_assoc}
use Rattle.std.specs.Prelude.{if◌then◌else◌}
use Rattle.std.proofs.lemmas.Bool.{cases_eq}
use Rattle.std.proofs.lemmas.Bool.Decides.{nat_tests}
use Rattle.std.proofs.lemmas.List.{length-take, length-drop, append-nil, take-append-drop}
use Rattle.std.proofs.lemmas.List.Elements.{All-nil, All-cons, All-head, All-tail, All-append, All-weaker, All-take}
use Rattle.std.proofs.lemmas.List.Elements.{All-drop}
use Rattle.std.proofs.lemmas.List.Sorted.{IsPermutation-trans, IsPermutation-refl, IsPermutation-sym}
use Rattle.std.proofs.lemmas.List.Sorted.{IsPermutation-cons}
use Rattle.std.proofs.lemmas.List.Sorted.{IsPermutation-to_front, IsPermutation-middle, IsPermutation-insert}
use Rattle.std.proofs.lemmas.List.Sorted.{IsPermutation-append_left, All-permutation, length_permutation}
use Rattle.cost_page.specs.Page.{rank, placed, most}
use Rattle.cost_page.specs.Laws.{Descending, IsPassedOver, IsMost, MostIsMost}
use Rattle.cost_page.specs.declared.places.Place.{Place}
use Rattle.cost_page.proofs.Walks.{placed_none, placed_some}

-- executed at most n times, and at least n times
abbrev pub AtMost : ℕ → Place → Type 0
AtMost n p = p.count ≤ n

abbrev pub AtLeast : ℕ → Place → Type 0
AtLeast n p = n ≤ p.count

pub less : (n m : ℕ) → nat_lt n m ≡ true → n ≤ m
less n m e = grind (arith, nat_tests)

pub no_less : (n m : ℕ) → nat_lt n m ≡ false → m ≤ n
no_less n m e = grind (arith, nat_tests)

descending_take : (n : ℕ) (ps : List Place) → Descending ps → Descending (take n ps)
descending_take zero [] h = tt
descending_take zero (p ∷ ps) h = tt
descending_take (suc n) [] h = tt
descending_take (suc n) (p ∷ ps) h = (All-take (AtMost p.count) n ps h.0, descending_take n ps h.1)

-- behind the first n none was executed more often than these
pub rest_below : (n : ℕ) (ps : List Place) → Descending ps →
    All (λ (q : Place). All (AtLeast q.count) (take n ps)) (drop n ps)
rest_below zero [] h = λ k d lt. All-nil _
rest_below zero (p ∷ ps) h = λ k d lt. All-nil _
rest_below (suc n) [] h = λ k d lt. All-nil _
rest_below (suc n) (p ∷ ps) h =
    λ k d lt. All-cons (AtLeast (get_or (drop n ps) k d).count) p (take n ps)
    (All-drop (AtMost p.count) n ps h.0 k d lt) (rest_below n ps h.1 k d lt)

module _ (p : Place) where
  abbrev pub inserted : List Place → List Place
  inserted qs = insert qs (rank p qs) p

  all_inserted : (P : Place → Type 0) (qs : List Place) → P p → All P qs → All P (inserted qs)
  all_inserted P qs here all =
      All-permutation P (p ∷ qs) (inserted qs) (IsPermutation-insert qs (rank p qs) p) (All-cons P p qs here all)

  pub descending_inserted : (qs : List Place) → Descending qs → Descending (inserted qs)
  descending_inserted [] h = (All-nil _, tt)
  descending_inserted (q ∷ qs) h = by (nat_lt q.count p.count) refl (descending_inserted qs h.1)
    where
      by : (t : Bool) → nat_lt q.count p.count ≡ t → Descending (inserted qs) →
          Descending (insert (q ∷ qs) (if t then 0 else 1 + rank p qs) p)
      by true e rest =
          let le = less q.count p.count e in (
            All-cons (AtMost p.count) q qs le (All-weaker (AtMost q.count) (AtMost p.count)
                (λ x below. omega (arith, le, below)) qs h.0),
            h,
          )
      by false e rest =
          let one : suc (rank p qs) ≡ 1 + rank p qs = omega arith in
          subst (λ i. Descending (insert (q ∷ qs) i p)) one
          (all_inserted (AtMost q.count) qs (no_less q.count p.count e) h.0, rest)

  -- what is no more than each of n places is no more than each of the first n, with one place more
  pub still_below : (m n : ℕ) (qs : List Place) → length qs ≡ n → All (AtLeast m) qs →
      All (AtLeast m) (take n (inserted qs))
  still_below m zero [] size h = All-nil _
  still_below m (suc n) [] size h = absurd (omega (arith, size))
  still_below m zero (q ∷ qs) size h = absurd (omega (arith, size))
  still_below m (suc n) (q ∷ qs) size h =
      by (nat_lt q.count p.count) refl
      (still_below m n qs (omega (arith, size)) (All-tail (AtLeast m) q qs h))
    where
      by : (t : Bool) → nat_lt q.count p.count ≡ t → All (AtLeast m) (take n (inserted qs)) →
          All (AtLeast m) (take (suc n) (insert (q ∷ qs) (if t then 0 else 1 + rank p qs) p))
      by true e rest =
          let le = less q.count p.count e in
          let first = All-head (AtLeast m) q qs h in
          All-cons (AtLeast m) p (take n (q ∷ qs)) (omega (arith, le, first)) (All-take (AtLeast m) n (q ∷ qs) h)
      by false e rest =
          let one : suc (rank p qs) ≡ 1 + rank p qs = omega arith in
          subst (λ i. All (AtLeast m) (take (suc n) (insert (q ∷ qs) i p))) one
          (All-cons (AtLeast m) q (take n (inserted qs)) (All-head (AtLeast m) q qs h) rest)

  pub size_inserted : (qs : List Place) → length (inserted qs) ≡ length qs + 1
  size_inserted qs =
      let long = length_permutation (p ∷ qs) (inserted qs) (IsPermutation-insert qs (rank p qs) p) in
      omega (arith, long)

  module _ (seen top : List Place) (h : IsMost seen top) where
    abbrev next : List Place
    next = take 10 (inserted top)

    abbrev out : List Place
    out = drop 10 (inserted top)

    -- those that are put out
    out_less : All (IsPassedOver next) out
    out_less k d lt =
        let size = length-take 10 (inserted top) in
        let left = length-drop 10 (inserted top) in
        inr (omega (arith, size, left, lt), rest_below 10 (inserted top) (descending_inserted top h.descending) k d lt)

    others_less : All (IsPassedOver next) h.others
    others_less = All-weaker (IsPassedOver top) (IsPassedOver next) keep h.others h.less
      where
        keep : (q : Place) → IsPassedOver top q → IsPassedOver next q
        keep q (inl none) = inl none
        keep q (inr full) =
            let size = length-take 10 (inserted top) in
            let long = size_inserted top in
            let ten = full.0 in
            inr (omega (arith, size, long, ten), still_below q.count 10 top full.0 full.1)

    whole : next ++ (out ++ h.others) ≡ inserted top ++ h.others
    whole =
        sym (append_assoc next out h.others) ∙ ap (λ ps. ps ++ h.others) (take-append-drop 10 (inserted top))

    front : IsPermutation (seen ++ p ∷ []) (p ∷ (top ++ h.others))
    front =
        IsPermutation-trans _ _ _ (IsPermutation-to_front seen p) (IsPermutation-cons p seen (top ++ h.others) h.all)

    shown : 1 ≤ p.count → IsMost (seen ++ p ∷ []) next
    shown some = record {
      few = let size = length-take 10 (inserted top) in omega (arith, size);
      executed = All-take (AtLeast 1) 10 (inserted top) (all_inserted (AtLeast 1) top some h.executed);
      descending = descending_take 10 (inserted top) (descending_inserted top h.descending);
      others = out ++ h.others;
      all = subst (IsPermutation (seen ++ p ∷ [])) (sym whole) (IsPermutation-trans _ _ _ front
          (IsPermutation-append_left h.others (p ∷ top) (inserted top) (IsPermutation-insert top (rank p top) p)));
      less = All-append (IsPassedOver next) out h.others out_less others_less;
    }

    not_shown : p.count ≡ 0 → IsMost (seen ++ p ∷ []) top
    not_shown none = record {
      few = h.few;
      executed = h.executed;
      descending = h.descending;
      others = p ∷ h.others;
      all = IsPermutation-trans _ _ _ front (IsPermutation-sym _ _ (IsPermutation-middle top p h.others));
      less = All-cons (IsPassedOver top) p h.others (inl none) h.less;
    }

    pub step : IsMost (seen ++ p ∷ []) (placed top p)
    step = by (cases_eq p.count 0)
      where
        by : (p.count ≡ 0) ⊎ (p.count ≡ 0 → ⊥) → IsMost (seen ++ p ∷ []) (placed top p)
        by (inl none) = subst (IsMost (seen ++ p ∷ [])) (placed_none top p none) (not_shown none)
        by (inr some) =
            subst (IsMost (seen ++ p ∷ [])) (placed_some top (inserted top) p (rank p top) some refl refl)
            (shown (omega (arith, some)))

walk : (seen top ps : List Place) → IsMost seen top → IsMost (seen ++ ps) (most top ps)
walk seen top [] h = subst (λ qs. IsMost qs top) (sym (append-nil seen)) h
walk seen top (p ∷ ps) h =
    subst (λ qs. IsMost qs (most (placed top p) ps)) (append_assoc seen (p ∷ []) ps)
    (walk (seen ++ p ∷ []) (placed top p) ps (step p seen top h))

pub none_most : IsMost [] []
none_most = record {
  few = omega arith;
  executed = All-nil _;
  descending = tt;
  others = [];
  all = IsPermutation-refl [];
  less = All-nil _;
}

pub most_is_most : MostIsMost
most_is_most ps = walk [] [] ps none_most
