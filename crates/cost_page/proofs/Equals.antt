-- Of places that were executed equally often, those that come first are shown, in their order.
use Rattle.std.proofs.Common.{◌≡◌, ◌∙◌, ℕ, suc, ◌+◌, ◌<◌, ◌≤◌, ◌==◌, ◌⊎◌, Bool, true, false, cond, List, [], ◌∷◌, ◌++◌}
use Rattle.std.proofs.Common.{All, length, take, drop, filter, insert, nat_lt, refl, sym, ap, subst, arith, inl, inr}
use Rattle.std.proofs.Common.{append_assoc}
use Rattle.std.specs.Prelude.{if◌then◌else◌}
use Rattle.std.proofs.lemmas.Bool.{cases_eq}
use Rattle.std.proofs.lemmas.Bool.Decides.{nat_tests}
use Rattle.std.proofs.lemmas.List.{length-take, drop_all, append-nil, take-append-drop}
use Rattle.std.proofs.lemmas.List.Elements.{All-head, All-tail, All-weaker, filter-append}
use Rattle.cost_page.specs.Page.{rank, placed, most}
use Rattle.cost_page.specs.Laws.{Descending, IsMost, FirstOfEquals}
use Rattle.cost_page.specs.declared.places.Place.{Place}
use Rattle.cost_page.proofs.Walks.{placed_none, placed_some}
use Rattle.cost_page.proofs.Topmost.{AtMost, AtLeast, rest_below, inserted, descending_inserted}
use Rattle.cost_page.proofs.Topmost.{still_below, size_inserted, step, none_most}

is_same : (m n : ℕ) → m ≡ n → (m == n) ≡ true
is_same m n e = grind (arith, nat_tests)

is_other : (m n : ℕ) → (m ≡ n → ⊥) → (m == n) ≡ false
is_other m n ne = grind (arith, nat_tests, ne)

-- more than what is executed at least so often belongs before: nothing of the list gives way
kept_whole : (p : Place) (qs : List Place) → All (AtLeast p.count) qs → take (length qs) (inserted p qs) ≡ qs
kept_whole p [] h = refl
kept_whole p (q ∷ qs) h =
    by (nat_lt q.count p.count) refl (kept_whole p qs (All-tail (AtLeast p.count) q qs h))
  where
    by : (t : Bool) → nat_lt q.count p.count ≡ t → take (length qs) (inserted p qs) ≡ qs →
        take (suc (length qs)) (insert (q ∷ qs) (if t then 0 else 1 + rank p qs) p) ≡ q ∷ qs
    by true e rest = absurd (both q.count p.count e (All-head (AtLeast p.count) q qs h))
      where
        both : (n m : ℕ) → nat_lt n m ≡ true → m ≤ n → ⊥
        both n m e le = grind (arith, nat_tests)
    by false e rest =
        let one : suc (rank p qs) ≡ 1 + rank p qs = omega arith in
        subst (λ i. take (suc (length qs)) (insert (q ∷ qs) i p) ≡ q ∷ qs) one (ap (λ ps. q ∷ ps) rest)

module _ (n : ℕ) where
  abbrev equals : List Place → List Place
  equals ps = filter (λ (p : Place). p.count == n) ps

  equals_append : (ps qs : List Place) → equals (ps ++ qs) ≡ equals ps ++ equals qs
  equals_append ps qs = filter-append (λ (p : Place). p.count == n) ps qs

  equals_yes : (p : Place) (ps : List Place) → p.count ≡ n → equals (p ∷ ps) ≡ p ∷ equals ps
  equals_yes p ps e = ap (λ t. cond t (p ∷ equals ps) (equals ps)) (is_same p.count n e)

  equals_no : (p : Place) (ps : List Place) → (p.count ≡ n → ⊥) → equals (p ∷ ps) ≡ equals ps
  equals_no p ps ne = ap (λ t. cond t (p ∷ equals ps) (equals ps)) (is_other p.count n ne)

  -- none is equal where all were executed less often
  equals_none : (ps : List Place) → All (λ (p : Place). p.count < n) ps → equals ps ≡ []
  equals_none [] h = refl
  equals_none (p ∷ ps) h =
      let lt = All-head (λ (q : Place). q.count < n) p ps h in
      equals_no p ps (λ e. omega (arith, lt, e)) ∙ equals_none ps (All-tail (λ (q : Place). q.count < n) p ps h)

  -- a place that is not equal changes nothing, and one that is comes behind its equals
  inserted_other : (p : Place) (qs : List Place) → (p.count ≡ n → ⊥) → equals (inserted p qs) ≡ equals qs
  inserted_other p qs ne =
      let r = rank p qs in
      equals_append (take r qs) (p ∷ drop r qs) ∙ ap (λ ps. equals (take r qs) ++ ps) (equals_no p (drop r qs) ne)
      ∙ sym (equals_append (take r qs) (drop r qs)) ∙ ap equals (take-append-drop r qs)

  inserted_equal : (p : Place) (qs : List Place) → p.count ≡ n → Descending qs →
      equals (inserted p qs) ≡ equals qs ++ p ∷ []
  inserted_equal p [] e h = equals_yes p [] e
  inserted_equal p (q ∷ qs) e h = by (nat_lt q.count p.count) refl (inserted_equal p qs e h.1)
    where
      both : (a b : ℕ) → nat_lt a b ≡ true → a < b
      both a b e = grind (arith, nat_tests)

      by : (t : Bool) → nat_lt q.count p.count ≡ t → equals (inserted p qs) ≡ equals qs ++ p ∷ [] →
          equals (insert (q ∷ qs) (if t then 0 else 1 + rank p qs) p) ≡ equals (q ∷ qs) ++ p ∷ []
      by true lt rest =
          let fewer = both q.count p.count lt in
          let none = equals_no q qs (λ z. omega (arith, fewer, z, e))
          ∙ equals_none qs (All-weaker (AtMost q.count) (λ (x : Place). x.count < n)
          (λ x le. omega (arith, fewer, le, e)) qs h.0) in
          equals_yes p (q ∷ qs) e ∙ ap (λ ps. p ∷ ps) none ∙ ap (λ ps. ps ++ p ∷ []) (sym none)
      by false lt rest =
          let one : suc (rank p qs) ≡ 1 + rank p qs = omega arith in
          subst (λ i. equals (insert (q ∷ qs) i p) ≡ equals (q ∷ qs) ++ p ∷ []) one (first (q.count == n))
        where
          first : (t : Bool) → cond t (q ∷ equals (inserted p qs)) (equals (inserted p qs))
              ≡ cond t (q ∷ equals qs) (equals qs) ++ p ∷ []
          first true = ap (λ ps. q ∷ ps) rest
          first false = rest

  -- with what is left out of the equals, they are those of all places; something is left out only where ten are shown
  -- that were executed as often or more often
  record Firsts (seen top : List Place) : Type 0 where
    others : List Place
    all : equals top ++ others ≡ equals seen
    full : (others ≡ []) ⊎ ((length top ≡ 10) × All (AtLeast n) top)

  -- an equal one that is behind places leads to what these are
  found : (out next : List Place) → All (λ (q : Place). All (AtLeast q.count) next) out →
      (equals out ≡ []) ⊎ All (AtLeast n) next
  found [] next h = inl refl
  found (q ∷ out) next h =
      by (cases_eq q.count n) (found out next (All-tail (λ (x : Place). All (AtLeast x.count) next) q out h))
    where
      by : (q.count ≡ n) ⊎ (q.count ≡ n → ⊥) → (equals out ≡ []) ⊎ All (AtLeast n) next →
          (equals (q ∷ out) ≡ []) ⊎ All (AtLeast n) next
      by (inl e) rest =
          let first = All-head (λ (x : Place). All (AtLeast x.count) next) q out h in
          inr (subst (λ m. All (AtLeast m) next) e first)
      by (inr ne) (inl none) = inl (equals_no q out ne ∙ none)
      by (inr ne) (inr all) = inr all

  module _ (p : Place) (seen top : List Place) (h : IsMost seen top) (f : Firsts seen top) where
    abbrev next : List Place
    next = take 10 (inserted p top)

    abbrev out : List Place
    out = drop 10 (inserted p top)

    parts : equals next ++ equals out ≡ equals (inserted p top)
    parts = sym (equals_append next out) ∙ ap equals (take-append-drop 10 (inserted p top))

    out_full : (equals out ≡ []) ⊎ ((length next ≡ 10) × All (AtLeast n) next)
    out_full = by (found out next (rest_below 10 (inserted p top) (descending_inserted p top h.descending)))
        (cases (length (inserted p top)))
      where
        cases : (k : ℕ) → (k ≤ 10) ⊎ (10 < k)
        cases k = grind (arith, nat_tests)

        by : (equals out ≡ []) ⊎ All (AtLeast n) next →
            (length (inserted p top) ≤ 10) ⊎ (10 < length (inserted p top)) →
            (equals out ≡ []) ⊎ ((length next ≡ 10) × All (AtLeast n) next)
        by (inl none) c = inl none
        by (inr all) (inl few) = inl (ap equals (drop_all 10 (inserted p top) few))
        by (inr all) (inr many) =
            let size = length-take 10 (inserted p top) in
            inr (omega (arith, size, many), all)

    seen_other : (p.count ≡ n → ⊥) → equals (seen ++ p ∷ []) ≡ equals seen
    seen_other ne =
        equals_append seen (p ∷ []) ∙ ap (λ ps. equals seen ++ ps) (equals_no p [] ne) ∙ append-nil (equals seen)

    seen_equal : p.count ≡ n → equals (seen ++ p ∷ []) ≡ equals seen ++ p ∷ []
    seen_equal e = equals_append seen (p ∷ []) ∙ ap (λ ps. equals seen ++ ps) (equals_yes p [] e)

    -- where none was left out before
    all_shown : f.others ≡ [] → equals top ≡ equals seen
    all_shown none =
        sym (append-nil (equals top)) ∙ ap (λ ps. equals top ++ ps) (sym none) ∙ f.all

    from_inserted : equals (inserted p top) ≡ equals (seen ++ p ∷ []) → Firsts (seen ++ p ∷ []) next
    from_inserted same = record { others = equals out; all = parts ∙ same; full = out_full }

    other_shown : (p.count ≡ n → ⊥) → Firsts (seen ++ p ∷ []) next
    other_shown ne = by f.full
      where
        by : (f.others ≡ []) ⊎ ((length top ≡ 10) × All (AtLeast n) top) → Firsts (seen ++ p ∷ []) next
        by (inl none) = from_inserted (inserted_other p top ne ∙ all_shown none ∙ sym (seen_other ne))
        by (inr full) = record {
          others = equals out ++ f.others;
          all =
              sym (append_assoc (equals next) (equals out) f.others) ∙ ap (λ ps. ps ++ f.others) parts
              ∙ ap (λ ps. ps ++ f.others) (inserted_other p top ne) ∙ f.all ∙ sym (seen_other ne);
          full =
              let size = length-take 10 (inserted p top) in
              let long = size_inserted p top in
              let ten = full.0 in
              inr (omega (arith, size, long, ten), still_below p n 10 top full.0 full.1);
        }

    equal_shown : p.count ≡ n → Firsts (seen ++ p ∷ []) next
    equal_shown e = by f.full
      where
        by : (f.others ≡ []) ⊎ ((length top ≡ 10) × All (AtLeast n) top) → Firsts (seen ++ p ∷ []) next
        by (inl none) =
            from_inserted (inserted_equal p top e h.descending ∙ ap (λ ps. ps ++ p ∷ []) (all_shown none)
            ∙ sym (seen_equal e))
        by (inr full) =
            let same = subst (λ k. take k (inserted p top) ≡ top) full.0
            (kept_whole p top (subst (λ m. All (AtLeast m) top) (sym e) full.1)) in
            subst (Firsts (seen ++ p ∷ [])) (sym same) (record {
              others = f.others ++ p ∷ [];
              all =
                  sym (append_assoc (equals top) f.others (p ∷ [])) ∙ ap (λ ps. ps ++ p ∷ []) f.all
                  ∙ sym (seen_equal e);
              full = inr full;
            })

    not_shown : (p.count ≡ n → ⊥) → Firsts (seen ++ p ∷ []) top
    not_shown ne = record { others = f.others; all = f.all ∙ sym (seen_other ne); full = f.full }

    firsts_step : 1 ≤ n → Firsts (seen ++ p ∷ []) (placed top p)
    firsts_step le = by (cases_eq p.count 0) (cases_eq p.count n)
      where
        shown : (p.count ≡ n) ⊎ (p.count ≡ n → ⊥) → Firsts (seen ++ p ∷ []) next
        shown (inl e) = equal_shown e
        shown (inr ne) = other_shown ne

        by : (p.count ≡ 0) ⊎ (p.count ≡ 0 → ⊥) → (p.count ≡ n) ⊎ (p.count ≡ n → ⊥) →
            Firsts (seen ++ p ∷ []) (placed top p)
        by (inl none) c =
            subst (Firsts (seen ++ p ∷ [])) (placed_none top p none) (not_shown (λ e. omega (arith, none, e, le)))
        by (inr some) c =
            subst (Firsts (seen ++ p ∷ []))
            (placed_some top (inserted p top) p (rank p top) some refl refl) (shown c)

  firsts_walk : 1 ≤ n → (seen top ps : List Place) → IsMost seen top → Firsts seen top →
      Firsts (seen ++ ps) (most top ps)
  firsts_walk le seen top [] h f = subst (λ qs. Firsts qs top) (sym (append-nil seen)) f
  firsts_walk le seen top (p ∷ ps) h f =
      subst (λ qs. Firsts qs (most (placed top p) ps)) (append_assoc seen (p ∷ []) ps)
      (firsts_walk le (seen ++ p ∷ []) (placed top p) ps (step p seen top h) (firsts_step p seen top h f le))

pub first_of_equals : FirstOfEquals
first_of_equals ps n le =
    let all = firsts_walk n le [] [] ps none_most (record { others = []; all = refl; full = inl refl }) in
    (all.others, all.all)
