-- Where nothing is shared, each node occurs once in the whole.
use Rattle.std.proofs.Common.{◌≡◌, ◌≢◌, ◌≤◌, ◌<◌, ℕ, zero, suc, ◌+◌, ◌==◌, if◌then◌else◌, List, [], ◌∷◌, ◌++◌, length}
use Rattle.std.proofs.Common.{get_or, refl, ap, ◌∙◌, sym, subst, arith, All, inl, inr}
use Rattle.std.proofs.lemmas.Bool.{cases_eq}
use Rattle.std.proofs.lemmas.List.Elements.{All-nil, All-head, All-tail, All-push}
use Rattle.calc_core.specs.Arena.{with_one, grow, parts, InOrder}
use Rattle.calc_core.specs.Roots.{Differ, total, without, without_all, roots_from, roots}
use Rattle.calc_core.proofs.Nodes.{one_same, one_other, part_at}
use Rattle.calc_core.proofs.Roots.{if_same, if_other, all_without_all, differ_without, differ_without_all, differ_push}
use Rattle.calc_core.proofs.Roots.{total_push}

module _ {N : Type 0} (kids : N → List ℕ) where
  -- nodes with their numbers, from k on
  abbrev numbered : ℕ → List N → List (ℕ × N)
  numbered k [] = []
  numbered k (n ∷ ns) = (k, n) ∷ numbered (k + 1) ns

  abbrev number_kids : ℕ × N → List ℕ
  number_kids x = kids x.1

  -- what a node weighs with all that is in it, where node i itself weighs w i
  abbrev weigh : (ℕ → ℕ) → (ℕ → ℕ) → ℕ × N → ℕ
  weigh w at x = w x.0 + total at (kids x.1)

  abbrev pub weight : (ℕ → ℕ) → List N → ℕ → ℕ
  weight w ns = parts 0 (weigh w) (numbered 0 ns)

  total_same : (f g : ℕ → ℕ) (ks : List ℕ) → All (λ k. f k ≡ g k) ks → total f ks ≡ total g ks
  total_same f g [] h = refl
  total_same f g (k ∷ ks) h =
      omega (arith, All-head (λ k. f k ≡ g k) k ks h, total_same f g ks (All-tail (λ k. f k ≡ g k) k ks h))

  local : (w : ℕ → ℕ) (f g : ℕ → ℕ) (x : ℕ × N) → All (λ k. f k ≡ g k) (number_kids x) → weigh w f x ≡ weigh w g x
  local w f g x h = ap (λ n. w x.0 + n) (total_same f g (kids x.1) h)

  numbered_length : (k : ℕ) (ns : List N) → length (numbered k ns) ≡ length ns
  numbered_length k [] = refl
  numbered_length k (n ∷ ns) = ap suc (numbered_length (k + 1) ns)

  numbered_at : (k : ℕ) (ns : List N) (i : ℕ) (d : ℕ × N) → i < length ns →
      get_or (numbered k ns) i d ≡ (k + i, get_or ns i d.1)
  numbered_at k [] i d lt = absurd (omega (arith, lt))
  numbered_at k (n ∷ ns) zero d lt = ap (λ j. (j, n)) (let e : k ≡ k + 0 = omega arith in e)
  numbered_at k (n ∷ ns) (suc i) d lt =
      numbered_at (k + 1) ns i d (omega (arith, lt))
      ∙ ap (λ j. (j, get_or ns i d.1)) (let e : k + 1 + i ≡ k + suc i = omega arith in e)

  numbered_order : (ns : List N) → InOrder kids ns → InOrder number_kids (numbered 0 ns)
  numbered_order ns h i d lt =
      let less : i < length ns = omega (arith, lt, numbered_length 0 ns) in
      subst (λ x. All (λ k. k < i) (number_kids x)) (sym (numbered_at 0 ns i d less)) (h i d.1 less)

  -- a node's weight, by its own and its children's
  pub weight_is : (w : ℕ → ℕ) (ns : List N) (i : ℕ) (d : N) → i < length ns → InOrder kids ns →
      weight w ns i ≡ w i + total (weight w ns) (kids (get_or ns i d))
  weight_is w ns i d lt h =
      part_at number_kids (weigh w) (local w) 0 (numbered 0 ns) i (0, d) (omega (arith, lt, numbered_length 0 ns))
      (numbered_order ns h)
      ∙ ap (weigh w (weight w ns))
      (numbered_at 0 ns i (0, d) lt ∙ ap (λ j. (j, get_or ns i d)) (let e : 0 + i ≡ i = omega arith in e))

  absent : (f : ℕ → ℕ) (k : ℕ) (rs : List ℕ) → All (λ j. j ≢ k) rs → total f (without k rs) ≡ total f rs
  absent f k [] h = refl
  absent f k (j ∷ js) h =
      let ne = All-head (λ j. j ≢ k) j js h in
      ap (total f) (if_other j k (without k js) (j ∷ without k js) ne)
      ∙ ap (λ n. f j + n) (absent f k js (All-tail (λ j. j ≢ k) j js h))

  -- what is taken away weighs no more than it is
  lost_one : (f : ℕ → ℕ) (k : ℕ) (rs : List ℕ) → Differ rs → total f rs ≤ total f (without k rs) + f k
  lost_one f k [] d = omega arith
  lost_one f k (j ∷ js) d =
      elim (cases_eq j k) as (λ x. total f (j ∷ js) ≤ total f (without k (j ∷ js)) + f k) [
        | inl e ↦ omega (
          arith,
          ap (total f) (if_same j k (without k js) (j ∷ without k js) e),
          absent f k js (subst (λ i. All (λ x. x ≢ i) js) e d.0),
          ap f e,
        )
        | inr ne ↦ (let more = lost_one f k js d.1 in
            omega (arith, ap (total f) (if_other j k (without k js) (j ∷ without k js) ne), more))
      ]

  lost : (f : ℕ → ℕ) (ks rs : List ℕ) → Differ rs → total f rs ≤ total f (without_all ks rs) + total f ks
  lost f [] rs d = omega arith
  lost f (k ∷ ks) rs d =
      let one = lost_one f k rs d in
      let more = lost f ks (without k rs) (differ_without k rs d) in
      omega (arith, one, more)

  -- the sum of what so many nodes weigh themselves, from k on
  abbrev pub own : (ℕ → ℕ) → ℕ → List N → ℕ
  own w k [] = 0
  own w k (n ∷ ns) = w k + own w (k + 1) ns

  more : (w f : ℕ → ℕ) (rs : List ℕ) (k : ℕ) (ns : List N) → Differ rs → All (λ i. i < k) rs →
      ((j : ℕ) (d : N) → j < length ns → All (λ c. c < k + j) (kids (get_or ns j d))) →
      total f rs + own w k ns ≤ total (grow (weigh w) f k (numbered k ns)) (roots_from kids rs k ns)
  more w f rs k [] d low h = omega arith
  more w f rs k (n ∷ ns) d low h =
      let g = with_one f k (w k + total f (kids n)) in
      let kept = without_all (kids n) rs in
      let low' = all_without_all (λ i. i < k) (kids n) rs low in
      let same : total g kept ≡ total f kept =
      total_same g f kept
      (λ j e lt. let b = low' j e lt in
      one_other f k (w k + total f (kids n)) (get_or kept j e) (λ x. absurd (omega (arith, b, x)))) in
      let new : g k ≡ w k + total f (kids n) = one_same f k (w k + total f (kids n)) k refl in
      let less = lost f (kids n) rs d in
      let rest = more w g (kept ++ k ∷ []) (k + 1) ns
      (differ_push kept k (differ_without_all (kids n) rs d)
      (λ j e lt x. let b = low' j e lt in absurd (omega (arith, b, x))))
      (All-push (λ i. i < k + 1) kept k (λ j e lt. let b = low' j e lt in omega (arith, b)) (omega arith))
      (λ j e lt. subst (λ m. All (λ c. c < m) (kids (get_or ns j e))) (omega arith)
      (h (suc j) e (omega (arith, lt)))) in
      omega (arith, rest, total_push g kept k, same, new, less)

  -- the roots weigh all the nodes at least
  pub all_weigh : (w : ℕ → ℕ) (ns : List N) → InOrder kids ns → own w 0 ns ≤ total (weight w ns) (roots kids ns)
  all_weigh w ns h =
      let x = more w (λ i. 0) [] 0 ns tt (All-nil (λ i. i < 0))
      (λ j d lt. subst (λ m. All (λ c. c < m) (kids (get_or ns j d))) (omega arith) (h j d lt)) in
      omega (arith, x)

  -- weights add up
  abbrev pub one : ℕ → ℕ → ℕ
  one m i = if i == m then 1 else 0

  abbrev others : ℕ → ℕ → ℕ
  others m i = if i == m then 0 else 1

  split : (m i : ℕ) → one m i + others m i ≡ 1
  split m i = elim (cases_eq i m) as (λ x. one m i + others m i ≡ 1) [
    | inl e ↦ omega (arith, if_same {A = ℕ} i m 1 0 e, if_same {A = ℕ} i m 0 1 e)
    | inr ne ↦ omega (arith, if_other {A = ℕ} i m 1 0 ne, if_other {A = ℕ} i m 0 1 ne)
  ]

  total_split : (f g h : ℕ → ℕ) (ks : List ℕ) → ((k : ℕ) → f k + g k ≡ h k) → total f ks + total g ks ≡ total h ks
  total_split f g h [] e = refl
  total_split f g h (k ∷ ks) e = omega (arith, e k, total_split f g h ks e)

  grow_split : (m : ℕ) (f g h : ℕ → ℕ) (k : ℕ) (ns : List N) → ((i : ℕ) → f i + g i ≡ h i) → (i : ℕ) →
      grow (weigh (one m)) f k (numbered k ns) i + grow (weigh (others m)) g k (numbered k ns) i
      ≡ grow (weigh (λ j. 1)) h k (numbered k ns) i
  grow_split m f g h k [] e i = e i
  grow_split m f g h k (n ∷ ns) e i =
      let x = one m k + total f (kids n) in
      let y = others m k + total g (kids n) in
      let z = 1 + total h (kids n) in
      let here : x + y ≡ z = omega (arith, split m k, total_split f g h (kids n) e) in
      grow_split m (with_one f k x) (with_one g k y) (with_one h k z) (k + 1) ns
      (λ j. elim (cases_eq j k) as (λ q. with_one f k x j + with_one g k y j ≡ with_one h k z j) [
        | inl s ↦ omega (arith, one_same f k x j s, one_same g k y j s, one_same h k z j s, here)
        | inr t ↦ omega (arith, one_other f k x j t, one_other g k y j t, one_other h k z j t, e j)
      ]) i

  own_split : (m k : ℕ) (ns : List N) → own (one m) k ns + own (others m) k ns ≡ length ns
  own_split m k [] = refl
  own_split m k (n ∷ ns) = omega (arith, split m k, own_split m (k + 1) ns)

  -- how often node m occurs in node i
  abbrev pub times : List N → ℕ → ℕ → ℕ
  times ns m = weight (one m) ns

  pub times_is : (ns : List N) (m i : ℕ) (d : N) → i < length ns → InOrder kids ns →
      times ns m i ≡ one m i + total (times ns m) (kids (get_or ns i d))
  times_is ns m i d lt h = weight_is (one m) ns i d lt h

  pub times_self : (ns : List N) (i : ℕ) (d : N) → i < length ns → InOrder kids ns → 1 ≤ times ns i i
  times_self ns i d lt h = omega (arith, times_is ns i i d lt h, if_same {A = ℕ} i i 1 0 refl)

  -- a node occurs at most once in a root that weighs as much as there are nodes
  pub once : (ns : List N) (r m : ℕ) → InOrder kids ns → roots kids ns ≡ r ∷ [] → weight (λ j. 1) ns r ≡ length ns →
      times ns m r ≤ 1
  once ns r m h one_root all =
      let x = all_weigh (others m) ns h in
      let y : total (weight (others m) ns) (roots kids ns) ≡ weight (others m) ns r + 0 =
      ap (total (weight (others m) ns)) one_root in
      let z = grow_split m (λ i. 0) (λ i. 0) (λ i. 0) 0 ns (λ i. refl) r in
      let few : own (one m) 0 ns ≤ 1 = few_own m 0 ns in
      omega (arith, x, y, z, all, own_split m 0 ns, few)
    where
      later : (m k : ℕ) (ns : List N) → m < k → own (one m) k ns ≡ 0
      later m k [] lt = refl
      later m k (n ∷ ns) lt =
          omega (
            arith,
            if_other {A = ℕ} k m 1 0 (λ e. absurd (omega (arith, lt, e))),
            later m (k + 1) ns (omega (arith, lt)),
          )

      few_own : (m k : ℕ) (ns : List N) → own (one m) k ns ≤ 1
      few_own m k [] = omega arith
      few_own m k (n ∷ ns) = elim (cases_eq k m) as (λ x. own (one m) k (n ∷ ns) ≤ 1) [
        | inl e ↦ omega (arith, if_same {A = ℕ} k m 1 0 e, later m (k + 1) ns (omega (arith, e)))
        | inr ne ↦ (let x = few_own m (k + 1) ns in omega (arith, if_other {A = ℕ} k m 1 0 ne, x))
      ]
