-- The tree of a node by its own children, and what a node more changes.
use Rattle.std.proofs.Common.{◌≡◌, ◌≢◌, ℕ, zero, suc, ◌+◌, ◌<◌, inl, inr, List, [], ◌∷◌, ◌++◌, refl, ap, ◌∙◌, sym}
use Rattle.std.proofs.Common.{subst, length, get_or, arith, All}
use Rattle.std.proofs.lemmas.Bool.{cases_eq}
use Rattle.std.proofs.lemmas.Bool.Decides.{nat_tests}
use Rattle.std.proofs.lemmas.List.{get_or_append_left, length_push}
use Rattle.std.proofs.Math.Seq.{get_or-append_seam}
use Rattle.calc_core.specs.Arena.{with_one, grow, parts, InOrder}

pub one_same : {T : Type 0} (f : ℕ → T) (i : ℕ) (t : T) (k : ℕ) → k ≡ i → with_one f i t k ≡ t
one_same f i t k e = grind (arith, nat_tests)

pub one_other : {T : Type 0} (f : ℕ → T) (i : ℕ) (t : T) (k : ℕ) → k ≢ i → with_one f i t k ≡ f k
one_other f i t k e = grind (arith, nat_tests)

module _ {N T : Type 0} (kids : N → List ℕ) (build : (ℕ → T) → N → T)
    (local : (f g : ℕ → T) (n : N) → All (λ k. f k ≡ g k) (kids n) → build f n ≡ build g n) where
  -- the trees made so far stay
  keeps : (f : ℕ → T) (k : ℕ) (ns : List N) (i : ℕ) → i < k → grow build f k ns i ≡ f i
  keeps f k [] i lt = refl
  keeps f k (n ∷ ns) i lt =
      keeps (with_one f k (build f n)) (k + 1) ns i (omega (arith, lt))
      ∙ one_other f k (build f n) i (λ e. absurd (omega (arith, lt, e)))

  at : (f : ℕ → T) (k : ℕ) (ns : List N) (i : ℕ) (d : N) → i < length ns →
      ((j : ℕ) (e : N) → j < length ns → All (λ c. c < k + j) (kids (get_or ns j e))) →
      grow build f k ns (k + i) ≡ build (grow build f k ns) (get_or ns i d)
  at f k [] i d lt h = absurd (omega (arith, lt))
  at f k (n ∷ ns) zero d lt h =
      let g = with_one f k (build f n) in
      ap (grow build g (k + 1) ns) (omega arith)
      ∙ keeps g (k + 1) ns k (omega arith)
      ∙ one_same f k (build f n) k refl
      ∙ local f (grow build g (k + 1) ns) n (λ j e in'.
      let low = h 0 n (omega arith) j e in' in
      let c = get_or (kids n) j e in
      sym (keeps g (k + 1) ns c (omega (arith, low))
      ∙ one_other f k (build f n) c (λ x. absurd (omega (arith, low, x)))))
  at f k (n ∷ ns) (suc i) d lt h =
      let g = with_one f k (build f n) in
      ap (grow build g (k + 1) ns) (omega arith)
      ∙ at g (k + 1) ns i d (omega (arith, lt)) (λ j e lt'.
      subst (λ m. All (λ c. c < m) (kids (get_or ns j e))) (omega arith) (h (suc j) e (omega (arith, lt'))))

  -- the tree of a node
  pub part_at : (blank : T) (ns : List N) (i : ℕ) (d : N) → i < length ns → InOrder kids ns →
      parts blank build ns i ≡ build (parts blank build ns) (get_or ns i d)
  part_at blank ns i d lt h =
      ap (parts blank build ns) (omega arith)
      ∙ at (λ i. blank) 0 ns i d lt
      (λ j e lt'. subst (λ m. All (λ c. c < m) (kids (get_or ns j e))) (omega arith) (h j e lt'))

  -- one node more
  grown_new : (f : ℕ → T) (k : ℕ) (ns : List N) (n : N) (i : ℕ) → i ≡ k + length ns →
      grow build f k (ns ++ n ∷ []) i ≡ build (grow build f k ns) n
  grown_new f k [] n i e = one_same f k (build f n) i (omega (arith, e))
  grown_new f k (m ∷ ns) n i e = grown_new (with_one f k (build f m)) (k + 1) ns n i (omega (arith, e))

  grown_old : (f : ℕ → T) (k : ℕ) (ns : List N) (n : N) (i : ℕ) → i < k + length ns →
      grow build f k (ns ++ n ∷ []) i ≡ grow build f k ns i
  grown_old f k [] n i lt = one_other f k (build f n) i (λ e. absurd (omega (arith, lt, e)))
  grown_old f k (m ∷ ns) n i lt = grown_old (with_one f k (build f m)) (k + 1) ns n i (omega (arith, lt))

  pub part_new : (blank : T) (ns : List N) (n : N) →
      parts blank build (ns ++ n ∷ []) (length ns) ≡ build (parts blank build ns) n
  part_new blank ns n = grown_new (λ i. blank) 0 ns n (length ns) (omega arith)

  pub part_old : (blank : T) (ns : List N) (n : N) (i : ℕ) → i < length ns →
      parts blank build (ns ++ n ∷ []) i ≡ parts blank build ns i
  part_old blank ns n i lt = grown_old (λ i. blank) 0 ns n i (omega (arith, lt))

module _ {N : Type 0} (kids : N → List ℕ) where
  -- a fact of the nodes, of those before and of the last one
  of_both : (P : ℕ → N → Type 0) (ns : List N) (n : N) → ((i : ℕ) (d : N) → i < length ns → P i (get_or ns i d)) →
      P (length ns) n →
      (i : ℕ) (d : N) → i < length (ns ++ n ∷ []) → P i (get_or (ns ++ n ∷ []) i d)
  of_both P ns n old new i d lt =
      elim (cases_eq i (length ns)) as (λ x. P i (get_or (ns ++ n ∷ []) i d)) [
        | inl e ↦ subst (λ j. P j (get_or (ns ++ n ∷ []) j d)) (sym e)
            (subst (P (length ns)) (sym (get_or-append_seam ns n [] d)) new)
        | inr ne ↦ (let below : i < length ns = omega (arith, lt, length_push ns n, ne) in
            subst (P i) (sym (get_or_append_left ns (n ∷ []) d i below)) (old i d below))
      ]

  pub order_new : (ns : List N) (n : N) → InOrder kids ns → All (λ k. k < length ns) (kids n) →
      InOrder kids (ns ++ n ∷ [])
  order_new ns n h low = of_both (λ i m. All (λ k. k < i) (kids m)) ns n h low
