-- The nodes that are nobody's child.
use Rattle.std.proofs.Common.{◌≡◌, ◌≢◌, ℕ, ◌+◌, ◌<◌, ◌==◌, ◌⊎◌, if◌then◌else◌, inl, inr, List, [], ◌∷◌, ◌++◌, refl, ap}
use Rattle.std.proofs.Common.{◌∙◌, sym, subst, arith, All, length}
use Rattle.std.proofs.lemmas.Bool.{cases_eq}
use Rattle.std.proofs.lemmas.Bool.Decides.{nat_tests}
use Rattle.std.proofs.lemmas.List.Elements.{All-nil, All-cons, All-head, All-tail, All-push}
use Rattle.calc_core.specs.Roots.{Differ, Among, total, without, without_all, roots_from, roots}

pub if_same : {A : Type 0} (j k : ℕ) (a b : A) → j ≡ k → (if j == k then a else b) ≡ a
if_same j k a b e = grind (arith, nat_tests)

pub if_other : {A : Type 0} (j k : ℕ) (a b : A) → j ≢ k → (if j == k then a else b) ≡ b
if_other j k a b ne = grind (arith, nat_tests)

-- a fact of the rest is one of the list without k, if it holds of the list
pub all_without : (P : ℕ → Type 0) (k : ℕ) (rs : List ℕ) → All P rs → All P (without k rs)
all_without P k [] h = h
all_without P k (j ∷ js) h =
    let more = all_without P k js (All-tail P j js h) in
    elim (cases_eq j k) as (λ x. All P (without k (j ∷ js))) [
      | inl e ↦ subst (All P) (sym (if_same j k (without k js) (j ∷ without k js) e)) more
      | inr ne ↦ subst (All P) (sym (if_other j k (without k js) (j ∷ without k js) ne))
          (All-cons P j (without k js) (All-head P j js h) more)
    ]

pub differ_without : (k : ℕ) (rs : List ℕ) → Differ rs → Differ (without k rs)
differ_without k [] d = tt
differ_without k (j ∷ js) d =
    elim (cases_eq j k) as (λ x. Differ (without k (j ∷ js))) [
      | inl e ↦ subst Differ (sym (if_same j k (without k js) (j ∷ without k js) e)) (differ_without k js d.1)
      | inr ne ↦ subst Differ (sym (if_other j k (without k js) (j ∷ without k js) ne))
          (all_without (λ i. i ≢ j) k js d.0, differ_without k js d.1)
    ]

-- what is left
pub among_left : (k : ℕ) (rs : List ℕ) (i : ℕ) → Among rs i → i ≢ k → Among (without k rs) i
among_left k [] i m ne = m
among_left k (j ∷ js) i m ne =
    elim (cases_eq j k) as (λ x. Among (without k (j ∷ js)) i) [
      | inl e ↦ subst (λ xs. Among xs i) (sym (if_same j k (without k js) (j ∷ without k js) e))
          (elim m as (λ x. Among (without k js) i) [ inl x ↦ absurd (ne (x ∙ e)) | inr y ↦ among_left k js i y ne ])
      | inr nk ↦ subst (λ xs. Among xs i) (sym (if_other j k (without k js) (j ∷ without k js) nk))
          (elim m as (λ x. Among (j ∷ without k js) i) [ inl x ↦ inl x | inr y ↦ inr (among_left k js i y ne) ])
    ]

pub among_was : (k : ℕ) (rs : List ℕ) (i : ℕ) → Among (without k rs) i → Among rs i × (i ≢ k)
among_was k [] i m = absurd m
among_was k (j ∷ js) i m =
    elim (cases_eq j k) as (λ x. Among (j ∷ js) i × (i ≢ k)) [
      | inl e ↦ (let r =
          among_was k js i (subst (λ xs. Among xs i) (if_same j k (without k js) (j ∷ without k js) e) m) in
          (inr r.0, r.1))
      | inr nk ↦ elim (subst (λ xs. Among xs i) (if_other j k (without k js) (j ∷ without k js) nk) m) as
          (λ x. Among (j ∷ js) i × (i ≢ k)) [
            | inl x ↦ (inl x, λ y. nk (sym x ∙ y))
            | inr y ↦ (let r = among_was k js i y in (inr r.0, r.1))
          ]
    ]

absent_total : (f : ℕ → ℕ) (k : ℕ) (rs : List ℕ) → All (λ j. j ≢ k) rs → total f (without k rs) ≡ total f rs
absent_total f k [] h = refl
absent_total f k (j ∷ js) h =
    let ne = All-head (λ j. j ≢ k) j js h in
    ap (total f) (if_other j k (without k js) (j ∷ without k js) ne)
    ∙ ap (λ n. f j + n) (absent_total f k js (All-tail (λ j. j ≢ k) j js h))

pub total_without : (f : ℕ → ℕ) (k : ℕ) (rs : List ℕ) → Differ rs → Among rs k →
    total f (without k rs) + f k ≡ total f rs
total_without f k [] d m = absurd m
total_without f k (j ∷ js) d m =
    elim (cases_eq j k) as (λ x. total f (without k (j ∷ js)) + f k ≡ total f (j ∷ js)) [
      | inl e ↦ omega (
        arith,
        ap (total f) (if_same j k (without k js) (j ∷ without k js) e),
        absent_total f k js (subst (λ i. All (λ x. x ≢ i) js) e d.0),
        ap f e,
      )
      | inr nk ↦ elim m as (λ x. total f (without k (j ∷ js)) + f k ≡ total f (j ∷ js)) [
        | inl x ↦ absurd (nk (sym x))
        | inr y ↦ omega (
          arith,
          ap (total f) (if_other j k (without k js) (j ∷ without k js) nk),
          total_without f k js d.1 y,
        )
      ]
    ]

-- several
pub all_without_all : (P : ℕ → Type 0) (ks rs : List ℕ) → All P rs → All P (without_all ks rs)
all_without_all P [] rs h = h
all_without_all P (k ∷ ks) rs h = all_without_all P ks (without k rs) (all_without P k rs h)

pub differ_without_all : (ks rs : List ℕ) → Differ rs → Differ (without_all ks rs)
differ_without_all [] rs d = d
differ_without_all (k ∷ ks) rs d = differ_without_all ks (without k rs) (differ_without k rs d)

pub among_left_all : (ks rs : List ℕ) (i : ℕ) → Among rs i → All (λ j. j ≢ i) ks → Among (without_all ks rs) i
among_left_all [] rs i m h = m
among_left_all (k ∷ ks) rs i m h =
    among_left_all ks (without k rs) i (among_left k rs i m (λ e. All-head (λ j. j ≢ i) k ks h (sym e)))
    (All-tail (λ j. j ≢ i) k ks h)

pub among_was_all : (ks rs : List ℕ) (i : ℕ) → Among (without_all ks rs) i → Among rs i × All (λ j. j ≢ i) ks
among_was_all [] rs i m = (m, All-nil (λ j. j ≢ i))
among_was_all (k ∷ ks) rs i m =
    let r = among_was_all ks (without k rs) i m in
    let s = among_was k rs i r.0 in
    (s.0, All-cons (λ j. j ≢ i) k ks (λ e. s.1 (sym e)) r.1)

still : (k : ℕ) (ks rs : List ℕ) → All (λ i. Among rs i) ks → All (λ j. j ≢ k) ks → All (λ i. Among (without k rs) i) ks
still k ks rs h d = λ i e lt. among_left k rs _ (h i e lt) (d i e lt)

pub total_without_all : (f : ℕ → ℕ) (ks rs : List ℕ) → Differ rs → Differ ks → All (λ i. Among rs i) ks →
    total f (without_all ks rs) + total f ks ≡ total f rs
total_without_all f [] rs d e h = omega arith
total_without_all f (k ∷ ks) rs d e h =
    omega (
      arith,
      total_without f k rs d (All-head (λ i. Among rs i) k ks h),
      total_without_all f ks (without k rs) (differ_without k rs d) e.1
          (still k ks rs (All-tail (λ i. Among rs i) k ks h) e.0),
    )

pub total_push : (f : ℕ → ℕ) (ks : List ℕ) (k : ℕ) → total f (ks ++ k ∷ []) ≡ total f ks + f k
total_push f [] k = omega arith
total_push f (j ∷ js) k = omega (arith, total_push f js k)

pub among_push : (ks : List ℕ) (k : ℕ) (j : ℕ) → (j ≡ k) ⊎ Among ks j → Among (ks ++ k ∷ []) j
among_push [] k j (inl e) = inl e
among_push [] k j (inr x) = absurd x
among_push (x ∷ xs) k j (inl e) = inr (among_push xs k j (inl e))
among_push (x ∷ xs) k j (inr (inl e)) = inl e
among_push (x ∷ xs) k j (inr (inr m)) = inr (among_push xs k j (inr m))

pub among_pop : (ks : List ℕ) (k : ℕ) (j : ℕ) → Among (ks ++ k ∷ []) j → (j ≡ k) ⊎ Among ks j
among_pop [] k j (inl e) = inl e
among_pop [] k j (inr x) = absurd x
among_pop (x ∷ xs) k j (inl e) = inr (inl e)
among_pop (x ∷ xs) k j (inr m) =
    elim (among_pop xs k j m) as (λ y. (j ≡ k) ⊎ Among (x ∷ xs) j) [ inl e ↦ inl e | inr n ↦ inr (inr n) ]

pub differ_push : (ks : List ℕ) (k : ℕ) → Differ ks → All (λ j. j ≢ k) ks → Differ (ks ++ k ∷ [])
differ_push [] k d h = (All-nil (λ j. j ≢ k), tt)
differ_push (x ∷ xs) k d h =
    let ne = All-head (λ j. j ≢ k) x xs h in
    (All-push (λ j. j ≢ x) xs k d.0 (λ e. ne (sym e)), differ_push xs k d.1 (All-tail (λ j. j ≢ k) x xs h))

pub of_among : (P : ℕ → Type 0) (ks : List ℕ) (k : ℕ) → All P ks → Among ks k → P k
of_among P [] k h m = absurd m
of_among P (j ∷ js) k h (inl e) = subst P (sym e) (All-head P j js h)
of_among P (j ∷ js) k h (inr m) = of_among P js k (All-tail P j js h) m

-- a list in two pieces
pub all_before : (P : ℕ → Type 0) (xs ys : List ℕ) → All P (xs ++ ys) → All P xs
all_before P [] ys h = All-nil P
all_before P (x ∷ xs) ys h =
    All-cons P x xs (All-head P x (xs ++ ys) h) (all_before P xs ys (All-tail P x (xs ++ ys) h))

pub all_after : (P : ℕ → Type 0) (xs ys : List ℕ) → All P (xs ++ ys) → All P ys
all_after P [] ys h = h
all_after P (x ∷ xs) ys h = all_after P xs ys (All-tail P x (xs ++ ys) h)

pub differ_back : (xs ys : List ℕ) → Differ (xs ++ ys) → Differ ys
differ_back [] ys d = d
differ_back (x ∷ xs) ys d = differ_back xs ys d.1

-- without the last ones
without_absent : (k : ℕ) (xs : List ℕ) → All (λ j. j ≢ k) xs → without k xs ≡ xs
without_absent k [] h = refl
without_absent k (x ∷ xs) h =
    if_other x k (without k xs) (x ∷ without k xs) (All-head (λ j. j ≢ k) x xs h)
    ∙ ap (λ (ys : List ℕ). x ∷ ys) (without_absent k xs (All-tail (λ j. j ≢ k) x xs h))

without_between : (k : ℕ) (xs ys : List ℕ) → Differ (xs ++ k ∷ ys) → without k (xs ++ k ∷ ys) ≡ xs ++ ys
without_between k [] ys d = if_same k k (without k ys) (k ∷ without k ys) refl ∙ without_absent k ys d.0
without_between k (x ∷ xs) ys d =
    let ne : x ≢ k = λ e. All-head (λ j. j ≢ x) k ys (all_after (λ j. j ≢ x) xs (k ∷ ys) d.0) (sym e) in
    if_other x k (without k (xs ++ k ∷ ys)) (x ∷ without k (xs ++ k ∷ ys)) ne
    ∙ ap (λ (zs : List ℕ). x ∷ zs) (without_between k xs ys d.1)

differ_between : (k : ℕ) (xs ys : List ℕ) → Differ (xs ++ k ∷ ys) → Differ (xs ++ ys)
differ_between k [] ys d = d.1
differ_between k (x ∷ xs) ys d = (
  all_join (λ j. j ≢ x) xs ys (all_before (λ j. j ≢ x) xs (k ∷ ys) d.0)
      (All-tail (λ j. j ≢ x) k ys (all_after (λ j. j ≢ x) xs (k ∷ ys) d.0)),
  differ_between k xs ys d.1,
)
  where
    all_join : (P : ℕ → Type 0) (xs ys : List ℕ) → All P xs → All P ys → All P (xs ++ ys)
    all_join P [] ys h g = g
    all_join P (x ∷ xs) ys h g = All-cons P x (xs ++ ys) (All-head P x xs h) (all_join P xs ys (All-tail P x xs h) g)

pub without_last : (ks js : List ℕ) → Differ (ks ++ js) → without_all js (ks ++ js) ≡ ks
without_last ks [] d = append_nil ks
  where
    append_nil : (xs : List ℕ) → xs ++ [] ≡ xs
    append_nil [] = refl
    append_nil (x ∷ xs) = ap (λ (ys : List ℕ). x ∷ ys) (append_nil xs)
without_last ks (j ∷ js) d =
    ap (without_all js) (without_between j ks js d) ∙ without_last ks js (differ_between j ks js d)

pub among_last : (ks js : List ℕ) → All (λ k. Among (ks ++ js) k) js
among_last ks [] = All-nil (λ k. Among (ks ++ []) k)
among_last ks (j ∷ js) =
    All-cons (λ k. Among (ks ++ j ∷ js) k) j js (first ks) (λ i e lt. later ks _ (among_last ks js i e lt))
  where
    first : (xs : List ℕ) → Among (xs ++ j ∷ js) j
    first [] = inl refl
    first (x ∷ xs) = inr (first xs)

    later : (xs : List ℕ) (k : ℕ) → Among (xs ++ js) k → Among (xs ++ j ∷ js) k
    later [] k m = inr m
    later (x ∷ xs) k (inl e) = inl e
    later (x ∷ xs) k (inr m) = inr (later xs k m)

-- the one number of a list of different ones
pub just_one : (ks : List ℕ) (k : ℕ) → Differ ks → Among ks k → ((j : ℕ) → Among ks j → j ≡ k) → ks ≡ k ∷ []
just_one [] k d m one = absurd m
just_one (j ∷ []) k d m one = ap (λ (x : ℕ). x ∷ []) (one j (inl refl))
just_one (j ∷ i ∷ js) k d m one =
    absurd (All-head (λ x. x ≢ j) i js d.0 (one i (inr (inl refl)) ∙ sym (one j (inl refl))))

pub same_total : (f g : ℕ → ℕ) (ks : List ℕ) → All (λ k. f k ≡ g k) ks → total f ks ≡ total g ks
same_total f g [] h = refl
same_total f g (k ∷ ks) h =
    omega (arith, All-head (λ k. f k ≡ g k) k ks h, same_total f g ks (All-tail (λ k. f k ≡ g k) k ks h))

module _ {N : Type 0} (kids : N → List ℕ) where
  from_push : (rs : List ℕ) (k : ℕ) (ns : List N) (n : N) →
      roots_from kids rs k (ns ++ n ∷ []) ≡ without_all (kids n) (roots_from kids rs k ns) ++ (k + length ns) ∷ []
  from_push rs k [] n = ap (λ i. without_all (kids n) rs ++ i ∷ []) (omega arith)
  from_push rs k (m ∷ ns) n = from_push (without_all (kids m) rs ++ k ∷ []) (k + 1) ns n
      ∙ ap (λ i. without_all (kids n) (roots_from kids (without_all (kids m) rs ++ k ∷ []) (k + 1) ns) ++ i ∷ [])
      (omega arith)

  pub roots_push : (ns : List N) (n : N) → roots kids (ns ++ n ∷ []) ≡ without_all (kids n) (roots kids ns)
      ++ length ns ∷ []
  roots_push ns n = from_push [] 0 ns n ∙ ap (λ i. without_all (kids n) (roots kids ns) ++ i ∷ []) (omega arith)

  from_ok : (rs : List ℕ) (k : ℕ) (ns : List N) → All (λ j. j < k) rs → Differ rs →
      All (λ j. j < k + length ns) (roots_from kids rs k ns) × Differ (roots_from kids rs k ns)
  from_ok rs k [] low d = (λ i e lt. let b = low i e lt in omega (arith, b), d)
  from_ok rs k (n ∷ ns) low d =
      let low' : All (λ j. j < k) (without_all (kids n) rs) = all_without_all (λ j. j < k) (kids n) rs low in
      let r = from_ok (without_all (kids n) rs ++ k ∷ []) (k + 1) ns
      (All-push (λ j. j < k + 1) (without_all (kids n) rs) k (λ i e lt. let b = low' i e lt in omega (arith, b))
      (omega arith))
      (differ_push (without_all (kids n) rs) k (differ_without_all (kids n) rs d)
      (λ i e lt x. let b = low' i e lt in absurd (omega (arith, b, x)))) in
      (λ i e lt. let b = r.0 i e lt in omega (arith, b), r.1)

  pub roots_low : (ns : List N) → All (λ j. j < length ns) (roots kids ns)
  roots_low ns = λ i e lt. let b = (from_ok [] 0 ns (All-nil (λ j. j < 0)) tt).0 i e lt in omega (arith, b)

  pub roots_differ : (ns : List N) → Differ (roots kids ns)
  roots_differ ns = (from_ok [] 0 ns (All-nil (λ j. j < 0)) tt).1

  -- the trees of all roots have as many nodes as there are, where a node has one more than its children
  pub counted_push : (old new : ℕ → ℕ) (ns : List N) (n : N) → ((k : ℕ) → k < length ns → new k ≡ old k) →
      new (length ns) ≡ 1 + total old (kids n) →
      Differ (kids n) → All (λ k. Among (roots kids ns) k) (kids n) → total old (roots kids ns) ≡ length ns →
      total new (roots kids (ns ++ n ∷ [])) ≡ length ns + 1
  counted_push old new ns n same one d h c =
      let left = without_all (kids n) (roots kids ns) in
      let low : All (λ j. j < length ns) left =
      all_without_all (λ j. j < length ns) (kids n) (roots kids ns) (roots_low ns) in
      omega (
        arith,
        ap (total new) (roots_push ns n),
        total_push new left (length ns),
        same_total new old left (λ i e lt. same _ (low i e lt)),
        total_without_all old (kids n) (roots kids ns) (roots_differ ns) d h,
        one,
        c,
      )

  last_from : (rs : List ℕ) (k : ℕ) (ns : List N) (j : ℕ) → j + 1 ≡ k + length ns → 0 < length ns →
      Among (roots_from kids rs k ns) j
  last_from rs k [] j e lt = absurd (omega (arith, lt))
  last_from rs k (n ∷ []) j e lt = among_push (without_all (kids n) rs) k j (inl (omega (arith, e)))
  last_from rs k (n ∷ m ∷ ns) j e lt =
      last_from (without_all (kids n) rs ++ k ∷ []) (k + 1) (m ∷ ns) j (omega (arith, e)) (omega arith)

  -- the last node is nobody's child
  pub last_among : (ns : List N) (k : ℕ) → length ns ≡ k + 1 → Among (roots kids ns) k
  last_among ns k e = last_from [] 0 ns k (omega (arith, e)) (omega (arith, e))
