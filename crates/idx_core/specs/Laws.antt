-- The laws of shift and put, proved once for every kind of tree.
use Rattle.std.proofs.Common.{◌≡◌, ℕ, zero, suc, ◌+◌, ◌-◌, ◌<◌, ◌≤◌, ◌⊎◌, ◌↔◌, inl, inr, sym, ap, ◌∙◌, refl, arith}
use Rattle.std.proofs.Common.{zero-add, subst}
use Rattle.std.proofs.lemmas.Bool.Decides.{nat_tests}
use Rattle.std.proofs.lemmas.Bool.{cases_lt, cases_order}
use Rattle.idx_core.specs.Over.{deep, At, Over, shifted, putted, IsOver, IsPart, Each, IsEach, IsEachPart, BelowAt}
use Rattle.idx_core.specs.Over.{AnyDepth}

pub deep_is : (a e : ℕ) → deep a e ≡ a + e
deep_is a zero = omega arith
deep_is a (suc e) = deep_is (a + 1) e ∙ omega arith

deep_more : (n a e : ℕ) → deep a (n + e) ≡ deep (a + n) e
deep_more n a e = deep_is a (n + e) ∙ omega arith ∙ sym (deep_is (a + n) e)

-- n more binders: a fact about each depth, read below them
pub under : (P : ℕ → Type 0) (n a : ℕ) → ((e : ℕ) → P (deep a e)) → (e : ℕ) → P (deep (a + n) e)
under P n a h e = subst P (deep_is a (n + e) ∙ omega arith ∙ sym (deep_is (a + n) e)) (h (n + e))

pub under2 : (P : ℕ → ℕ → Type 0) (n a b : ℕ) → ((e : ℕ) → P (deep a e) (deep b e)) → (e : ℕ) →
    P (deep (a + n) e) (deep (b + n) e)
under2 P n a b h e = subst (λ x. P x (deep (b + n) e)) (deep_more n a e)
    (subst (P (deep a (n + e))) (deep_more n b e) (h (n + e)))

pub under3 : (P : ℕ → ℕ → ℕ → Type 0) (n a b c : ℕ) → ((e : ℕ) → P (deep a e) (deep b e) (deep c e)) → (e : ℕ) →
    P (deep (a + n) e) (deep (b + n) e) (deep (c + n) e)
under3 P n a b c h e = subst (λ x. P x (deep (b + n) e) (deep (c + n) e)) (deep_more n a e)
    (subst (λ x. P (deep a (n + e)) x (deep (c + n) e)) (deep_more n b e)
    (subst (P (deep a (n + e)) (deep b (n + e))) (deep_more n c e) (h (n + e))))

pub shifted_lt : {P : Type 0} (var : ℕ → P) (k d i : ℕ) → i < d → shifted var k d i ≡ var i
shifted_lt var k d i h = grind (arith, nat_tests)

pub shifted_ge : {P : Type 0} (var : ℕ → P) (k d i : ℕ) → d ≤ i → shifted var k d i ≡ var (i + k)
shifted_ge var k d i h = grind (arith, nat_tests)

pub putted_lt : {P : Type 0} (var : ℕ → P) (over : Over P P) (c : ℕ) (s : P) (d i : ℕ) → i < d →
    putted var over c s d i ≡ var i
putted_lt var over c s d i h = grind (arith, nat_tests)

pub putted_eq : {P : Type 0} (var : ℕ → P) (over : Over P P) (c : ℕ) (s : P) (d i : ℕ) → i ≡ d →
    putted var over c s d i ≡ over (shifted var (d - c)) 0 s
putted_eq var over c s d i h = grind (arith, nat_tests)

pub putted_gt : {P : Type 0} (var : ℕ → P) (over : Over P P) (c : ℕ) (s : P) (d i : ℕ) → d < i →
    putted var over c s d i ≡ var (i - 1)
putted_gt var over c s d i h = grind (arith, nat_tests)

module _ {P : Type 0} {var : ℕ → P} {over_part : Over P P} (part : IsPart P var over_part) where
  -- a variable in or out of reach
  abbrev shift_part : ℕ → ℕ → P → P
  shift_part k c = over_part (shifted var k) c

  abbrev put_part : ℕ → P → P → P
  put_part c s = over_part (putted var over_part c s) c

  -- two steps in turn at a variable that both leave
  at_shift_lt : (k d i : ℕ) → i < d → over_part (shifted var k) d (var i) ≡ var i
  at_shift_lt k d i h = part.at_var (shifted var k) d i ∙ shifted_lt var k d i h

  at_shift_ge : (k d i : ℕ) → d ≤ i → over_part (shifted var k) d (var i) ≡ var (i + k)
  at_shift_ge k d i h = part.at_var (shifted var k) d i ∙ shifted_ge var k d i h

  at_put_lt : (c : ℕ) (s : P) (d i : ℕ) → i < d → over_part (putted var over_part c s) d (var i) ≡ var i
  at_put_lt c s d i h = part.at_var (putted var over_part c s) d i ∙ putted_lt var over_part c s d i h

  at_put_eq : (c : ℕ) (s : P) (d i : ℕ) → i ≡ d → over_part (putted var over_part c s) d (var i)
      ≡ shift_part (d - c) 0 s
  at_put_eq c s d i h = part.at_var (putted var over_part c s) d i ∙ putted_eq var over_part c s d i h

  at_put_gt : (c : ℕ) (s : P) (d i : ℕ) → d < i → over_part (putted var over_part c s) d (var i) ≡ var (i - 1)
  at_put_gt c s d i h = part.at_var (putted var over_part c s) d i ∙ putted_gt var over_part c s d i h

  module _ {T : Type 0} {over : Over P T} (is : IsOver P T var over_part over) where
    -- two pairs of steps that agree at each variable
    meets : (f g f' g' : At P) (a b a' b' : ℕ) →
        ((e i : ℕ) → over_part g (b + e) (f (a + e) i) ≡ over_part g' (b' + e) (f' (a' + e) i)) → (t : T) →
        over g b (over f a t) ≡ over g' b' (over f' a' t)
    meets f g f' g' a b a' b' h t =
        is.after f g both a b 0 (λ e i. rw (deep_is b e, deep_is a e, deep_is 0 e, zero-add e) (h e i)) t
        ∙ sym (is.after f' g' both a' b' 0 (λ e i. rw (deep_is b' e, deep_is a' e, deep_is 0 e, zero-add e) refl) t)
      where
        both : At P
        both e i = over_part g' (b' + e) (f' (a' + e) i)

    -- two steps that undo each other at each variable
    undone : (f g : At P) (a b : ℕ) → ((e i : ℕ) → over_part g (deep b e) (f (deep a e) i) ≡ var i) → (t : T) →
        over g b (over f a t) ≡ t
    undone f g a b h t = is.after f g (λ d i. var i) a b a h t ∙ is.keeps (λ d i. var i) a (λ e i. refl) t

    pub shift_add : (m n c : ℕ) (t : T) → over (shifted var n) c (over (shifted var m) c t)
        ≡ over (shifted var (m + n)) c t
    shift_add m n c t = is.after (shifted var m) (shifted var n) (shifted var (m + n)) c c c
        (λ e i. here (deep c e) i (cases_lt i (deep c e))) t
      where
        here : (d i : ℕ) → (i < d) ⊎ (d ≤ i) → over_part (shifted var n) d (shifted var m d i) ≡ shifted var (m + n) d i
        here d i (inl h) = rw (shifted_lt var m d i h, shifted_lt var (m + n) d i h) (at_shift_lt n d i h)
        here d i (inr h) = rw (shifted_ge var m d i h, shifted_ge var (m + n) d i h)
            (at_shift_ge n d (i + m) (omega arith) ∙ ap var (omega arith))

    -- what is put for a variable that is not there is not seen; the cut b may stand deeper than the put's own depth
    pub put_shift : (c : ℕ) (s : P) (b : ℕ) (t : T) → over (putted var over_part c s) b (over (shifted var 1) b t) ≡ t
    put_shift c s b t = undone (shifted var 1) (putted var over_part c s) b b
        (λ e i. here (deep b e) i (cases_lt i (deep b e))) t
      where
        here : (d i : ℕ) → (i < d) ⊎ (d ≤ i) → over_part (putted var over_part c s) d (shifted var 1 d i) ≡ var i
        here d i (inl h) = rw (shifted_lt var 1 d i h) (at_put_lt c s d i h)
        here d i (inr h) = rw (shifted_ge var 1 d i h) (at_put_gt c s d (i + 1) (omega arith) ∙ ap var (omega arith))

    -- two shifts exchange
    pub shift_shift : (m d n c : ℕ) (t : T) → c ≤ d → over (shifted var n) c (over (shifted var m) d t)
        ≡ over (shifted var m) (d + n) (over (shifted var n) c t)
    shift_shift m d n c t le = meets (shifted var m) (shifted var n) (shifted var n) (shifted var m) d c c (d + n)
        (λ e i. here e i (cases_lt i (c + e)) (cases_lt i (d + e))) t
      where
        here : (e i : ℕ) → (i < c + e) ⊎ (c + e ≤ i) → (i < d + e) ⊎ (d + e ≤ i) →
            over_part (shifted var n) (c + e) (shifted var m (d + e) i)
            ≡ over_part (shifted var m) (d + n + e) (shifted var n (c + e) i)
        here e i (inl h) o =
            rw (shifted_lt var m (d + e) i (omega arith), shifted_lt var n (c + e) i h)
            (at_shift_lt n (c + e) i h ∙ sym (at_shift_lt m (d + n + e) i (omega arith)))
        here e i (inr h) (inl o) =
            rw (shifted_lt var m (d + e) i o, shifted_ge var n (c + e) i h)
            (at_shift_ge n (c + e) i h ∙ sym (at_shift_lt m (d + n + e) (i + n) (omega arith)))
        here e i (inr h) (inr o) =
            rw (shifted_ge var m (d + e) i o, shifted_ge var n (c + e) i h)
            (at_shift_ge n (c + e) (i + m) (omega arith) ∙ ap var (omega arith)
            ∙ sym (at_shift_ge m (d + n + e) (i + n) (omega arith)))

  -- a shift of what was shifted further than the cut
  pub shift_past : (m n c : ℕ) (u : P) → c ≤ m → shift_part n c (shift_part m 0 u) ≡ shift_part (m + n) 0 u
  shift_past m n c u le = part.is_over.after (shifted var m) (shifted var n) (shifted var (m + n)) 0 c 0
      (λ e i. here e i (cases_lt i e)) u
    where
      here : (e i : ℕ) → (i < e) ⊎ (e ≤ i) → over_part (shifted var n) (deep c e) (shifted var m (deep 0 e) i)
          ≡ shifted var (m + n) (deep 0 e) i
      here e i (inl h) = rw (
        deep_is c e,
        deep_is 0 e,
        shifted_lt var m (0 + e) i (omega arith),
        shifted_lt var (m + n) (0 + e) i
            (omega arith),
      ) (at_shift_lt n (c + e) i (omega arith))
      here e i (inr h) = rw (
        deep_is c e,
        deep_is 0 e,
        shifted_ge var m (0 + e) i (omega arith),
        shifted_ge var (m + n) (0 + e) i
            (omega arith),
      ) (at_shift_ge n (c + e) (i + m) (omega arith) ∙ ap var (omega arith))

  -- what is put past a shift
  pub put_past : (e j : ℕ) (v u : P) → over_part (putted var over_part j v) (j + e) (shift_part e 0 u)
      ≡ shift_part e 0 (put_part j v u)
  put_past e j v u =
      meets part.is_over (shifted var e) (putted var over_part j v) (putted var over_part j v) (shifted var e) 0
      (j + e) j 0 (λ x i. here x i (cases_lt i x) (cases_order i (j + x))) u
    where
      here : (x i : ℕ) → (i < x) ⊎ (x ≤ i) → (i ≡ j + x) ⊎ ((i < j + x) ⊎ (j + x < i)) →
          over_part (putted var over_part j v) (j + e + x) (shifted var e (0 + x) i)
          ≡ over_part (shifted var e) (0 + x) (putted var over_part j v (j + x) i)
      here x i (inl h) o =
          rw (zero-add x, shifted_lt var e x i h, putted_lt var over_part j v (j + x) i (omega arith))
          (at_put_lt j v (j + e + x) i (omega arith) ∙ sym (at_shift_lt e x i h))
      here x i (inr h) (inl o) =
          rw (zero-add x, shifted_ge var e x i h, putted_eq var over_part j v (j + x) i o)
          (at_put_eq j v (j + e + x) (i + e) (omega arith) ∙ ap (λ n. shift_part n 0 v) (omega arith)
          ∙ sym (shift_past (j + x - j) e x v (omega arith)))
      here x i (inr h) (inr (inl o)) =
          rw (zero-add x, shifted_ge var e x i h, putted_lt var over_part j v (j + x) i o)
          (at_put_lt j v (j + e + x) (i + e) (omega arith) ∙ sym (at_shift_ge e x i h))
      here x i (inr h) (inr (inr o)) =
          rw (zero-add x, shifted_ge var e x i h, putted_gt var over_part j v (j + x) i o)
          (at_put_gt j v (j + e + x) (i + e) (omega arith) ∙ ap var (omega arith)
          ∙ sym (at_shift_ge e x (i - 1) (omega arith)))

  module _ {T : Type 0} {over : Over P T} (is : IsOver P T var over_part over) where
    -- two puts exchange, the one put into the other
    pub put_put : (i j : ℕ) (u v : P) (t : T) → i ≤ j →
        over (putted var over_part j v) j (over (putted var over_part i u) i t)
        ≡ over (putted var over_part i (put_part j v u)) i
        (over (putted var over_part (j + 1) (shift_part 1 i v)) (j + 1) t)
    put_put i j u v t le =
        meets is (putted var over_part i u) (putted var over_part j v)
        (putted var over_part (j + 1) (shift_part 1 i v)) (putted var over_part i (put_part j v u)) i j (j + 1) i
        (λ e x. here e x (cases_order x (i + e)) (cases_order x (j + 1 + e))) t
      where
        here : (e x : ℕ) → (x ≡ i + e) ⊎ ((x < i + e) ⊎ (i + e < x)) → (x ≡ j + 1 + e) ⊎
            ((x < j + 1 + e) ⊎ (j + 1 + e < x)) →
            over_part (putted var over_part j v) (j + e) (putted var over_part i u (i + e) x)
            ≡ over_part (putted var over_part i (put_part j v u)) (i + e)
            (putted var over_part (j + 1) (shift_part 1 i v) (j + 1 + e) x)
        here e x (inl h) o =
            rw (
              putted_eq var over_part i u (i + e) x h,
              putted_lt var over_part (j + 1) (shift_part 1 i v)
                  (j + 1 + e) x (omega arith),
            )
            (ap (λ n. over_part (putted var over_part j v) (j + e) (shift_part n 0 u)) (omega arith)
            ∙ put_past e j v u ∙ ap (λ n. shift_part n 0 (put_part j v u)) (omega arith)
            ∙ sym (at_put_eq i (put_part j v u) (i + e) x h))
        here e x (inr (inl h)) o =
            rw (
              putted_lt var over_part i u (i + e) x h,
              putted_lt var over_part (j + 1) (shift_part 1 i v)
                  (j + 1 + e) x (omega arith),
            )
            (at_put_lt j v (j + e) x (omega arith) ∙ sym (at_put_lt i (put_part j v u) (i + e) x h))
        here e x (inr (inr h)) (inr (inl o)) =
            rw (
              putted_gt var over_part i u (i + e) x h,
              putted_lt var over_part (j + 1) (shift_part 1 i v)
                  (j + 1 + e) x o,
            )
            (at_put_lt j v (j + e) (x - 1) (omega arith) ∙ sym (at_put_gt i (put_part j v u) (i + e) x h))
        here e x (inr (inr h)) (inl o) =
            rw (
              putted_gt var over_part i u (i + e) x h,
              putted_eq var over_part (j + 1) (shift_part 1 i v)
                  (j + 1 + e) x o,
            )
            (at_put_eq j v (j + e) (x - 1) (omega arith)
            ∙ ap (λ n. shift_part n 0 v) (omega arith)
            ∙ sym (put_shift part.is_over i (put_part j v u) (i + e) (shift_part e 0 v))
            ∙ ap (over_part (putted var over_part i (put_part j v u)) (i + e))
            (sym (shift_shift part.is_over 1 i e 0 v (omega arith)))
            ∙ ap (λ n. over_part (putted var over_part i (put_part j v u)) (i + e)
            (shift_part n 0 (shift_part 1 i v))) (omega arith))
        here e x (inr (inr h)) (inr (inr o)) =
            rw (
              putted_gt var over_part i u (i + e) x h,
              putted_gt var over_part (j + 1) (shift_part 1 i v)
                  (j + 1 + e) x o,
            )
            (at_put_gt j v (j + e) (x - 1) (omega arith)
            ∙ sym (at_put_gt i (put_part j v u) (i + e) (x - 1) (omega arith)))

-- the laws as a bound states them
pub shift_zero_law : {P T : Type 0} {var : ℕ → P} {over_part : Over P P} {over : Over P T} →
    IsOver P T var over_part over → (c : ℕ) (t : T) → over (shifted var 0) c t ≡ t
shift_zero_law {var = var} is c t = is.keeps (shifted var 0) c (λ e i. here (deep c e) i (cases_lt i (deep c e))) t
  where
    here : (d i : ℕ) → (i < d) ⊎ (d ≤ i) → shifted var 0 d i ≡ var i
    here d i (inl h) = shifted_lt var 0 d i h
    here d i (inr h) = shifted_ge var 0 d i h ∙ ap var (omega arith)

pub shift_add_law : {P T : Type 0} {var : ℕ → P} {over_part : Over P P} {over : Over P T} → IsPart P var over_part →
    IsOver P T var over_part over → (m n c : ℕ) (t : T) → over (shifted var n) c (over (shifted var m) c t)
    ≡ over (shifted var (m + n)) c t
shift_add_law part is m n c t = shift_add part is m n c t

pub put_shift_law : {P T : Type 0} {var : ℕ → P} {over_part : Over P P} {over : Over P T} → IsPart P var over_part →
    IsOver P T var over_part over → (c : ℕ) (s : P) (t : T) →
    over (putted var over_part c s) c (over (shifted var 1) c t) ≡ t
put_shift_law part is c s t = put_shift part is c s c t

-- a variable that a shift leaves as it is, where different numbers make different variables
pub still_var : {P : Type 0} (var : ℕ → P) → ((i j : ℕ) → var i ≡ var j → i ≡ j) → (n i : ℕ) →
    shifted var 1 n i ≡ var i → i < n
still_var var one n i e = here (cases_lt i n)
  where
    here : (i < n) ⊎ (n ≤ i) → i < n
    here (inl h) = h
    here (inr h) = let same = one (i + 1) i (sym (shifted_ge var 1 n i h) ∙ e) in omega (arith, same)

-- below: what a tree with few free variables has
module _ {P : Type 0} {var : ℕ → P} {over_part : Over P P} {each_part : Each P} (part : IsPart P var over_part)
    (parts : IsEachPart P var over_part each_part) where
  module _ {T : Type 0} {over : Over P T} {each : Each T} (is : IsOver P T var over_part over)
      (has : IsEach P T each_part over each) where
    -- nothing moves where nothing is free from the cut on
    pub shift_below : (k c n : ℕ) (t : T) → n ≤ c → each BelowAt AnyDepth n t → over (shifted var k) c t ≡ t
    shift_below k c n t le h =
        has.agree BelowAt AnyDepth (shifted var k) (λ d i. var i) c c n
        (λ e i lt. shifted_lt var k (deep c e) i (omega (arith, deep_is c e, deep_is n e))) t h
        ∙ is.keeps (λ d i. var i) c (λ e i. refl) t

    -- and only there, where the kind of tree shows so much case by case
    pub below_is : ((n : ℕ) (t : T) → over (shifted var 1) n t ≡ t → each BelowAt AnyDepth n t) → (n : ℕ) (t : T) →
        each BelowAt AnyDepth n t ↔ (over (shifted var 1) n t ≡ t)
    below_is still n t = (shift_below 1 n n t (omega arith), still n t)

    pub put_below : (c : ℕ) (s : P) (n : ℕ) (t : T) → n ≤ c → each BelowAt AnyDepth n t →
        over (putted var over_part c s) c t ≡ t
    put_below c s n t le h =
        has.agree BelowAt AnyDepth (putted var over_part c s) (λ d i. var i) c c n
        (λ e i lt. putted_lt var over_part c s (deep c e) i (omega (arith, deep_is c e, deep_is n e))) t h
        ∙ is.keeps (λ d i. var i) c (λ e i. refl) t

    -- where a shift leads
    pub below_shift : (k c n : ℕ) (t : T) → each BelowAt AnyDepth n t →
        each BelowAt AnyDepth (n + k) (over (shifted var k) c t)
    below_shift k c n t h =
        has.made BelowAt BelowAt AnyDepth AnyDepth (shifted var k) c n (n + k)
        (λ e i lt. here e i (cases_lt i (deep c e)) lt) (λ e u. tt) t h
      where
        here : (e i : ℕ) → (i < deep c e) ⊎ (deep c e ≤ i) → i < deep n e →
            each_part BelowAt AnyDepth (deep (n + k) e) (shifted var k (deep c e) i)
        here e i (inl l) lt = rw (shifted_lt var k (deep c e) i l)
            (parts.each_var BelowAt AnyDepth (deep (n + k) e) i (omega (arith, deep_is n e, deep_is (n + k) e)))
        here e i (inr l) lt = rw (shifted_ge var k (deep c e) i l)
            (parts.each_var BelowAt AnyDepth (deep (n + k) e) (i + k) (omega (arith, deep_is n e, deep_is (n + k) e)))

  module _ {T : Type 0} {over : Over P T} {each : Each T} (is : IsOver P T var over_part over)
      (has : IsEach P T each_part over each) where
    -- where a put leads
    pub below_put : (c n : ℕ) (s : P) (t : T) → c ≤ n → each_part BelowAt AnyDepth n s →
        each BelowAt AnyDepth (n + 1) t → each BelowAt AnyDepth n (over (putted var over_part c s) c t)
    below_put c n s t le hs h =
        has.made BelowAt BelowAt AnyDepth AnyDepth (putted var over_part c s) c (n + 1) n
        (λ e i lt. here e i (cases_order i (c + e)) lt) (λ e u. tt) t h
      where
        here : (e i : ℕ) → (i ≡ c + e) ⊎ ((i < c + e) ⊎ (c + e < i)) → i < deep (n + 1) e →
            each_part BelowAt AnyDepth (deep n e) (putted var over_part c s (deep c e) i)
        here e i (inl h) lt =
            rw (deep_is c e, deep_is n e, putted_eq var over_part c s (c + e) i h)
            (let m : c + e - c ≡ e = omega arith in rw m (below_shift part.is_over parts.has e 0 n s hs))
        here e i (inr (inl h)) lt = rw (deep_is c e, putted_lt var over_part c s (c + e) i h)
            (parts.each_var BelowAt AnyDepth (deep n e) i (omega (arith, deep_is n e)))
        here e i (inr (inr h)) lt = rw (deep_is c e, putted_gt var over_part c s (c + e) i h)
            (parts.each_var BelowAt AnyDepth (deep n e) (i - 1) (omega (arith, deep_is n e, deep_is (n + 1) e)))
