-- Ascending lists.
use Rattle.std.proofs.Common.{◌≡◌, ℕ, zero, suc, ◌<◌, ◌≤◌, Bool, true, false, not, ◌||◌, ◌&&◌, inl, inr, List, [], ◌∷◌}
use Rattle.std.proofs.Common.{length, get_or, refl, sym, ap, ◌∙◌, subst, arith}
use Rattle.std.specs.Prelude.{nat_lt, nat_eq}
use Rattle.std.proofs.lemmas.Bool.{cases_lt, cases_eq, eq-eqb, ne_eqb, ltb-true, ltb-false, cases_order}
use Rattle.calc_core.specs.Levels.{level_of}
use Rattle.c_rules.specs.Emit.{levels, pick_level}
use Rattle.c_rules.specs.Sweep.{has, known_below, differs, thin}
use Rattle.calc_core.proofs.Levels.{level_below}
use Rattle.std.proofs.Math.Bool.{or-false as or_none}

abbrev pub Rising : ℕ → List ℕ → Type 0
Rising lo [] = Unit {0}
Rising lo (x ∷ xs) = (lo ≤ x) × Rising (suc x) xs

pub rising_from : (lo lo1 : ℕ) (xs : List ℕ) → lo1 ≤ lo → Rising lo xs → Rising lo1 xs
rising_from lo lo1 [] h r = tt
rising_from lo lo1 (x ∷ xs) h r = (omega (arith, h, r.0), r.1)

-- nothing below where it begins
pub none_below : (lo l : ℕ) (xs : List ℕ) → Rising lo xs → l < lo → has l xs ≡ false
none_below lo l [] r h = refl
none_below lo l (x ∷ xs) r h =
    ap (λ b. b || has l xs) (ne_eqb l x (λ e. omega (arith, h, r.0, e)))
    ∙ none_below (suc x) l xs r.1 (omega (arith, h, r.0))

or_false : (a b : Bool) → a ≡ false → a || b ≡ b
or_false a b e = ap (λ x. x || b) e

-- two ascending lists with the same members
pub same_members : (lo : ℕ) (xs ys : List ℕ) → Rising lo xs → Rising lo ys → ((l : ℕ) → has l xs ≡ has l ys) → xs ≡ ys
same_members lo [] [] r q h = refl
same_members lo [] (y ∷ ys) r q h =
    absurd (let e : false ≡ true = h y ∙ ap (λ b. b || has y ys) (eq-eqb y y refl) in cc)
same_members lo (x ∷ xs) [] r q h =
    absurd (let e : true ≡ false = sym (ap (λ b. b || has x xs) (eq-eqb x x refl)) ∙ h x in cc)
same_members lo (x ∷ xs) (y ∷ ys) r q h =
    let e : x ≡ y = elim (cases_order x y) [
      | inl e ↦ e
      | inr (inl lt) ↦
          absurd (let f : true ≡ false = sym (ap (λ b. b || has x xs) (eq-eqb x x refl)) ∙ h x
          ∙ none_below y x (y ∷ ys) (let z : y ≤ y = omega arith in (z, q.1)) lt in cc)
      | inr (inr gt) ↦
          absurd (let f : false ≡ true = sym (none_below x y (x ∷ xs) (let z : x ≤ x = omega arith in (z, r.1)) gt)
          ∙ h y ∙ ap (λ b. b || has y ys) (eq-eqb y y refl) in cc)
    ] in
    ap (λ z. z ∷ xs) e
    ∙ ap (λ (zs : List ℕ). y ∷ zs)
    (same_members (suc x) xs ys r.1 (subst (λ z. Rising (suc z) ys) (sym e) q.1) (rest e))
  where
    rest : x ≡ y → (l : ℕ) → has l xs ≡ has l ys
    rest e l = elim (cases_eq l x) [
      | inl f ↦ none_below (suc x) l xs r.1 (omega (arith, f)) ∙ sym (none_below (suc y) l ys q.1 (omega (arith, f, e)))
      | inr f ↦ sym (or_false (nat_eq l x) (has l xs) (ne_eqb l x f)) ∙ h l
          ∙ or_false (nat_eq l y) (has l ys) (ne_eqb l y (λ g. f (g ∙ sym e)))
    ]

-- the levels that are kept
rising_pick : (b : Bool) (d : ℕ) (acc : List ℕ) → Rising (suc d) acc → Rising d (pick_level b d acc)
rising_pick true d acc r = (omega arith, r)
rising_pick false d acc r = rising_from (suc d) d acc (omega arith) r

pub rising_levels : (keep : ℕ → Bool) (d : ℕ) (acc : List ℕ) → Rising d acc → Rising 0 (levels keep d acc)
rising_levels keep zero acc r = r
rising_levels keep (suc d) acc r =
    rising_levels (λ i. keep (suc i)) d (pick_level (keep 0) d acc) (rising_pick (keep 0) d acc r)

has_pick_other : (b : Bool) (l d : ℕ) (acc : List ℕ) → (l ≡ d → ⊥) → has l (pick_level b d acc) ≡ has l acc
has_pick_other true l d acc h = or_false (nat_eq l d) (has l acc) (ne_eqb l d h)
has_pick_other false l d acc h = refl

has_pick : (b : Bool) (d : ℕ) (acc : List ℕ) → has d (pick_level b d acc) ≡ b || has d acc
has_pick true d acc = ap (λ x. x || has d acc) (eq-eqb d d refl)
has_pick false d acc = refl

pub has_above : (keep : ℕ → Bool) (d l : ℕ) (acc : List ℕ) → d ≤ l → has l (levels keep d acc) ≡ has l acc
has_above keep zero l acc h = refl
has_above keep (suc d) l acc h = has_above (λ i. keep (suc i)) d l (pick_level (keep 0) d acc) (omega (arith, h))
    ∙ has_pick_other (keep 0) l d acc (λ e. omega (arith, h, e))

pub has_level : (keep : ℕ → Bool) (d i : ℕ) (acc : List ℕ) → i < d →
    has (level_of d i) (levels keep d acc) ≡ keep i || has (level_of d i) acc
has_level keep zero i acc h = absurd (omega arith)
has_level keep (suc d) zero acc h =
    has_above (λ i. keep (suc i)) d d (pick_level (keep 0) d acc) (omega arith) ∙ has_pick (keep 0) d acc
has_level keep (suc d) (suc i) acc h =
    has_level (λ j. keep (suc j)) d i (pick_level (keep 0) d acc) (omega arith)
    ∙ ap (λ b. keep (suc i) || b)
    (has_pick_other (keep 0) (level_of d i) d acc (λ e. omega (arith, e, level_below d i (omega arith))))

pub has_kept : (keep : ℕ → Bool) (d i : ℕ) → i < d → has (level_of d i) (levels keep d []) ≡ keep i
has_kept keep d i h = has_level keep d i [] h ∙ or_none (keep i)

pub levels_same : (keep other : ℕ → Bool) (d : ℕ) (acc : List ℕ) → ((i : ℕ) → i < d → keep i ≡ other i) →
    levels keep d acc ≡ levels other d acc
levels_same keep other zero acc h = refl
levels_same keep other (suc d) acc h =
    levels_same (λ i. keep (suc i)) (λ i. other (suc i)) d (pick_level (keep 0) d acc)
    (λ i lt. h (suc i) (omega (arith, lt)))
    ∙ ap (λ b. levels (λ i. other (suc i)) d (pick_level b d acc)) (h 0 (omega arith))

-- of a list in order, each once
abbrev pub Ordered : ℕ → List ℕ → Type 0
Ordered lo [] = Unit {0}
Ordered lo (x ∷ xs) = (lo ≤ x) × Ordered x xs

pub ordered_from : (lo : ℕ) (xs : List ℕ) → ((i : ℕ) → i < length xs → lo ≤ get_or xs i 0) →
    ((i j : ℕ) → i ≤ j → j < length xs → get_or xs i 0 ≤ get_or xs j 0) → Ordered lo xs
ordered_from lo [] h q = tt
ordered_from lo (x ∷ xs) h q = (
  h 0 (omega arith),
  ordered_from x xs (λ i lt. q 0 (suc i) (omega arith) (omega (arith, lt)))
      (λ i j le lt. q (suc i) (suc j) (omega (arith, le)) (omega (arith, lt))),
)

pub all_thin : (d l : ℕ) (xs : List ℕ) → d ≤ l → has l (thin d xs) ≡ false
all_thin d l [] h = refl
all_thin d l (x ∷ xs) h = step (nat_lt x d) (differs x xs) refl (all_thin d l xs h)
  where
    step : (a b : Bool) → nat_lt x d ≡ a → has l (thin d xs) ≡ false → has l (pick_level (a && b) x (thin d xs)) ≡ false
    step true true e ih = ap (λ c. c || has l (thin d xs)) (ne_eqb l x (λ f. omega (arith, h, f, ltb-true x d e))) ∙ ih
    step true false e ih = ih
    step false b e ih = ih

twice : (a b : Bool) → a || (a || b) ≡ a || b
twice true b = refl
twice false b = refl

not_differs : (l x : ℕ) (xs : List ℕ) → differs x xs ≡ false → has l xs ≡ nat_eq l x || has l xs
not_differs l x [] e = absurd cc
not_differs l x (y ∷ ys) e =
    let f : x ≡ y =
    elim (cases_eq x y)
    [ inl g ↦ g | inr g ↦ absurd (let z : true ≡ false = sym (ap not (ne_eqb x y g)) ∙ e in cc) ] in
    sym (ap (λ z. nat_eq l z || (nat_eq l y || has l ys)) f ∙ twice (nat_eq l y) (has l ys))

pub has_thin : (d l : ℕ) (xs : List ℕ) → l < d → has l (thin d xs) ≡ has l xs
has_thin d l [] h = refl
has_thin d l (x ∷ xs) h = step (nat_lt x d) (differs x xs) refl refl (has_thin d l xs h)
  where
    step : (a b : Bool) → nat_lt x d ≡ a → differs x xs ≡ b → has l (thin d xs) ≡ has l xs →
        has l (pick_level (a && b) x (thin d xs)) ≡ nat_eq l x || has l xs
    step true true e f ih = ap (λ c. nat_eq l x || c) ih
    step true false e f ih = ih ∙ not_differs l x xs f
    step false b e f ih =
        ih ∙ sym (or_false (nat_eq l x) (has l xs) (ne_eqb l x (λ g. omega (arith, h, g, ltb-false x d e))))

later : (x : ℕ) (xs : List ℕ) → differs x xs ≡ true → Ordered x xs → Ordered (suc x) xs
later x [] e o = tt
later x (y ∷ ys) e o = (
  elim (cases_eq x y) [
    | inl g ↦ absurd (let z : false ≡ true = sym (ap not (eq-eqb x y g)) ∙ e in cc)
    | inr g ↦ elim (cases_lt x y) [ inl lt ↦ lt | inr ge ↦ absurd (g (omega (arith, ge, o.0))) ]
  ],
  o.1,
)

pub rising_thin : (d lo : ℕ) (xs : List ℕ) → Ordered lo xs → Rising lo (thin d xs)
rising_thin d lo [] o = tt
rising_thin d lo (x ∷ xs) o = step (nat_lt x d) (differs x xs) refl (λ lo1 q. rising_thin d lo1 xs q)
  where
    step : (a b : Bool) → differs x xs ≡ b → ((lo1 : ℕ) → Ordered lo1 xs → Rising lo1 (thin d xs)) →
        Rising lo (pick_level (a && b) x (thin d xs))
    step true true e ih = (o.0, ih (suc x) (later x xs e o.1))
    step true false e ih = rising_from x lo (thin d xs) o.0 (ih x o.1)
    step false b e ih = rising_from x lo (thin d xs) o.0 (ih x o.1)

pub level_twice : (d l : ℕ) → l < d → level_of d (level_of d l) ≡ l
level_twice d l h =
    let a = level_below d l h in
    let b = level_below d (level_of d l) (omega (arith, a)) in
    omega (arith, a, b)

pub thin_is : (d : ℕ) (xs body : List ℕ) → Ordered 0 xs → ((l : ℕ) → has l xs ≡ has l body) →
    thin d xs ≡ known_below d body
thin_is d xs body o same =
    same_members 0 (thin d xs) (known_below d body) (rising_thin d 0 xs o)
    (rising_levels (λ i. has (level_of d i) body) d [] tt) members
  where
    members : (l : ℕ) → has l (thin d xs) ≡ has l (known_below d body)
    members l = elim (cases_lt l d) [
      | inl lt ↦ has_thin d l xs lt ∙ same l
          ∙ sym (ap (λ z. has z (known_below d body)) (sym (level_twice d l lt))
          ∙ has_kept (λ i. has (level_of d i) body) d (level_of d l) (omega (arith, level_below d l lt))
          ∙ ap (λ z. has z body) (level_twice d l lt))
      | inr ge ↦ all_thin d l xs ge ∙ sym (has_above (λ i. has (level_of d i) body) d l [] ge)
    ]
