-- Sets of numbers as types, and fields that are marked.
use Rattle.std.proofs.Common.{◌≡◌, get_or, drop, ◌++◌, ℕ, zero, suc, ◌+◌, ◌/◌, ◌%◌, ◌<◌, ◌≤◌, Bool, true, false, ◌||◌}
use Rattle.std.proofs.Common.{nat_eq, List, [], ◌∷◌, length, Option, Some, None, refl, sym, ap, ap₂, ◌∙◌, arith, ◌⊎◌}
use Rattle.std.proofs.Common.{inl, inr}
use Rattle.std.proofs.lemmas.Bool.{cases_lt}
use Rattle.std.proofs.lemmas.Bool.Decides.{nat_tests}
use Rattle.std.proofs.lemmas.List.{drop_more, append_assoc}
use Rattle.t_types.specs.Tree.{Ty, IntTy, VarTy, CodeTy, ExistsTy, TupleTy, TFields, NoFields, MoreFields}
use Rattle.t_types.specs.Fields.{AField, field, filled}
use Rattle.t_intern.specs.Grown.{Grown}
use Rattle.t_intern.specs.Marks.{branch, none, has, marked_fields, marked}
use Rattle.t_intern.specs.Nodes.{at, fields_at, FieldsBelow}
use Rattle.t_intern.proofs.Growing.{grown_at, grown_length}
use Rattle.t_known.specs.Marks.{IsOpened, IsWith, marks, IsMarks, with_marks, marked_list}
use Rattle.std.proofs.Math.Bool.{or-false as or_none}
use Rattle.idx_core.proofs.Bools.{or_true}

-- a set's parts, looked up
module _ (here : Bool) (left right : ℕ → Bool) where
  pub at_one : (p : ℕ) → p ≤ 1 → branch here left right p ≡ here
  at_one p le = grind (arith, nat_tests)

  pub at_even : (p : ℕ) → 1 < p → p % 2 ≡ 0 → branch here left right p ≡ left (p / 2)
  at_even p lt e = grind (arith, nat_tests)

  pub at_odd : (p : ℕ) → 1 < p → (p % 2 ≡ 0 → ⊥) → branch here left right p ≡ right (p / 2)
  at_odd p lt e = grind (arith, nat_tests)

even_or : (q : ℕ) → (q % 2 ≡ 0) ⊎ (q % 2 ≡ 0 → ⊥)
even_or q = pick (nat_eq (q % 2) 0) refl
  where
    pick : (b : Bool) → nat_eq (q % 2) 0 ≡ b → (q % 2 ≡ 0) ⊎ (q % 2 ≡ 0 → ⊥)
    pick true e = inl (grind (arith, nat_tests, e))
    pick false e = inr (λ h. absurd (let no : nat_eq (q % 2) 0 ≡ true = grind (arith, nat_tests, h) in cc))

-- an even number joins a set through the halves
pub with_even : (here : Bool) (left right more : ℕ → Bool) (p : ℕ) → 1 < p → p % 2 ≡ 0 →
    ((q : ℕ) → 1 ≤ q → more q ≡ (nat_eq q (p / 2) || left q)) → (q : ℕ) → 1 ≤ q →
    branch here more right q ≡ (nat_eq q p || branch here left right q)
with_even here left right more p lp e h q some = by_place (cases_lt 1 q) (even_or q)
  where
    by_place : (1 < q) ⊎ (q ≤ 1) → (q % 2 ≡ 0) ⊎ (q % 2 ≡ 0 → ⊥) →
        branch here more right q ≡ (nat_eq q p || branch here left right q)
    by_place (inr le) x =
        let other : nat_eq q p ≡ false = grind (arith, nat_tests) in
        at_one here more right q le ∙ sym (rw other (at_one here left right q le))
    by_place (inl lt) (inl even) =
        let same : nat_eq (q / 2) (p / 2) ≡ nat_eq q p = halves q p even e in
        let half : 1 ≤ q / 2 = omega (arith, lt) in
        at_even here more right q lt even ∙ h (q / 2) half
        ∙ ap₂ (λ (a b : Bool). a || b) same (sym (at_even here left right q lt even))
      where
        halves : (q p : ℕ) → q % 2 ≡ 0 → p % 2 ≡ 0 → nat_eq (q / 2) (p / 2) ≡ nat_eq q p
        halves q p a b = go (nat_eq q p) refl
          where
            go : (x : Bool) → nat_eq q p ≡ x → nat_eq (q / 2) (p / 2) ≡ x
            go true s = let same : q ≡ p = grind (arith, nat_tests, s) in rw same (grind (arith, nat_tests))
            go false s =
                let other : q ≡ p → ⊥ =
                (λ h. absurd (let yes : nat_eq q p ≡ true = grind (arith, nat_tests, h) in cc)) in
                let apart : q / 2 ≡ p / 2 → ⊥ = (λ h. other (omega (arith, h, a, b))) in
                grind (arith, nat_tests, apart)
    by_place (inl lt) (inr odd) =
        let other : nat_eq q p ≡ false = differ q p odd e in
        at_odd here more right q lt odd ∙ sym (rw other (at_odd here left right q lt odd))
      where
        differ : (q p : ℕ) → (q % 2 ≡ 0 → ⊥) → p % 2 ≡ 0 → nat_eq q p ≡ false
        differ q p a b = let apart : q ≡ p → ⊥ = (λ h. a (ap (λ x. x % 2) h ∙ b)) in grind (arith, nat_tests, apart)

pub with_odd : (here : Bool) (left right more : ℕ → Bool) (p : ℕ) → 1 < p → (p % 2 ≡ 0 → ⊥) →
    ((q : ℕ) → 1 ≤ q → more q ≡ (nat_eq q (p / 2) || right q)) → (q : ℕ) → 1 ≤ q →
    branch here left more q ≡ (nat_eq q p || branch here left right q)
with_odd here left right more p lp e h q some = by_place (cases_lt 1 q) (even_or q)
  where
    by_place : (1 < q) ⊎ (q ≤ 1) → (q % 2 ≡ 0) ⊎ (q % 2 ≡ 0 → ⊥) →
        branch here left more q ≡ (nat_eq q p || branch here left right q)
    by_place (inr le) x =
        let other : nat_eq q p ≡ false = grind (arith, nat_tests) in
        at_one here left more q le ∙ sym (rw other (at_one here left right q le))
    by_place (inl lt) (inr odd) =
        let same : nat_eq (q / 2) (p / 2) ≡ nat_eq q p = halves q p odd e in
        let half : 1 ≤ q / 2 = omega (arith, lt) in
        at_odd here left more q lt odd ∙ h (q / 2) half
        ∙ ap₂ (λ (a b : Bool). a || b) same (sym (at_odd here left right q lt odd))
      where
        halves : (q p : ℕ) → (q % 2 ≡ 0 → ⊥) → (p % 2 ≡ 0 → ⊥) → nat_eq (q / 2) (p / 2) ≡ nat_eq q p
        halves q p a b = go (nat_eq q p) refl
          where
            go : (x : Bool) → nat_eq q p ≡ x → nat_eq (q / 2) (p / 2) ≡ x
            go true s = let same : q ≡ p = grind (arith, nat_tests, s) in rw same (grind (arith, nat_tests))
            go false s =
                let other : q ≡ p → ⊥ =
                (λ h. absurd (let yes : nat_eq q p ≡ true = grind (arith, nat_tests, h) in cc)) in
                let apart : q / 2 ≡ p / 2 → ⊥ = (λ h. other (omega (arith, h, a, b))) in
                grind (arith, nat_tests, apart)
    by_place (inl lt) (inl even) =
        let other : nat_eq q p ≡ false = differ q p even e in
        at_even here left more q lt even ∙ sym (rw other (at_even here left right q lt even))
      where
        differ : (q p : ℕ) → q % 2 ≡ 0 → (p % 2 ≡ 0 → ⊥) → nat_eq q p ≡ false
        differ q p a b =
            let apart : q ≡ p → ⊥ = (λ h. b (ap (λ x. x % 2) (sym h) ∙ a)) in grind (arith, nat_tests, apart)

pub other_has : (ts : List Ty) (xs : List (ℕ × Bool)) (t : Ty) → t ≡ TupleTy (fields_at ts xs) → (length xs ≡ 2 → ⊥) →
    (p : ℕ) → has t p ≡ false
other_has ts [] t is other p = rw is refl
other_has ts (x ∷ []) t is other p = rw is refl
other_has ts (x ∷ y ∷ []) t is other p = absurd (other refl)
other_has ts (x ∷ y ∷ z ∷ xs) t is other p = rw is refl

pub no_pair : (t : Ty) → ((fs : TFields) → t ≡ TupleTy fs → ⊥) → (p : ℕ) → has t p ≡ false
no_pair IntTy h p = refl
no_pair (VarTy i) h p = refl
no_pair (CodeTy owes file) h p = refl
no_pair (ExistsTy t) h p = refl
no_pair (TupleTy fs) h p = absurd (h fs refl)

-- the set with one number more, by its parts; us are the types where it is opened, vs where a part has grown
module _ (ts us ws : List Ty) (set : ℕ) (left right : ℕ) (here : Bool) (p m : ℕ)
    (open_is : IsOpened ts us set (record { left = left; here = here; right = right })) where
  pub is_even : (vs : List Ty) (n : ℕ) → Grown us vs → 1 < p → p % 2 ≡ 0 → IsWith us vs left (p / 2) n →
      (at ws m ≡ TupleTy (MoreFields (at vs n) here (MoreFields (at vs right) false NoFields))) → m < length ws →
      IsWith ts ws set p m
  is_even vs n g lt e with_is is l =
      let kept = grown_at us vs g right open_is.2 in (
        l,
        λ q some.
            (ap (λ t. has t q) is ∙ ap (λ t. branch here (has (at vs n)) (has t) q) kept
            ∙ with_even here (has (at us left)) (has (at us right)) (has (at vs n)) p lt e with_is.1 q some
            ∙ ap (λ b. nat_eq q p || b) (sym (open_is.0 q))),
      )

  pub is_odd : (vs : List Ty) (n : ℕ) → Grown us vs → 1 < p → (p % 2 ≡ 0 → ⊥) → IsWith us vs right (p / 2) n →
      (at ws m ≡ TupleTy (MoreFields (at vs left) here (MoreFields (at vs n) false NoFields))) → m < length ws →
      IsWith ts ws set p m
  is_odd vs n g lt e with_is is l =
      let kept = grown_at us vs g left open_is.1 in (
        l,
        λ q some.
            (ap (λ t. has t q) is ∙ ap (λ t. branch here (has t) (has (at vs n)) q) kept
            ∙ with_odd here (has (at us left)) (has (at us right)) (has (at vs n)) p lt e with_is.1 q some
            ∙ ap (λ b. nat_eq q p || b) (sym (open_is.0 q))),
      )

-- fields that are marked
pub marked_none : (p : ℕ) (fs : TFields) → marked_fields none p fs ≡ fs
marked_none p NoFields = refl
marked_none p (MoreFields t flag fs) =
    ap₂ (λ (b : Bool) (gs : TFields). MoreFields t b gs) (or_none flag) (marked_none (p + 1) fs)

marked_same : (old new : ℕ → Bool) (p : ℕ) → ((q : ℕ) → p ≤ q → new q ≡ old q) → (fs : TFields) →
    marked_fields new p fs ≡ marked_fields old p fs
marked_same old new p h NoFields = refl
marked_same old new p h (MoreFields t flag fs) =
    ap₂ (λ (b : Bool) (gs : TFields). MoreFields t (flag || b) gs) (h p (omega arith))
    (marked_same old new (p + 1) (λ q le. h q (omega (arith, le))) fs)

unequal : (q m : ℕ) (b : Bool) → (q ≡ m → ⊥) → (nat_eq q m || b) ≡ b
unequal q m b apart = let other : nat_eq q m ≡ false = grind (arith, nat_tests, apart) in rw other refl

equal : (q m : ℕ) (b : Bool) → q ≡ m → (nat_eq q m || b) ≡ true
equal q m b same = let yes : nat_eq q m ≡ true = grind (arith, nat_tests, same) in rw yes refl

pub marked_filled : (old new : ℕ → Bool) (p i m : ℕ) (fs : TFields) → 1 ≤ p → m ≡ p + i →
    ((q : ℕ) → 1 ≤ q → new q ≡ (nat_eq q m || old q)) → marked_fields new p fs ≡ filled (marked_fields old p fs) i
marked_filled old new p i m NoFields some e h = refl
marked_filled old new p zero m (MoreFields t flag fs) some e h =
    ap₂ (λ (b : Bool) (gs : TFields). MoreFields t b gs)
    (ap (λ b. flag || b) (h p some ∙ equal p m (old p) (omega (arith, e))) ∙ or_true flag)
    (marked_same old new (p + 1)
    (λ q le. h q (omega (arith, le)) ∙ unequal q m (old q) (λ s. absurd (omega (arith, s, e, le)))) fs)
marked_filled old new p (suc i) m (MoreFields t flag fs) some e h =
    ap₂ (λ (b : Bool) (gs : TFields). MoreFields t (flag || b) gs)
    (h p some ∙ unequal p m (old p) (λ s. absurd (omega (arith, s, e))))
    (marked_filled old new (p + 1) i m fs (omega arith) (omega (arith, e)) h)

pub marked_field : (set : ℕ → Bool) (p i : ℕ) (fs : TFields) (t : Ty) (flag : Bool) →
    field fs i ≡ Some (AField t flag) → field (marked_fields set p fs) i ≡ Some (AField t (flag || set (p + i)))
marked_field set p i NoFields t flag e = cc
marked_field set p zero (MoreFields u b fs) t flag e =
    let same : u ≡ t = cc in
    let own : b ≡ flag = cc in
    let z : p ≡ p + 0 = omega arith in
    ap₂ (λ (x : Ty) (y : Bool). Some (AField x y)) same (ap₂ (λ (x : Bool) (k : ℕ). x || set k) own z)
marked_field set p (suc i) (MoreFields u b fs) t flag e =
    let z : p + 1 + i ≡ p + suc i = omega arith in
    marked_field set (p + 1) i fs t flag e ∙ ap (λ k. Some (AField t (flag || set k))) z

pub marked_absent : (set : ℕ → Bool) (p i : ℕ) (fs : TFields) → field fs i ≡ None →
    field (marked_fields set p fs) i ≡ None
marked_absent set p i NoFields e = refl
marked_absent set p zero (MoreFields u b fs) e = cc
marked_absent set p (suc i) (MoreFields u b fs) e = marked_absent set (p + 1) i fs e

-- only a tuple has marks
pub marked_other : (s t : Ty) → ((fs : TFields) → t ≡ TupleTy fs → ⊥) → marked s t ≡ t
marked_other s IntTy h = refl
marked_other s (VarTy i) h = refl
marked_other s (CodeTy owes file) h = refl
marked_other s (ExistsTy t) h = refl
marked_other s (TupleTy fs) h = absurd (h fs refl)

-- a type with its marks, of which there may be none
module _ (ts : List Ty) where
  pub tuple_marked : (o : Option ℕ) (t : Ty) (gs : TFields) → t ≡ TupleTy gs →
      with_marks ts o t ≡ TupleTy (marked_fields (marks ts o) 1 gs)
  tuple_marked None t gs e = e ∙ ap TupleTy (sym (marked_none 1 gs))
  tuple_marked (Some set) t gs e = ap (marked (at ts set)) e

  pub int_marked : (o : Option ℕ) (t : Ty) → t ≡ IntTy → with_marks ts o t ≡ IntTy
  int_marked None t e = e
  int_marked (Some set) t e = ap (marked (at ts set)) e

  pub unmarked_int : (o : Option ℕ) (t : Ty) → with_marks ts o t ≡ IntTy → t ≡ IntTy
  unmarked_int None t e = e
  unmarked_int (Some set) IntTy e = refl
  unmarked_int (Some set) (VarTy i) e = cc
  unmarked_int (Some set) (CodeTy owes file) e = cc
  unmarked_int (Some set) (ExistsTy t) e = cc
  unmarked_int (Some set) (TupleTy fs) e = cc

  pub unmarked_tuple : (o : Option ℕ) (t : Ty) (fs : TFields) → with_marks ts o t ≡ TupleTy fs →
      (gs : TFields) × (t ≡ TupleTy gs) × (fs ≡ marked_fields (marks ts o) 1 gs)
  unmarked_tuple None t fs e = (fs, e, sym (marked_none 1 fs))
  unmarked_tuple (Some set) (TupleTy gs) fs e = (gs, refl, cc)
  unmarked_tuple (Some set) IntTy fs e = cc
  unmarked_tuple (Some set) (VarTy i) fs e = cc
  unmarked_tuple (Some set) (CodeTy owes file) fs e = cc
  unmarked_tuple (Some set) (ExistsTy t) fs e = cc

-- marks as the types grow
module _ (ts us : List Ty) (g : Grown ts us) where
  pub marks_grown : (o : Option ℕ) → IsMarks ts o → IsMarks us o
  marks_grown None h = tt
  marks_grown (Some set) h = let l = grown_length ts us g in omega (arith, l, h)

  pub own_marks_grown : (o : Option ℕ) (n : ℕ) → n < length ts → IsMarks ts o →
      with_marks us o (at us n) ≡ with_marks ts o (at ts n)
  own_marks_grown None n l h = grown_at ts us g n l
  own_marks_grown (Some set) n l h = ap₂ marked (grown_at ts us g set h) (grown_at ts us g n l)

-- fields in a list
pub marked_at : (ts : List Ty) (set : ℕ → Bool) (p : ℕ) (xs : List (ℕ × Bool)) →
    fields_at ts (marked_list set p xs) ≡ marked_fields set p (fields_at ts xs)
marked_at ts set p [] = refl
marked_at ts set p (x ∷ xs) = ap (MoreFields (at ts x.0) (x.1 || set p)) (marked_at ts set (p + 1) xs)

pub marked_below : (n : ℕ) (set : ℕ → Bool) (p : ℕ) (xs : List (ℕ × Bool)) → FieldsBelow n xs →
    FieldsBelow n (marked_list set p xs)
marked_below n set p [] h = tt
marked_below n set p (x ∷ xs) h = (h.0, marked_below n set (p + 1) xs h.1)

pub marked_next : (set : ℕ → Bool) (xs : List (ℕ × Bool)) (i : ℕ) (x : ℕ × Bool) (made made' whole : List (ℕ × Bool)) →
    i < length xs → x ≡ get_or xs i x → made ++ marked_list set (i + 1) (drop i xs) ≡ whole →
    made' ≡ made ++ (x.0, x.1 || set (i + 1)) ∷ [] → made' ++ marked_list set (i + 1 + 1) (drop (i + 1) xs) ≡ whole
marked_next set xs i x made made' whole l is h e =
    let step : drop i xs ≡ x ∷ drop (i + 1) xs =
    drop_more xs i x l ∙ ap (λ (y : ℕ × Bool). y ∷ drop (i + 1) xs) (sym is) in
    ap (λ ys. ys ++ marked_list set (i + 1 + 1) (drop (i + 1) xs)) e
    ∙ append_assoc made ((x.0, x.1 || set (i + 1)) ∷ []) (marked_list set (i + 1 + 1) (drop (i + 1) xs))
    ∙ ap (λ ys. made ++ marked_list set (i + 1) ys) (sym step)
    ∙ h
