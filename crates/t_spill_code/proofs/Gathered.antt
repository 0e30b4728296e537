-- The homes of registers: where a frame was made, and a home put in.
use Rattle.std.proofs.Common.{add-zero, ◌≡◌, ℕ, zero, suc, ◌+◌, ◌<◌, ◌≤◌, cond, Bool, true, false, List, [], ◌∷◌}
use Rattle.std.proofs.Common.{refl, sym, ap, ap₂, ◌∙◌, drop, length, get_or, Some, None, Option, arith, nat_lt, nat_eq}
use Rattle.std.specs.Prelude.{is_some}
use Rattle.std.specs.BTreeMap.{BTreeMap, get, is_at, IsEmpty, Updates}
use Rattle.std.specs.Map.{lookup}
use Rattle.std.specs.Ordering.{nat_cmp, is_eq}
use Rattle.std.specs.Cmp.{nat_cmp_is}
use Rattle.std.specs.declared.cmp.Ordering.TheVariants.{Less, Equal, Greater}
use Rattle.std.proofs.Math.Logic.{⊎_elim}
use Rattle.std.proofs.lemmas.List.{drop_more}
use Rattle.std.proofs.lemmas.Bool.{cases_order, eq-eqb, ne_eqb, lt-ltb}
use Rattle.t_types.specs.declared.types.TType.{TType}
use Rattle.t_types.specs.Read.{file}
use Rattle.t_spill_rules.specs.Spill.{Held, InFrame, gathered, position, numbers, among, into, first_reg}
use Rattle.t_spill_code.specs.Homes.{home_or}
use Rattle.t_spill_code.specs.declared.homes.Home.{Home}
use Rattle.t_spill_code.specs.declared.homes.Home.TheVariants.{Frame}

-- keys of a map
at_is : (k q : ℕ) → is_at (nat_cmp k) q ≡ nat_eq k q
at_is k q =
    ⊎_elim
    (λ (e : k ≡ q). ap is_eq (sym (nat_cmp_is k q Equal e)) ∙ sym (eq-eqb k q e))
    (⊎_elim
    (λ (lt : k < q). ap is_eq (sym (nat_cmp_is k q Less lt)) ∙ sym (ne_eqb k q (λ e. absurd (omega (arith, e, lt)))))
    (λ (gt : q < k). ap is_eq (sym (nat_cmp_is k q Greater gt))
    ∙ sym (ne_eqb k q (λ e. absurd (omega (arith, e, gt))))))
    (cases_order k q)

pub other_at : (q r : ℕ) → (q ≡ r → ⊥) → is_at (nat_cmp q) r ≡ false
other_at q r ne = at_is q r ∙ ne_eqb q r ne

-- a frame of registers, where the first has field i
abbrev pub placed_from : ℕ → List ℕ → ℕ → Option Home
placed_from i [] r = None
placed_from i (q ∷ qs) r = cond (nat_eq q r) (Some (Frame i)) (placed_from (suc i) qs r)

abbrev pub Placed : BTreeMap ℕ Home → ℕ → List (ℕ × TType) → Type 0
Placed m i high = (r : ℕ) → get nat_cmp m r ≡ placed_from i (numbers (file (drop i high))) r

pub none_placed : (m : BTreeMap ℕ Home) (i : ℕ) (high : List (ℕ × TType)) → IsEmpty m → length high ≤ i →
    Placed m i high
none_placed m i high e le r = ap (lookup (is_at (nat_cmp r))) e ∙ go high i i le
  where
    go : (xs : List (ℕ × TType)) (j n : ℕ) → length xs ≤ n → None ≡ placed_from j (numbers (file (drop n xs))) r
    go [] j zero le = refl
    go [] j (suc n) le = refl
    go (x ∷ xs) j zero le = absurd (omega arith)
    go (x ∷ xs) j (suc n) le = go xs j n (omega arith)

pub one_placed : (m n : BTreeMap ℕ Home) (i j : ℕ) (high : List (ℕ × TType)) (y : ℕ × TType) → i < length high →
    i + 1 ≡ j → y ≡ get_or high i y → Updates nat_cmp m n y.0 (Some (Frame i)) → Placed m j high → Placed n i high
one_placed m n i j high y lt one is u h r =
    let next : suc i ≡ j = omega (arith, one) in
    let front : drop i high ≡ y ∷ drop j high =
    drop_more high i y lt ∙ ap₂ (λ (z : ℕ × TType) k. z ∷ drop k high) (sym is) one in
    u.0 r ∙ ap (λ b. cond b (Some (Frame i)) (get nat_cmp m r)) (at_is y.0 r)
    ∙ ap (cond (nat_eq y.0 r) (Some (Frame i))) (h r ∙ ap (λ k. placed_from k (numbers (file (drop j high))) r)
    (sym next))
    ∙ ap (λ (xs : List (ℕ × TType)). placed_from i (numbers (file xs)) r) (sym front)

frame_at : (i : ℕ) (qs : List ℕ) (r : ℕ) → home_or (i + length qs) (placed_from i qs r) ≡ InFrame (i + position qs r)
frame_at i [] r = refl
frame_at i (q ∷ qs) r = go (frame_at (suc i) qs r) (nat_eq q r)
  where
    more : home_or (suc i + length qs) (placed_from (suc i) qs r) ≡ InFrame (suc i + position qs r) →
        home_or (i + suc (length qs)) (placed_from (suc i) qs r) ≡ InFrame (i + suc (position qs r))
    more h =
        let a : i + suc (length qs) ≡ suc i + length qs = omega arith in
        let b : suc i + position qs r ≡ i + suc (position qs r) = omega arith in
        ap (λ n. home_or n (placed_from (suc i) qs r)) a ∙ h ∙ ap InFrame b

    go : home_or (suc i + length qs) (placed_from (suc i) qs r) ≡ InFrame (suc i + position qs r) → (b : Bool) →
        home_or (i + suc (length qs)) (cond b (Some (Frame i)) (placed_from (suc i) qs r))
        ≡ InFrame (i + cond b 0 (suc (position qs r)))
    go h true = ap InFrame (sym (add-zero i))
    go h false = more h

pub count_numbers : (xs : List (ℕ × TType)) → length (numbers (file xs)) ≡ length xs
count_numbers [] = refl
count_numbers (x ∷ xs) = ap suc (count_numbers xs)

pub gathered_homes : (m n : ℕ) (places : BTreeMap ℕ Home) (high : List (ℕ × TType)) (r : ℕ) → n ≡ length high →
    Placed places 0 high →
    cond (nat_lt m r) (home_or n (get nat_cmp places r)) (Held r) ≡ (gathered m (numbers (file high))).homes r
gathered_homes m n places high r len h =
    let count : n ≡ 0 + length (numbers (file high)) = omega (arith, len, count_numbers high) in
    let from : 0 + position (numbers (file high)) r ≡ position (numbers (file high)) r = omega arith in
    ap (λ z. cond (nat_lt m r) z (Held r))
    (ap (home_or n) (h r) ∙ ap (λ k. home_or k (placed_from 0 (numbers (file high)) r)) count
    ∙ frame_at 0 (numbers (file high)) r ∙ ap InFrame from)

has_from : (i : ℕ) (qs : List ℕ) (r : ℕ) → is_some (placed_from i qs r) ≡ among r qs
has_from i [] r = refl
has_from i (q ∷ qs) r = go (has_from (suc i) qs r) (nat_eq q r)
  where
    go : is_some (placed_from (suc i) qs r) ≡ among r qs → (b : Bool) →
        is_some (cond b (Some (Frame i)) (placed_from (suc i) qs r)) ≡ cond b true (among r qs)
    go h true = refl
    go h false = h

pub gathered_has : (places : BTreeMap ℕ Home) (high : List (ℕ × TType)) (r : ℕ) → Placed places 0 high →
    is_some (get nat_cmp places r) ≡ among r (numbers (file high))
gathered_has places high r h = ap is_some (h r) ∙ has_from 0 (numbers (file high)) r

-- a home put in
module _ (m n : BTreeMap ℕ Home) (r : ℕ) (h : Home) (u : Updates nat_cmp m n r (Some h)) where
  put_in : (q : ℕ) → get nat_cmp n q ≡ cond (nat_eq r q) (Some h) (get nat_cmp m q)
  put_in q = u.0 q ∙ ap (λ b. cond b (Some h) (get nat_cmp m q)) (at_is r q)

pub into_high : (m r : ℕ) → m < r → Held (first_reg m) ≡ Held (into m r)
into_high m r lt = ap (λ b. Held (cond b (first_reg m) r)) (sym (lt-ltb m r lt))
