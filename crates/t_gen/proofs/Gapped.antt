-- What is done to gaps, and to the registers in use.
use Rattle.std.proofs.Common.{◌≡◌, ℕ, ◌+◌, ◌<◌, ◌≤◌, refl, sym, ap, ◌∙◌, arith, ⊎_elim, ◌⊎◌, inl, inr}
use Rattle.std.specs.Prelude.{Bool, true, false, ◌&&◌, ◌||◌, ◌==◌, nat_lt, ◌^◌, not, cond, Option, Some, None, IsSome}
use Rattle.std.specs.Prelude.{is_some, List, [], ◌∷◌, ◌++◌}
use Rattle.std.proofs.lemmas.Bool.{eq-eqb, ne_eqb, lt-ltb, le-ltb, cases_lt, cases_eq}
use Rattle.std.specs.Ordering.{nat_cmp, is_eq, is_gt}
use Rattle.std.proofs.lemmas.Cmp.{by_ranked, ranked}
use Rattle.std.proofs.lemmas.Map.Keys.{le_from_not_gt, ge_from_not_lt}
use Rattle.std.specs.declared.ops.Bound.TheVariants.{Included, Unbounded}
use Rattle.std.specs.BTreeMap.Range.{IsRangeOf}
use Rattle.std.specs.Cmp.{unsigned_tied}
use Rattle.std.specs.BTreeMap.{BTreeMap, get}
use Rattle.std.specs.BTreeSet.{BTreeSet, contains}
use Rattle.t_gen.specs.Registers.{Gaps, Besides, Least}
use Rattle.idx_core.proofs.Bools.{either as bool_cases}

pub clash : {x : Bool} → x ≡ true → x ≡ false → ⊥
clash y z = cc

and_none : (x : Bool) → (x && false) ≡ false
and_none true = refl
and_none false = refl

and_all : (x : Bool) → (x && true) ≡ x
and_all true = refl
and_all false = refl

cond_or : (x y : Bool) → cond x true y ≡ (x || y)
cond_or true y = refl
cond_or false y = refl

cond_and : (x y : Bool) → cond x false y ≡ (y && not x)
cond_and true true = refl
cond_and true false = refl
cond_and false true = refl
cond_and false false = refl

-- an entry that is written: it is the new one, or an old one with another key
is_new : (g n : BTreeMap ℕ ℕ) (k : ℕ) (w : Option ℕ) →
    ((q : ℕ) → get nat_cmp n q ≡ cond (is_eq (nat_cmp k q)) w (get nat_cmp g q)) → get nat_cmp n k ≡ w
is_new g n k w u = u k ∙ ap (λ b. cond b w (get nat_cmp g k)) (unsigned_tied k k ∙ eq-eqb k k refl)

is_old : (g n : BTreeMap ℕ ℕ) (k : ℕ) (w : Option ℕ) →
    ((q : ℕ) → get nat_cmp n q ≡ cond (is_eq (nat_cmp k q)) w (get nat_cmp g q)) → (q : ℕ) → (k ≡ q → ⊥) →
    get nat_cmp n q ≡ get nat_cmp g q
is_old g n k w u q ne = u q ∙ ap (λ b. cond b w (get nat_cmp g q)) (unsigned_tied k q ∙ ne_eqb k q ne)

some_same : {x : Option ℕ} (a b : ℕ) → x ≡ Some a → x ≡ Some b → a ≡ b
some_same a b y z = cc

some_none : {x : Option ℕ} (a : ℕ) → x ≡ Some a → x ≡ None → ⊥
some_none a y z = cc

-- the same of each register
pub gaps_same : (g : BTreeMap ℕ ℕ) (h i : ℕ → Bool) → Gaps g h → ((r : ℕ) → 1 ≤ r → r + 1 < 2 ^ 64 → h r ≡ i r) →
    Gaps g i
gaps_same g h i k same = record {
  ends = k.ends;
  only = λ a b r e le lt. let n = k.ends a b e in sym (same r (omega (arith, n.0)) (omega (arith, n.2)))
      ∙ k.only a b r e le lt;
  found = λ r one lt z. k.found r one lt (same r one lt ∙ z);
  apart = k.apart;
}

-- a gap more
pub gaps_put : (g n : BTreeMap ℕ ℕ) (x y : ℕ) (h i : ℕ → Bool) → x < y → y < 2 ^ 64 →
    ((q : ℕ) → get nat_cmp n q ≡ cond (is_eq (nat_cmp x q)) (Some y) (get nat_cmp g q)) →
    Gaps g h → 1 ≤ x → ((r : ℕ) → x ≤ r → r < y → (h r ≡ true) × (i r ≡ false)) → Besides x y h i → Gaps n i
gaps_put g n x y h i lt top u k one own rest =
    let new : get nat_cmp n x ≡ Some y = is_new g n x (Some y) u in
    let each : (a b : ℕ) → get nat_cmp n a ≡ Some b → ((a ≡ x) × (b ≡ y)) ⊎ (get nat_cmp g a ≡ Some b) =
    λ a b e. ⊎_elim
    (λ (z : x ≡ a). inl (sym z, some_same b y e (ap (get nat_cmp n) (sym z) ∙ new)))
    (λ (ne : x ≡ a → ⊥). inr (sym (is_old g n x (Some y) u a ne) ∙ e))
    (cases_eq x a) in
    let out : (a b r : ℕ) → get nat_cmp g a ≡ Some b → a ≤ r → r < b → x ≤ r → r < y → ⊥ =
    λ a b r e p q s t. clash (own r s t).0 (k.only a b r e p q) in
    record {
      ends = λ a b e. ⊎_elim (λ z. (omega (arith, z.0, one), omega (arith, z.0, z.1, lt), omega (arith, z.1, top)))
          (λ z. k.ends a b z) (each a b e);
      only = λ a b r e p q. ⊎_elim
          (λ z. (own r (omega (arith, z.0, p)) (omega (arith, z.1, q))).1)
          (λ z. ⊎_elim
          (λ (s : x ≤ r). ⊎_elim (λ (t : r < y). absurd (out a b r z p q s t))
          (λ (t : y ≤ r). sym (rest r (omega (arith, one, s)) (inr t)) ∙ k.only a b r z p q) (cases_lt r y))
          (λ (s : r < x). sym (rest r (omega (arith, p, (k.ends a b z).0)) (inl s)) ∙ k.only a b r z p q)
          (⊎_elim (λ (s : r < x). inr s) (λ (s : x ≤ r). inl s) (cases_lt r x))) (each a b e);
      found = λ r p q z. old r p q z;
      apart = λ a b c d e f p q. ⊎_elim
          (λ s. ⊎_elim (λ t. omega (arith, s.0, t.0))
          (λ t. absurd
          (out c d c t (omega arith) (k.ends c d t).1 (omega (arith, s.0, p)) (omega (arith, s.1, q))))
          (each c d f))
          (λ s. ⊎_elim (λ t. absurd (out a b c s p q (omega (arith, t.0)) (omega (arith, t.0, lt))))
          (λ t. k.apart a b c d s t p q) (each c d f)) (each a b e);
    }
  where
    kept : (a b r : ℕ) → get nat_cmp g a ≡ Some b → a ≤ r → r < b → (a : ℕ) × (b : ℕ) × (get nat_cmp n a ≡ Some b)
        × (a ≤ r) × (r < b)
    kept a b r e p q = ⊎_elim
        (λ (z : x ≡ a).
        absurd (clash (own a (omega (arith, z)) (omega (arith, z, lt))).0
        (k.only a b a e (omega arith) (omega (arith, p, q)))))
        (λ (ne : x ≡ a → ⊥). (a, b, is_old g n x (Some y) u a ne ∙ e, p, q))
        (cases_eq x a)

    beside : (r : ℕ) → 1 ≤ r → r + 1 < 2 ^ 64 → i r ≡ false → (r < x) ⊎ (y ≤ r) →
        (a : ℕ) × (b : ℕ) × (get nat_cmp n a ≡ Some b) × (a ≤ r) × (r < b)
    beside r p q z s = let o = k.found r p q (rest r p s ∙ z) in kept o.0 o.1 r o.2 o.3 o.4

    old : (r : ℕ) → 1 ≤ r → r + 1 < 2 ^ 64 → i r ≡ false → (a : ℕ) × (b : ℕ) × (get nat_cmp n a ≡ Some b) × (a ≤ r)
        × (r < b)
    old r p q z = ⊎_elim
        (λ (s : r < x). beside r p q z (inl s))
        (λ (s : x ≤ r). ⊎_elim (λ (t : r < y). (x, y, is_new g n x (Some y) u, s, t))
        (λ (t : y ≤ r). beside r p q z (inr t)) (cases_lt r y))
        (cases_lt r x)

-- a gap less
pub gaps_drop : (g n : BTreeMap ℕ ℕ) (x y : ℕ) (h i : ℕ → Bool) →
    ((q : ℕ) → get nat_cmp n q ≡ cond (is_eq (nat_cmp x q)) None (get nat_cmp g q)) →
    get nat_cmp g x ≡ Some y → Gaps g h → ((r : ℕ) → x ≤ r → r < y → i r ≡ true) → Besides x y h i → Gaps n i
gaps_drop g n x y h i u at k own rest =
    record {
      ends = λ a b e. k.ends a b (old a b e).1;
      only = λ a b r e p q. sym (rest r (omega (arith, (k.ends a b (old a b e).1).0, p)) (apart a b r e p q))
          ∙ k.only a b r (old a b e).1 p q;
      found = λ r p q z. ⊎_elim
          (λ (s : r < x). here r p q z (inl s))
          (λ (s : x ≤ r). ⊎_elim (λ (t : r < y). absurd (clash (own r s t) z)) (λ (t : y ≤ r). here r p q z (inr t))
          (cases_lt r y))
          (cases_lt r x);
      apart = λ a b c d e f p q. k.apart a b c d (old a b e).1 (old c d f).1 p q;
    }
  where
    old : (a b : ℕ) → get nat_cmp n a ≡ Some b → (x ≡ a → ⊥) × (get nat_cmp g a ≡ Some b)
    old a b e = ⊎_elim
        (λ (z : x ≡ a). absurd (some_none b e (ap (get nat_cmp n) (sym z) ∙ is_new g n x None u)))
        (λ (ne : x ≡ a → ⊥). (ne, sym (is_old g n x None u a ne) ∙ e))
        (cases_eq x a)

    apart : (a b r : ℕ) → get nat_cmp n a ≡ Some b → a ≤ r → r < b → (r < x) ⊎ (y ≤ r)
    apart a b r e p q =
        let o = old a b e in
        ⊎_elim
        (λ (s : r < x). inl s)
        (λ (s : x ≤ r). ⊎_elim
        (λ (t : r < y). ⊎_elim
        (λ (v : a < x). absurd (o.0 (sym (k.apart a b x y o.1 at (omega (arith, v)) (omega (arith, s, q))))))
        (λ (v : x ≤ a). absurd (o.0 (k.apart x y a b at o.1 v (omega (arith, p, t)))))
        (cases_lt a x))
        (λ (t : y ≤ r). inr t)
        (cases_lt r y))
        (cases_lt r x)

    here : (r : ℕ) → 1 ≤ r → r + 1 < 2 ^ 64 → i r ≡ false → (r < x) ⊎ (y ≤ r) →
        (a : ℕ) × (b : ℕ) × (get nat_cmp n a ≡ Some b) × (a ≤ r) × (r < b)
    here r p q z s =
        let o = k.found r p q (rest r p s ∙ z) in
        (o.0, o.1, is_old g n x None u o.0 (λ v. not_in o.0 o.1 r v s o.2 o.3 o.4) ∙ o.2, o.3, o.4)
      where
        not_in : (a b r : ℕ) → x ≡ a → (r < x) ⊎ (y ≤ r) → get nat_cmp g a ≡ Some b → a ≤ r → r < b → ⊥
        not_in a b r v s e p q =
            let same : b ≡ y = some_same b y e (ap (get nat_cmp g) (sym v) ∙ at) in
            ⊎_elim (λ (t : r < x). omega (arith, v, p, t)) (λ (t : y ≤ r). omega (arith, same, q, t)) s

-- between two registers
abbrev within : ℕ → ℕ → ℕ → Bool
within a b q = not (nat_lt q a) && nat_lt q b

inside : (a b q : ℕ) → a ≤ q → q < b → within a b q ≡ true
inside a b q le lt = ap (λ x. not x && nat_lt q b) (le-ltb q a le) ∙ lt-ltb q b lt

outside : (a b q : ℕ) → (q < a) ⊎ (b ≤ q) → within a b q ≡ false
outside a b q = ⊎_elim
    (λ (s : q < a). ap (λ x. not x && nat_lt q b) (lt-ltb q a s))
    (λ (s : b ≤ q). ap (λ x. not (nat_lt q a) && x) (le-ltb q b s) ∙ and_none (not (nat_lt q a)))

-- a gap without one register
module _ (g n m o : BTreeMap ℕ ℕ) (x y r : ℕ) (h : ℕ → Bool)
    (u : (q : ℕ) → get nat_cmp n q ≡ cond (is_eq (nat_cmp x q)) None (get nat_cmp g q))
    (before : (h i : ℕ → Bool) → Gaps n h → 1 ≤ x → ((q : ℕ) → x ≤ q → q < r → (h q ≡ true) × (i q ≡ false)) →
    Besides x r h i → Gaps m i)
    (behind : (h i : ℕ → Bool) → Gaps m h → 1 ≤ r + 1 → ((q : ℕ) → r + 1 ≤ q → q < y → (h q ≡ true) × (i q ≡ false)) →
    Besides (r + 1) y h i → Gaps o i)
    (lt : r < y) (at : get nat_cmp g x ≡ Some y) (le : x ≤ r) (k : Gaps g h) where
  abbrev all : ℕ → Bool
  all q = within x y q || h q

  abbrev rest : ℕ → Bool
  rest q = within r y q || h q

  abbrev pub one : ℕ → Bool
  one q = (r == q) || h q

  none : (q : ℕ) → x ≤ q → q < y → h q ≡ false
  none q a b = k.only x y q at a b

  dropped : Gaps n all
  dropped = gaps_drop g n x y h all u at k
      (λ q a b. ap (λ w. w || h q) (inside x y q a b))
      (λ q a s. sym (ap (λ w. w || h q) (outside x y q s)))

  low : Gaps m rest
  low = before all rest dropped (k.ends x y at).0
      (λ q a b. (
        ap (λ w. w || h q) (inside x y q a (omega (arith, b, lt))),
        ap (λ w. w || h q) (outside r y q (inl b)) ∙ none q a (omega (arith, b, lt)),
      ))
      (λ q a s. ⊎_elim
      (λ (b : q < x). ap (λ w. w || h q) (outside x y q (inl b) ∙ sym (outside r y q (inl (omega (arith, b, le))))))
      (λ (b : r ≤ q). ⊎_elim
      (λ (c : q < y). ap (λ w. w || h q) (inside x y q (omega (arith, b, le)) c ∙ sym (inside r y q b c)))
      (λ (c : y ≤ q). ap (λ w. w || h q) (outside x y q (inr c) ∙ sym (outside r y q (inr c))))
      (cases_lt q y)) s)

  pub gaps_split : Gaps o one
  gaps_split = behind rest one low (omega arith)
      (λ q a b. (
        ap (λ w. w || h q) (inside r y q (omega (arith, a)) b),
        ap (λ w. w || h q) (ne_eqb r q (λ z. omega (arith, a, z))) ∙ none q (omega (arith, a, le)) b,
      ))
      (λ q a s. ⊎_elim
      (λ (b : q < r + 1). ⊎_elim
      (λ (c : r ≡ q). ap (λ w. w || h q) (inside r y q (omega (arith, c)) (omega (arith, c, lt)) ∙ sym (eq-eqb r q c)))
      (λ (c : r ≡ q → ⊥). ap (λ w. w || h q) (outside r y q (inl (lower q b c)) ∙ sym (ne_eqb r q c)))
      (cases_eq r q))
      (λ (b : y ≤ q). ap (λ w. w || h q) (outside r y q (inr b) ∙ sym (ne_eqb r q (λ z. omega (arith, z, b, lt))))) s)
    where
      lower : (q : ℕ) → q < r + 1 → (r ≡ q → ⊥) → q < r
      lower q b c = ⊎_elim (λ (d : q < r). d) (λ (d : r ≤ q). absurd (c (omega (arith, b, d)))) (cases_lt q r)

-- one register that holds something, and one that does not
pub busy_more : (s t : BTreeSet ℕ) (h : ℕ → Bool) (r : ℕ) →
    ((q : ℕ) → contains nat_cmp t q ≡ cond (is_eq (nat_cmp r q)) true (contains nat_cmp s q)) →
    ((q : ℕ) → 1 ≤ q → contains nat_cmp s q ≡ h q) → (q : ℕ) → 1 ≤ q → contains nat_cmp t q ≡ ((r == q) || h q)
busy_more s t h r u b q le = u q ∙ ap (λ x. cond x true (contains nat_cmp s q)) (unsigned_tied r q)
    ∙ ap (λ x. cond (r == q) true x) (b q le) ∙ cond_or (r == q) (h q)

pub busy_less : (s t : BTreeSet ℕ) (h : ℕ → Bool) (r : ℕ) →
    ((q : ℕ) → contains nat_cmp t q ≡ cond (is_eq (nat_cmp r q)) false (contains nat_cmp s q)) →
    ((q : ℕ) → 1 ≤ q → contains nat_cmp s q ≡ h q) → (q : ℕ) → 1 ≤ q → contains nat_cmp t q ≡ (h q && not (r == q))
busy_less s t h r u b q le = u q ∙ ap (λ x. cond x false (contains nat_cmp s q)) (unsigned_tied r q)
    ∙ ap (λ x. cond (r == q) false x) (b q le) ∙ cond_and (r == q) (h q)

-- where that changes nothing
pub same_less : (h : ℕ → Bool) (r q : ℕ) → (r ≡ q → h q ≡ false) → h q ≡ (h q && not (r == q))
same_less h r q off = ⊎_elim
    (λ (e : r ≡ q). off e ∙ sym (ap (λ x. x && not (r == q)) (off e)))
    (λ (ne : r ≡ q → ⊥). sym (ap (λ x. h q && not x) (ne_eqb r q ne) ∙ and_all (h q)))
    (cases_eq r q)

pub same_more : (h : ℕ → Bool) (r q : ℕ) → (r ≡ q → h q ≡ true) → h q ≡ ((r == q) || h q)
same_more h r q on = ⊎_elim
    (λ (e : r ≡ q). on e ∙ sym (ap (λ x. x || h q) (eq-eqb r q e)))
    (λ (ne : r ≡ q → ⊥). sym (ap (λ x. x || h q) (ne_eqb r q ne)))
    (cases_eq r q)

-- a register that is in a gap is the least one from itself on
pub gap_here : (g : BTreeMap ℕ ℕ) (h : ℕ → Bool) (s a b : ℕ) → Gaps g h → get nat_cmp g a ≡ Some b → a ≤ s → s < b →
    Least s s h
gap_here g h s a b k at le lt = (omega arith, k.only a b s at le lt, λ r from to. absurd (omega (arith, from, to)))

-- and where one is in none, the first register of the next gap is
pub gap_next : (g : BTreeMap ℕ ℕ) (h : ℕ → Bool) (s f b : ℕ) → Gaps g h → 1 ≤ s → (s + 1 < 2 ^ 64 → h s ≡ true) →
    s ≤ f → get nat_cmp g f ≡ Some b → ((a b : ℕ) → get nat_cmp g a ≡ Some b → s ≤ a → f ≤ a) → Least s f h
gap_next g h s f b k one on le at low = (le, k.only f b f at (omega arith) n.1, λ r from to. held r from to)
  where
    n : (1 ≤ f) × (f < b) × (b < 2 ^ 64)
    n = k.ends f b at

    held : (r : ℕ) → s ≤ r → r < f → h r ≡ true
    held r from to = ⊎_elim (λ y. y)
        (λ z.
        let o = k.found r (omega (arith, one, from)) (omega (arith, to, n.1, n.2)) z in
        ⊎_elim
        (λ (lt : o.0 < s).
        absurd (clash (on (omega (arith, from, to, n.1, n.2)))
        (k.only o.0 o.1 s o.2 (omega (arith, lt)) (omega (arith, from, o.4)))))
        (λ (ge : s ≤ o.0). (let up = low o.0 o.1 o.2 ge in absurd (omega (arith, up, o.3, to))))
        (cases_lt o.0 s))
        (bool_cases (h r))

-- so there is one
pub gap_from : (g : BTreeMap ℕ ℕ) (h : ℕ → Bool) (s r : ℕ) → Gaps g h → 1 ≤ s → (s + 1 < 2 ^ 64 → h s ≡ true) →
    s ≤ r → r + 1 < 2 ^ 64 → h r ≡ false → (a : ℕ) × (b : ℕ) × (get nat_cmp g a ≡ Some b) × (s ≤ a)
gap_from g h s r k one on le lt z =
    let o = k.found r (omega (arith, one, le)) lt z in
    ⊎_elim
    (λ (y : o.0 < s).
    absurd (clash (on (omega (arith, le, lt))) (k.only o.0 o.1 s o.2 (omega (arith, y)) (omega (arith, le, o.4)))))
    (λ (y : s ≤ o.0). (o.0, o.1, o.2, y))
    (cases_lt o.0 s)

not_gt : (a b : ℕ) → a ≤ b → is_gt (nat_cmp a b) ≡ false
not_gt a b le = by_ranked (a < b) (a ≡ b) (b < a) (nat_cmp a b) (ranked a b (nat_cmp a b) refl)
    (λ e lt. ap is_gt e) (λ e same. ap is_gt e) (λ e gt. absurd (omega (arith, le, gt)))

there : {x : Option ℕ} (w : ℕ) → x ≡ Some w → IsSome x
there w e = ap is_some e

-- the last gap of those that begin at r or before it
pub last_one : (g : BTreeMap ℕ ℕ) (r x y : ℕ) (es t : List (ℕ × ℕ)) → IsRangeOf nat_cmp Unbounded (Included r) g es →
    es ≡ t ++ (x, y) ∷ [] →
    (get nat_cmp g x ≡ Some y) × (x ≤ r) × ((a b : ℕ) → get nat_cmp g a ≡ Some b → a ≤ r → a ≤ x)
last_one g r x y es t p e =
    let i = p.3 (x, y) t e in
    (i.1, le_from_not_gt x r i.0.1, λ a b z le. ge_from_not_lt x a (p.4 (x, y) t e a (tt, not_gt a r le) (there b z)))
