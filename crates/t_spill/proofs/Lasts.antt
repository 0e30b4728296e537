-- The last place of each register in an order tells which are left behind a place.
use Rattle.std.proofs.Common.{add-zero, ◌≡◌, ℕ, ◌+◌, ◌<◌, ◌≤◌, cond, Bool, true, false, List, [], ◌∷◌, ◌++◌, refl}
use Rattle.std.proofs.Common.{sym, ap, ◌∙◌, subst, take, drop, length, get_or, Some, arith}
use Rattle.std.specs.Prelude.{nat_lt, nat_eq, unwrap_or}
use Rattle.std.specs.BTreeMap.{BTreeMap, is_at, IsEmpty, Updates}
use Rattle.std.specs.Map.{lookup}
use Rattle.std.specs.Ordering.{nat_cmp}
use Rattle.std.proofs.Math.Logic.{⊎_elim}
use Rattle.std.proofs.lemmas.List.{take_more, drop_all, drop-append-le, length-take, length-append}
use Rattle.std.proofs.lemmas.Bool.{cases_lt, cases_eq, eq-eqb, ne_eqb, lt-ltb, le-ltb}
use Rattle.t_spill_rules.specs.Spill.{among}
use Rattle.t_spill_code.proofs.Gathered.{other_at}
use Rattle.t_spill.specs.Wants.{last_of, Tells}
use Rattle.t_spill.specs.declared.ahead.Ahead.{Ahead}

-- a register behind others
both : (b : Bool) → cond b true true ≡ true
both true = refl
both false = refl

among_last : (ys : List ℕ) (q r : ℕ) → q ≡ r → among r (ys ++ q ∷ []) ≡ true
among_last [] q r e = ap (λ b. cond b true false) (eq-eqb q r e)
among_last (y ∷ ys) q r e = ap (cond (nat_eq y r) true) (among_last ys q r e) ∙ both (nat_eq y r)

among_others : (ys : List ℕ) (q r : ℕ) → (q ≡ r → ⊥) → among r (ys ++ q ∷ []) ≡ among r ys
among_others [] q r ne = ap (λ b. cond b true false) (ne_eqb q r ne)
among_others (y ∷ ys) q r ne = ap (cond (nat_eq y r) true) (among_others ys q r ne)

-- the places of the first i registers
abbrev pub Places : List ℕ → ℕ → BTreeMap ℕ ℕ → Type 0
Places ws i m = (n r : ℕ) → among r (drop n (take i ws)) ≡ nat_lt n (last_of m r)

pub none_placed : (ws : List ℕ) (m : BTreeMap ℕ ℕ) → IsEmpty m → Places ws 0 m
none_placed ws m e n r =
    ap (among r) (drop_all n (take 0 ws) (omega (arith, length-take 0 ws)))
    ∙ sym (le-ltb n 0 (omega arith))
    ∙ ap (λ o. nat_lt n (unwrap_or o 0)) (sym (ap (lookup (is_at (nat_cmp r))) e))

pub one_placed : (ws : List ℕ) (i q : ℕ) (m m2 : BTreeMap ℕ ℕ) → i < length ws → q ≡ get_or ws i 0 →
    Updates nat_cmp m m2 q (Some (i + 1)) → Places ws i m → Places ws (i + 1) m2
one_placed ws i q m m2 lt is u h n r =
    ap (λ xs. among r (drop n xs)) (take_more ws i 0 lt ∙ ap (λ x. take i ws ++ x ∷ []) (sym is))
    ∙ ⊎_elim behind before (cases_lt i n)
  where
    long : length (take i ws) ≡ i
    long = omega (arith, length-take i ws, lt)

    last_at : q ≡ r → last_of m2 r ≡ i + 1
    last_at e = subst (λ x. last_of m2 x ≡ i + 1) e (ap (λ o. unwrap_or o 0) u.1)

    kept_at : (q ≡ r → ⊥) → last_of m2 r ≡ last_of m r
    kept_at ne = ap (λ o. unwrap_or o 0) (u.2 r (other_at q r ne))

    behind : i < n → among r (drop n (take i ws ++ q ∷ [])) ≡ nat_lt n (last_of m2 r)
    behind gt =
        let all : length (take i ws ++ q ∷ []) ≤ n = omega (arith, length-append (take i ws) (q ∷ []), long) in
        let none : nat_lt n (last_of m r) ≡ false = sym (h n r)
        ∙ ap (among r) (drop_all n (take i ws) (omega (arith, long))) in
        ap (among r) (drop_all n (take i ws ++ q ∷ []) all)
        ∙ ⊎_elim
        (λ (e : q ≡ r). sym (le-ltb n (i + 1) (omega arith)) ∙ ap (nat_lt n) (sym (last_at e)))
        (λ (ne : q ≡ r → ⊥). sym none ∙ ap (nat_lt n) (sym (kept_at ne)))
        (cases_eq q r)

    before : n ≤ i → among r (drop n (take i ws ++ q ∷ [])) ≡ nat_lt n (last_of m2 r)
    before le =
        ap (among r) (drop-append-le n (take i ws) (q ∷ []) (omega (arith, long)))
        ∙ ⊎_elim
        (λ (e : q ≡ r). among_last (drop n (take i ws)) q r e ∙ sym (lt-ltb n (i + 1) (omega arith))
        ∙ ap (nat_lt n) (sym (last_at e)))
        (λ (ne : q ≡ r → ⊥). among_others (drop n (take i ws)) q r ne ∙ h n r ∙ ap (nat_lt n) (sym (kept_at ne)))
        (cases_eq q r)

pub told_at : (a : Ahead) (ws : List ℕ) (r : ℕ) → Tells a ws → nat_lt a.passed (last_of a.last r) ≡ among r ws
told_at a ws r t = sym (t.1 0 r ∙ ap (λ n. nat_lt n (last_of a.last r)) (add-zero a.passed))

pub told_none : (a : Ahead) (ws : List ℕ) (r : ℕ) → last_of a.last r ≡ 0 → Tells a ws → false ≡ among r ws
told_none a ws r e t = sym (le-ltb a.passed 0 (omega arith)) ∙ ap (nat_lt a.passed) (sym e) ∙ told_at a ws r t
