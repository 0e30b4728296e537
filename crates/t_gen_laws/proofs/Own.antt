-- What code generation needs that keeps the registers in use: two variables that are used have not the same register
-- (the same as `Apart`, for programs that may have no types), and the free register and the greatest one in use by what
-- registers are held.
use Rattle.std.proofs.Common.{◌≡◌, ℕ, zero, suc, ◌<◌, ◌≤◌, List, [], ◌∷◌, refl, sym, ap, ◌∙◌, arith, ⊎_elim, ◌⊎◌, inl}
use Rattle.std.proofs.Common.{inr}
use Rattle.std.specs.Prelude.{Bool, true, false, ◌&&◌, ◌||◌, ◌==◌, nat_lt, not}
use Rattle.std.proofs.lemmas.Bool.{eq-eqb, cond_both, cases_order, or_left, or_right, and_from, and_parts}
use Rattle.std.proofs.lemmas.Bool.{true≢false as not_both}
use Rattle.a_terms.specs.Tree.{AVal, Var, Num, Lab, Data, Apply, Pack, ADecl, Value, Proj, Arith, Unpack, Malloc, Init}
use Rattle.a_terms.specs.Tree.{ATm, Let}
use Rattle.t_gen_rules.specs.Gen.{place, uses, uses_decl, used, top, busy, first_free, picked, free, owner, target}
use Rattle.t_gen_laws.specs.Registers.{Own}
use Rattle.t_gen_laws.proofs.Free.{top_place, top_least, busy_found, first_low, first_apart, free_apart}

pub own_fewer : (m : List ℕ) (u v : ℕ → Bool) → ((n : ℕ) → v n ≡ true → u n ≡ true) → Own m u → Own m v
own_fewer m u v k o = λ i j x y. o i j (k i x) (k j y)

own_push : (m : List ℕ) (u v : ℕ → Bool) (r : ℕ) → Own m u → ((n : ℕ) → v (suc n) ≡ true → u n ≡ true) →
    ((j : ℕ) → v 0 ≡ true → v (suc j) ≡ true → 1 ≤ r → r ≡ place m j → ⊥) → Own (r ∷ m) v
own_push m u v r o k new = go
  where
    go : (i j : ℕ) → v i ≡ true → v j ≡ true → 1 ≤ place (r ∷ m) i → place (r ∷ m) i ≡ place (r ∷ m) j → i ≡ j
    go zero zero x y l e = refl
    go zero (suc j) x y l e = absurd (new j x y l e)
    go (suc i) zero x y l e = absurd (new i y x (omega (arith, e)) (sym e))
    go (suc i) (suc j) x y l e = ap suc (o i j (k i x) (k j y) l e)

own_owner : (v : AVal) (m : List ℕ) (w : ℕ → Bool) (e : ATm) (u : ℕ → Bool) → Own m u →
    ((n : ℕ) → used e (suc n) ≡ true → u n ≡ true) → ((n : ℕ) → uses v n ≡ true → u n ≡ true) →
    ((n : ℕ) → used e (suc n) ≡ true → w n ≡ true) → (j : ℕ) → used e 0 ≡ true → used e (suc j) ≡ true →
    1 ≤ owner m v w e → owner m v w e ≡ place m j → ⊥
own_owner (Var n) m w e u o k l kw =
    cond_both (used e (suc n) && used e 0) (free m w e) (place m n)
    (λ r. (j : ℕ) → used e 0 ≡ true → used e (suc j) ≡ true → 1 ≤ r → r ≡ place m j → ⊥)
    (λ c j y z one q. free_apart m w e j (kw j z) (sym q))
    (λ c j y z one q.
    let same : n ≡ j = o n j (l n (eq-eqb n n refl)) (k j z) one q in
    not_both (sym (and_from (used e (suc n)) (used e 0) (ap (λ i. used e (suc i)) same ∙ z) y) ∙ c))
own_owner (Num i) m w e u o k l kw = λ j y z one q. free_apart m w e j (kw j z) (sym q)
own_owner (Lab i) m w e u o k l kw = λ j y z one q. free_apart m w e j (kw j z) (sym q)
own_owner (Data i) m w e u o k l kw = λ j y z one q. free_apart m w e j (kw j z) (sym q)
own_owner (Apply v ts) m w e u o k l kw = λ j y z one q. free_apart m w e j (kw j z) (sym q)
own_owner (Pack h v s) m w e u o k l kw = λ j y z one q. free_apart m w e j (kw j z) (sym q)

own_free : (m : List ℕ) (e : ATm) (u : ℕ → Bool) → Own m u → ((n : ℕ) → used e (suc n) ≡ true → u n ≡ true) →
    Own (free m (λ n. used e (suc n)) e ∷ m) (used e)
own_free m e u o k =
    own_push m u (used e) (free m (λ n. used e (suc n)) e) o k
    (λ j y z one q. free_apart m (λ n. used e (suc n)) e j z (sym q))

pub own_next : (x : ADecl) (e : ATm) (m : List ℕ) → Own m (used (Let x e)) → Own (target m x e ∷ m) (used e)
own_next (Value v) e m o =
    let k : (n : ℕ) → used e (suc n) ≡ true → used (Let (Value v) e) n ≡ true =
    λ n y. or_right (uses v n) (used e (suc n)) y in
    own_push m (used (Let (Value v) e)) (used e) (owner m v (λ n. used e (suc n)) e) o k
    (own_owner v m (λ n. used e (suc n)) e (used (Let (Value v) e)) o k (λ n y. or_left (uses v n) (used e (suc n)) y)
    (λ n y. y))
own_next (Init v i w) e m o =
    let k : (n : ℕ) → used e (suc n) ≡ true → used (Let (Init v i w) e) n ≡ true =
    λ n y. or_right (uses v n || uses w n) (used e (suc n)) y in
    own_push m (used (Let (Init v i w) e)) (used e) (owner m v (λ n. uses w n || used e (suc n)) e) o k
    (own_owner v m (λ n. uses w n || used e (suc n)) e (used (Let (Init v i w) e)) o k
    (λ n y. or_left (uses v n || uses w n) (used e (suc n)) (or_left (uses v n) (uses w n) y))
    (λ n y. or_right (uses w n) (used e (suc n)) y))
own_next (Proj i v) e m o =
    own_free m e (used (Let (Proj i v) e)) o (λ n y. or_right (uses_decl (Proj i v) n) (used e (suc n)) y)
own_next (Arith p v w) e m o =
    own_free m e (used (Let (Arith p v w) e)) o (λ n y. or_right (uses_decl (Arith p v w) n) (used e (suc n)) y)
own_next (Unpack v) e m o =
    own_free m e (used (Let (Unpack v) e)) o (λ n y. or_right (uses_decl (Unpack v) n) (used e (suc n)) y)
own_next (Malloc ts) e m o = own_free m e (used (Let (Malloc ts) e)) o (λ n y. y)

first_busy : (n r q : ℕ) (m : List ℕ) (u : ℕ → Bool) → r ≤ q → q < first_free n r m u → busy q m u ≡ true
first_busy zero r q m u le lt = absurd (omega arith)
first_busy (suc n) r q m u le lt =
    cond_both (busy r m u) (first_free n (suc r) m u) r (λ x. q < x → busy q m u ≡ true)
    (λ c l. ⊎_elim (λ (e : q ≡ r). ap (λ z. busy z m u) e ∙ c)
    (λ ne. ⊎_elim (λ (z : q < r). absurd (omega arith)) (λ (z : r < q). first_busy n (suc r) q m u (omega arith) l)
    ne) (cases_order q r))
    (λ c l. absurd (omega arith)) lt

-- the least register from s on that is not held is the first free one
first_is : (m : List ℕ) (u : ℕ → Bool) (s f : ℕ) → 1 ≤ s → s ≤ f → busy f m u ≡ false →
    ((r : ℕ) → s ≤ r → r < f → busy r m u ≡ true) → f ≡ first_free (top 0 m u) s m u
first_is m u s f one le none less =
    let g = first_free (top 0 m u) s m u in
    ⊎_elim (λ (e : f ≡ g). e)
    (λ ne. ⊎_elim
    (λ (lt : f < g). absurd (not_both (sym (first_busy (top 0 m u) s f m u le lt) ∙ none)))
    (λ (gt : g < f). absurd (free_none (less g (first_low (top 0 m u) s m u) gt))) ne)
    (cases_order f g)
  where
    free_none : busy (first_free (top 0 m u) s m u) m u ≡ true → ⊥
    free_none e =
        let p = busy_found (first_free (top 0 m u) s m u) m u e in
        first_apart (top 0 m u) s m u p.0 one (omega (arith, one)) p.1 p.2

-- the register that is picked, where it is known of h whether it is held
pub picked_is : (m : List ℕ) (u : ℕ → Bool) (h s f : ℕ) → 1 ≤ s
    → ((nat_lt 0 h && not (busy h m u)) ≡ true → f ≡ h)
    → ((nat_lt 0 h && not (busy h m u)) ≡ false → (s ≤ f) × (busy f m u ≡ false)
    × ((r : ℕ) → s ≤ r → r < f → busy r m u ≡ true))
    → f ≡ picked h s m u
picked_is m u h s f one there gone =
    cond_both (nat_lt 0 h && not (busy h m u)) h (first_free (top 0 m u) s m u) (λ x. f ≡ x)
    there (λ c. let l = gone c in first_is m u s f one l.0 l.1 l.2)

top_found : (b : ℕ) (m : List ℕ) (u : ℕ → Bool) → (top b m u ≡ b) ⊎ (busy (top b m u) m u ≡ true)
top_found b [] u = inl refl
top_found b (r ∷ m) u =
    cond_both (u 0 && nat_lt b r) r b
    (λ c. (top c m (λ n. u (suc n)) ≡ b)
    ⊎ (((u 0 && r == top c m (λ n. u (suc n))) || busy (top c m (λ n. u (suc n))) m (λ n. u (suc n))) ≡ true))
    (λ e. ⊎_elim
    (λ x. inr (or_left (u 0 && r == top r m (λ n. u (suc n))) (busy (top r m (λ n. u (suc n))) m (λ n. u (suc n)))
    (and_from (u 0) (r == top r m (λ n. u (suc n))) (and_parts (u 0) (nat_lt b r) e).0
    (eq-eqb r (top r m (λ n. u (suc n))) (sym x)))))
    (λ x. inr (or_right (u 0 && r == top r m (λ n. u (suc n))) (busy (top r m (λ n. u (suc n))) m (λ n. u (suc n))) x))
    (top_found r m (λ n. u (suc n))))
    (λ e. ⊎_elim (λ x. inl x)
    (λ x. inr (or_right (u 0 && r == top b m (λ n. u (suc n))) (busy (top b m (λ n. u (suc n))) m (λ n. u (suc n)))
    x)) (top_found b m (λ n. u (suc n))))

-- the greatest register that is held, or b where none is greater, is the top
pub top_is : (b : ℕ) (m : List ℕ) (u : ℕ → Bool) (t : ℕ) → b ≤ t → (t ≡ b) ⊎ (busy t m u ≡ true) →
    ((r : ℕ) → t < r → busy r m u ≡ false) → t ≡ top b m u
top_is b m u t le held more = ⊎_elim (λ (e : t ≡ top b m u). e)
    (λ ne. ⊎_elim
    (λ (lt : t < top b m u). ⊎_elim (λ (z : top b m u ≡ b). absurd (omega arith))
    (λ z. absurd (not_both (sym z ∙ more (top b m u) lt))) (top_found b m u))
    (λ (gt : top b m u < t). ⊎_elim
    (λ (z : t ≡ b). let l = top_least b m u in absurd (omega (arith, l, z)))
    (λ z. let p = busy_found t m u z in let le = top_place b m u p.0 p.1 in absurd (omega (arith, le, p.2))) held) ne)
    (cases_order t (top b m u))
