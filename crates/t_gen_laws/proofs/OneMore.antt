-- One more variable: its register is apart from those of the variables that are still used, and all are live.
use Rattle.std.proofs.Common.{◌≡◌, ℕ, zero, suc, ◌<◌, List, ◌∷◌, length, Some, refl, sym, ap, ◌∙◌, arith}
use Rattle.std.specs.Prelude.{Bool, true, ◌&&◌, ◌||◌}
use Rattle.std.proofs.lemmas.Bool.{eq-eqb, cond_both, or_left, or_right, and_from, true≢false as not_both}
use Rattle.a_terms.specs.Tree.{ATy, ATuple, AVal, Var, Num, Lab, Data, Apply, Pack, ADecl, Value, Proj, Arith, Unpack}
use Rattle.a_terms.specs.Tree.{Malloc, Init, ATm, Let, AProg}
use Rattle.a_terms.specs.Typing.{type_of, declared, TypedDecl}
use Rattle.a_terms.specs.TypeLaws.{length_declared}
use Rattle.t_types.specs.Tree.{Ty}
use Rattle.t_types.specs.Fits.{Fits, RegTypes}
use Rattle.t_terms.specs.Registers.{with_reg}
use Rattle.t_gen_rules.specs.Gen.{ty, place, uses, uses_decl, used, over, free, owner, target}
use Rattle.t_gen_laws.proofs.Covers.{look_same, look_other, Live, live_fewer, live_next, Apart, in_scope, Keeps}
use Rattle.t_gen_laws.proofs.Covers.{live_stays}
use Rattle.t_gen_laws.proofs.Free.{top_place, free_apart}

-- the register in which a value is left is a variable's own, where a variable that is still used has it
pub owner_shared : (v : AVal) (m : List ℕ) (u : ℕ → Bool) (e : ATm) (j : ℕ) → u j ≡ true → place m j ≡ owner m v u e →
    (n : ℕ) × (v ≡ Var n) × (place m j ≡ place m n)
owner_shared (Var n) m u e j y x =
    cond_both (used e (suc n) && used e 0) (free m u e) (place m n)
    (λ r. place m j ≡ r → (i : ℕ) × (Var n ≡ Var i) × (place m j ≡ place m i))
    (λ c z. absurd (free_apart m u e j y z)) (λ c z. (n, refl, z)) x
owner_shared (Num i) m u e j y x = absurd (free_apart m u e j y x)
owner_shared (Lab i) m u e j y x = absurd (free_apart m u e j y x)
owner_shared (Data i) m u e j y x = absurd (free_apart m u e j y x)
owner_shared (Apply v ts) m u e j y x = absurd (free_apart m u e j y x)
owner_shared (Pack h v s) m u e j y x = absurd (free_apart m u e j y x)

-- one more variable, in register r
apart_push : (m : List ℕ) (g g2 : List ATy) (u v : ℕ → Bool) (r : ℕ) → Apart m g u →
    ((n : ℕ) → v (suc n) ≡ true → u n ≡ true) → length g2 ≡ suc (length g) →
    ((j : ℕ) → v 0 ≡ true → v (suc j) ≡ true → j < length m → r ≡ place m j → ⊥) → Apart (r ∷ m) g2 v
apart_push m g g2 u v r a k len new = record { same = omega (arith, a.same, len); own = own }
  where
    own : (i j : ℕ) → v i ≡ true → v j ≡ true → i < length (r ∷ m) → j < length (r ∷ m) →
        place (r ∷ m) i ≡ place (r ∷ m) j → i ≡ j
    own zero zero x y li lj e = refl
    own zero (suc j) x y li lj e = absurd (new j x y (omega arith) e)
    own (suc i) zero x y li lj e = absurd (new i y x (omega arith) (sym e))
    own (suc i) (suc j) x y li lj e = ap suc (a.own i j (k i x) (k j y) (omega arith) (omega arith) e)

-- where w tells what is still used, the rest's variables among them
owner_apart : (p : AProg) (g : List ATy) (v : AVal) (t : ATy) (m : List ℕ) (w : ℕ → Bool) (e : ATm) (u : ℕ → Bool) →
    Apart m g u → ((n : ℕ) → used e (suc n) ≡ true → u n ≡ true) → ((n : ℕ) → uses v n ≡ true → u n ≡ true) →
    ((n : ℕ) → used e (suc n) ≡ true → w n ≡ true) → type_of p g v ≡ Some t → (j : ℕ) → used e 0 ≡ true →
    used e (suc j) ≡ true → j < length m → owner m v w e ≡ place m j → ⊥
owner_apart p g (Var n) t m w e u a k l kw x =
    cond_both (used e (suc n) && used e 0) (free m w e) (place m n)
    (λ r. (j : ℕ) → used e 0 ≡ true → used e (suc j) ≡ true → j < length m → r ≡ place m j → ⊥)
    (λ c j y z lt q. free_apart m w e j (kw j z) (sym q))
    (λ c j y z lj q.
    let lt = in_scope m g u n t a x in
    let same : n ≡ j = a.own n j (l n (eq-eqb n n refl)) (k j z) lt lj q in
    not_both (sym (and_from (used e (suc n)) (used e 0) (ap (λ i. used e (suc i)) same ∙ z) y) ∙ c))
owner_apart p g (Num i) t m w e u a k l kw x = λ j y z lt q. free_apart m w e j (kw j z) (sym q)
owner_apart p g (Lab i) t m w e u a k l kw x = λ j y z lt q. free_apart m w e j (kw j z) (sym q)
owner_apart p g (Data i) t m w e u a k l kw x = λ j y z lt q. free_apart m w e j (kw j z) (sym q)
owner_apart p g (Apply v ts) t m w e u a k l kw x = λ j y z lt q. free_apart m w e j (kw j z) (sym q)
owner_apart p g (Pack h v s) t m w e u a k l kw x = λ j y z lt q. free_apart m w e j (kw j z) (sym q)

fresh_apart : (m : List ℕ) (e : ATm) (j : ℕ) → used e (suc j) ≡ true → free m (λ n. used e (suc n)) e ≡ place m j → ⊥
fresh_apart m e j y q = free_apart m (λ n. used e (suc n)) e j y (sym q)

pub apart_next : (p : AProg) (k : ℕ) (g : List ATy) (m : List ℕ) (x : ADecl) (e : ATm) → Apart m g (used (Let x e)) →
    TypedDecl p k g x → Apart (target m x e ∷ m) (declared p g x) (used e)
apart_next p k g m (Value v) e a d =
    apart_push m g (declared p g (Value v)) (used (Let (Value v) e)) (used e) (owner m v (λ n. used e (suc n)) e) a
    (λ n y. or_right (uses v n) (used e (suc n)) y) (length_declared p g (Value v))
    (owner_apart p g v d.0 m (λ n. used e (suc n)) e (used (Let (Value v) e)) a
    (λ n y. or_right (uses v n) (used e (suc n)) y) (λ n y. or_left (uses v n) (used e (suc n)) y)
    (λ n y. y) d.1.is)
apart_next p k g m (Init v i w) e a d =
    apart_push m g (declared p g (Init v i w)) (used (Let (Init v i w) e)) (used e)
    (owner m v (λ n. uses w n || used e (suc n)) e) a (λ n y. or_right (uses v n || uses w n) (used e (suc n)) y)
    (length_declared p g (Init v i w))
    (owner_apart p g v (ATuple d.0) m (λ n. uses w n || used e (suc n)) e (used (Let (Init v i w) e)) a
    (λ n y. or_right (uses v n || uses w n) (used e (suc n)) y)
    (λ n y. or_left (uses v n || uses w n) (used e (suc n)) (or_left (uses v n) (uses w n) y))
    (λ n y. or_right (uses w n) (used e (suc n)) y) d.3.is)
apart_next p k g m (Proj i v) e a d =
    apart_push m g (declared p g (Proj i v)) (used (Let (Proj i v) e)) (used e) (free m (λ n. used e (suc n)) e) a
    (λ n y. or_right (uses_decl (Proj i v) n) (used e (suc n)) y) (length_declared p g (Proj i v))
    (λ j y z lt q. fresh_apart m e j z q)
apart_next p k g m (Arith o v w) e a d =
    apart_push m g (declared p g (Arith o v w)) (used (Let (Arith o v w) e)) (used e) (free m (λ n. used e (suc n)) e)
    a (λ n y. or_right (uses_decl (Arith o v w) n) (used e (suc n)) y) (length_declared p g (Arith o v w))
    (λ j y z lt q. fresh_apart m e j z q)
apart_next p k g m (Unpack v) e a d =
    apart_push m g (declared p g (Unpack v)) (used (Let (Unpack v) e)) (used e) (free m (λ n. used e (suc n)) e) a
    (λ n y. or_right (uses_decl (Unpack v) n) (used e (suc n)) y) (length_declared p g (Unpack v))
    (λ j y z lt q. fresh_apart m e j z q)
apart_next p k g m (Malloc ts) e a d =
    apart_push m g (declared p g (Malloc ts)) (used (Let (Malloc ts) e)) (used e) (free m (λ n. used e (suc n)) e) a
    (λ n y. y) (length_declared p g (Malloc ts)) (λ j y z lt q. fresh_apart m e j z q)

-- the variables that the rest uses are below the spare registers
pub below : (m : List ℕ) (x : ADecl) (e : ATm) (n : ℕ) → used e (suc n) ≡ true → place m n < over m (used (Let x e))
below m x e n y =
    let t = top_place 0 m (used (Let x e)) n (or_right (uses_decl x n) (used e (suc n)) y) in omega (arith, t)

-- one more variable, in a free register
pub next_live : (g : List ATy) (f h : RegTypes) (m : List ℕ) (x : ADecl) (e : ATm) (t : ATy) (u : Ty) →
    Live f m g (over m (used (Let x e))) (used (Let x e)) → Keeps f h m (λ n. used e (suc n)) → Fits u (ty t) →
    Live (with_reg h (free m (λ n. used e (suc n)) e) u) (free m (λ n. used e (suc n)) e ∷ m) (t ∷ g)
    (over (free m (λ n. used e (suc n)) e ∷ m) (used e)) (used e)
next_live g f h m x e t u c o fit =
    let d = over m (used (Let x e)) in
    let r = free m (λ n. used e (suc n)) e in
    let h2 = with_reg h r u in
    live_next h2 m g d (used e) r t u
    (live_stays f h2 m g d (λ n. used e (suc n))
    (λ n y. look_other h r (place m n) u (λ z. absurd (free_apart m (λ n. used e (suc n)) e n y z))
    ∙ o n y) (live_fewer f m g d (used (Let x e)) (λ n. used e (suc n))
    (λ n y. or_right (uses_decl x n) (used e (suc n)) y) c))
    (look_same h r u) fit
