-- Stores and heaps: a new cell, and an assignment.
use Rattle.std.proofs.Common.{◌≡◌, ◌⊎◌, inl, inr, ⊎_elim, ℕ, zero, suc, List, [], ◌∷◌, ◌++◌, length, Option, Some}
use Rattle.std.proofs.Common.{None, refl, sym, ap, ◌∙◌, subst, arith, length-append}
use Rattle.std.specs.Prelude.{slice_get, slice_set}
use Rattle.std.proofs.lemmas.Option.{slice_get_within}
use Rattle.a_laws.proofs.Rel.{Grows, Moves, Rel, Stores, Valid, fresh, holds_moves, moves_grow, nth_end, nth_seam}
use Rattle.a_laws.proofs.Rel.{rel_grows, rel_moves}
use Rattle.a_terms.specs.Meaning.{AHeap, AWord}
use Rattle.a_terms.specs.Tree.{AConsts}
use Rattle.calc_core.specs.Words.{held, hold, one_more}
use Rattle.calc_core.proofs.WordLists.{held_there, held_one, held_hold, size_one, size_hold}
use Rattle.h_terms.specs.Meaning.{HWord, HWords}
use Rattle.idx_core.proofs.Lists.{set_same as nth_put_same, get_front as nth_more}

pub none_some : {A : Type 0} (x : A) → None ≡ Some x → ⊥
none_some x e = cc

some_same : {A : Type 0} (o : Option A) (x y : A) → o ≡ Some x → o ≡ Some y → x ≡ y
some_same o x y e f = cc

nth_one : {A : Type 0} (xs : List A) (y x : A) (i : ℕ) → slice_get (xs ++ y ∷ []) i ≡ Some x →
    (slice_get xs i ≡ Some x) ⊎ ((i ≡ length xs) × (y ≡ x))
nth_one [] y x zero e = inr (refl, cc)
nth_one [] y x (suc i) e = absurd (none_some x e)
nth_one (z ∷ xs) y x zero e = inl e
nth_one (z ∷ xs) y x (suc i) e = ⊎_elim (λ l. inl l) (λ r. inr (ap suc r.0, r.1)) (nth_one xs y x i e)

nth_put_other : {A : Type 0} (xs : List A) (i j : ℕ) (y : A) → (i ≡ j → ⊥) →
    slice_get (slice_set xs i y) j ≡ slice_get xs j
nth_put_other [] i j y f = refl
nth_put_other (x ∷ xs) zero zero y f = absurd (f refl)
nth_put_other (x ∷ xs) zero (suc j) y f = refl
nth_put_other (x ∷ xs) (suc i) zero y f = refl
nth_put_other (x ∷ xs) (suc i) (suc j) y f = nth_put_other xs i j y (λ e. f (ap suc e))

pub stores_grow : (D : List AConsts) (m : List ℕ) (h h2 : AHeap) (st : HWords) → Grows h h2 → Stores D m h st →
    Stores D m h2 st
stores_grow D m h h2 st g s = record {
  long = s.long;
  holds = λ p y e. (let r = s.holds p y e in (r.0, r.1, r.2, g r.0 (Some r.1 ∷ []) r.3, rel_grows y r.1 m h h2 g r.4));
  kept = holds_moves D m m h h2 (moves_grow m h h2 g) s.kept;
  once = s.once;
}

-- what a cell's address holds
pub cell_holds : (D : List AConsts) (m : List ℕ) (h : AHeap) (st : HWords) (p a : ℕ) → Stores D m h st →
    slice_get m p ≡ Some a → (y : HWord) × (w : AWord) × (held p st ≡ Some y) × (slice_get h a ≡ Some (Some w ∷ []))
    × Rel m h y w
cell_holds D m h st p a s e =
    let l = slice_get_within m p a e in
    let l2 = s.long in
    let y = held_there st p (omega (arith, l, l2)) in
    let r = s.holds p y.0 y.1 in
    (y.0, r.1, y.1, subst (λ b. slice_get h b ≡ Some (Some r.1 ∷ [])) (some_same (slice_get m p) r.0 a r.2 e) r.3, r.4)

pub valid_of : (D : List AConsts) (m : List ℕ) (h : AHeap) (st : HWords) → Stores D m h st → Valid D m h
valid_of D m h st s =
    record { cells = λ p a e. (let r = cell_holds D m h st p a s e in (Some r.1 ∷ [], r.3)); kept = s.kept }

pub held_at : (D : List AConsts) (m : List ℕ) (h : AHeap) (st : HWords) (p a : ℕ) (y : HWord) → Stores D m h st →
    slice_get m p ≡ Some a → held p st ≡ Some y → (w : AWord) × (slice_get h a ≡ Some (Some w ∷ [])) × Rel m h y w
held_at D m h st p a y s e f =
    let r = s.holds p y f in
    (r.1, subst (λ b. slice_get h b ≡ Some (Some r.1 ∷ [])) (some_same (slice_get m p) r.0 a r.2 e) r.3, r.4)

-- a new cell
pub moves_cell : (m : List ℕ) (h : AHeap) (fs : List (Option AWord)) → Moves m h (m ++ length h ∷ []) (h ++ fs ∷ [])
moves_cell m h fs = record {
  cells = λ p a e. nth_more m (length h ∷ []) p a e;
  tuples = λ a gs e q. nth_more h (fs ∷ []) a gs e;
  apart = λ a gs e q p c. ⊎_elim (λ l. q p l) (λ r. nth_end h gs (subst (λ b. slice_get h b ≡ Some gs) (sym r.1) e))
      (nth_one m (length h) a p c);
}

pub stores_cell : (D : List AConsts) (m : List ℕ) (h : AHeap) (st : HWords) (y : HWord) (w : AWord) → Stores D m h st →
    Rel m h y w → Stores D (m ++ length h ∷ []) (h ++ (Some w ∷ []) ∷ []) (one_more st y)
stores_cell D m h st y w s r = record {
  long = omega (arith, s.long, length-append m (length h ∷ []), size_one st y);
  holds = λ p z e. ⊎_elim
      (λ l. (let q = s.holds p z l in (
        q.0,
        q.1,
        nth_more m (length h ∷ []) p q.0 q.2,
        nth_more h ((Some w ∷ []) ∷ []) q.0 (Some q.1 ∷ []) q.3,
        rel_moves z q.1 m (m ++ length h ∷ []) h (h ++ (Some w ∷ []) ∷ []) mv q.4,
      )))
      (λ q. (
        length h,
        w,
        nth_seam m [] (length h) p (q.0 ∙ sym s.long),
        nth_seam h [] (Some w ∷ []) (length h) refl,
        subst (λ x. Rel (m ++ length h ∷ []) (h ++ (Some w ∷ []) ∷ []) x w) q.1
            (rel_moves y w m (m ++ length h ∷ []) h (h ++ (Some w ∷ []) ∷ []) mv r),
      ))
      (held_one st y z p e);
  kept = holds_moves D m (m ++ length h ∷ []) h (h ++ (Some w ∷ []) ∷ []) mv s.kept;
  once = λ p q a e f.
      ⊎_elim (λ l. ⊎_elim (λ k. s.once p q a l k)
      (λ k. absurd (fresh D m h val p (subst (λ b. slice_get m p ≡ Some b) (sym k.1) l))) (nth_one m (length h) a q f))
      (λ l. ⊎_elim (λ k. absurd (fresh D m h val q (subst (λ b. slice_get m q ≡ Some b) (sym l.1) k)))
      (λ k. l.0 ∙ sym k.0) (nth_one m (length h) a q f))
      (nth_one m (length h) a p e);
}
  where
    mv : Moves m h (m ++ length h ∷ []) (h ++ (Some w ∷ []) ∷ [])
    mv = moves_cell m h (Some w ∷ [])

    val : Valid D m h
    val = valid_of D m h st s

-- an assignment
pub moves_set : (m : List ℕ) (h : AHeap) (p a : ℕ) (fs : List (Option AWord)) → slice_get m p ≡ Some a →
    Moves m h m (slice_set h a fs)
moves_set m h p a fs e = record {
  cells = λ q b f. f;
  tuples = λ b gs f k. nth_put_other h a b fs (λ same. k p (e ∙ ap Some same)) ∙ f;
  apart = λ b gs f k. k;
}

pub stores_set : (D : List AConsts) (m : List ℕ) (h : AHeap) (st : HWords) (p a : ℕ) (y : HWord) (w : AWord) →
    Stores D m h st → slice_get m p ≡ Some a → Rel m h y w → Stores D m (slice_set h a (Some w ∷ [])) (hold p y st)
stores_set D m h st p a y w s e r = record {
  long = s.long ∙ sym (size_hold st p y);
  holds = λ q z f. ⊎_elim
      (λ k. (
        a,
        w,
        ap (slice_get m) k.0 ∙ e,
        nth_put_same h a (Some old.1 ∷ []) (Some w ∷ []) old.3,
        subst (λ x. Rel m (slice_set h a (Some w ∷ [])) x w) k.1
            (rel_moves y w m m h (slice_set h a (Some w ∷ [])) mv r),
      ))
      (λ k. (let c = s.holds q z k.1 in (
        c.0,
        c.1,
        c.2,
        nth_put_other h a c.0 (Some w ∷ []) (λ same. k.0 (s.once p q a e (c.2 ∙ ap Some (sym same)))) ∙ c.3,
        rel_moves z c.1 m m h (slice_set h a (Some w ∷ [])) mv c.4,
      )))
      (held_hold st p q y z f);
  kept = holds_moves D m m h (slice_set h a (Some w ∷ [])) mv s.kept;
  once = s.once;
}
  where
    mv : Moves m h m (slice_set h a (Some w ∷ []))
    mv = moves_set m h p a (Some w ∷ []) e

    old : (x : HWord) × (u : AWord) × (held p st ≡ Some x) × (slice_get h a ≡ Some (Some u ∷ [])) × Rel m h x u
    old = cell_holds D m h st p a s e
