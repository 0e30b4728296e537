-- Words one after the other, and stores.
use Rattle.std.proofs.Common.{◌≡◌, ◌<◌, ◌+◌, ◌⊎◌, inl, inr, ⊎_elim, ℕ, zero, suc, Some, None, refl, sym, ap, ◌∙◌}
use Rattle.std.proofs.Common.{arith}
use Rattle.calc_core.specs.Ends.{lift}
use Rattle.calc_core.specs.Words.{Word, Words, NoWords, MoreWords, at, size, onto, field, held, hold, one_more}
use Rattle.calc_core.proofs.Lifts.{lift_suc}

module _ {C : Type 0} where
  -- the ones before the others, and all but the first n
  abbrev pub join : Words C → Words C → Words C
  join NoWords vs = vs
  join (MoreWords v us) vs = MoreWords v (join us vs)

  abbrev pub without_first : ℕ → Words C → Words C
  without_first zero vs = vs
  without_first (suc n) NoWords = NoWords
  without_first (suc n) (MoreWords v vs) = without_first n vs

  pub onto_join : (us vs ws : Words C) → onto us (join vs ws) ≡ join (onto us vs) ws
  onto_join NoWords vs ws = refl
  onto_join (MoreWords u us) vs ws = onto_join us (MoreWords u vs) ws

  pub onto_onto : (us vs ws : Words C) → onto (onto us vs) ws ≡ onto vs (join us ws)
  onto_onto NoWords vs ws = refl
  onto_onto (MoreWords u us) vs ws = onto_onto us (MoreWords u vs) ws

  pub size_onto : (us vs : Words C) → size (onto us vs) ≡ size us + size vs
  size_onto NoWords vs = omega arith
  size_onto (MoreWords u us) vs = omega (arith, size_onto us (MoreWords u vs))

  pub at_onto : (us vs : Words C) (i : ℕ) → at (onto us vs) (lift (size us) i) ≡ at vs i
  at_onto NoWords vs i = refl
  at_onto (MoreWords u us) vs i =
      ap (at (onto us (MoreWords u vs))) (sym (lift_suc (size us) i)) ∙ at_onto us (MoreWords u vs) (suc i)

  pub at_join : (us vs : Words C) (i : ℕ) → at (join us vs) (lift (size us) i) ≡ at vs i
  at_join NoWords vs i = refl
  at_join (MoreWords u us) vs i = at_join us vs i

  pub without_joined : (us vs : Words C) → without_first (size us) (join us vs) ≡ vs
  without_joined NoWords vs = refl
  without_joined (MoreWords u us) vs = without_joined us vs

  pub without_one_more : (j : ℕ) (fs : Words C) (x : Word C) (rest : Words C) → without_first j fs ≡ MoreWords x rest →
      (field (suc j) fs ≡ Some x) × (at fs j ≡ x) × (without_first (suc j) fs ≡ rest)
  without_one_more zero NoWords x rest e = absurd cc
  without_one_more zero (MoreWords f fs) x rest e = (cc, cc, cc)
  without_one_more (suc j) NoWords x rest e = absurd cc
  without_one_more (suc j) (MoreWords f fs) x rest e = without_one_more j fs x rest e

  none_held : (x : Word C) → None ≡ Some x → ⊥
  none_held x e = cc

  -- stores
  pub held_there : (st : Words C) (p : ℕ) → p < size st → (y : Word C) × (held p st ≡ Some y)
  held_there NoWords p l = absurd (omega arith)
  held_there (MoreWords y st) zero l = (y, refl)
  held_there (MoreWords y st) (suc p) l = held_there st p (omega arith)

  pub held_one : (st : Words C) (y z : Word C) (p : ℕ) → held p (one_more st y) ≡ Some z →
      (held p st ≡ Some z) ⊎ ((p ≡ size st) × (y ≡ z))
  held_one NoWords y z zero e = inr (refl, cc)
  held_one NoWords y z (suc p) e = absurd (none_held z e)
  held_one (MoreWords x st) y z zero e = inl e
  held_one (MoreWords x st) y z (suc p) e = ⊎_elim (λ l. inl l) (λ r. inr (ap suc r.0, r.1)) (held_one st y z p e)

  pub held_hold : (st : Words C) (p q : ℕ) (y z : Word C) → held q (hold p y st) ≡ Some z →
      ((q ≡ p) × (y ≡ z)) ⊎ ((p ≡ q → ⊥) × (held q st ≡ Some z))
  held_hold NoWords p q y z e = absurd (none_held z e)
  held_hold (MoreWords x st) zero zero y z e = inl (refl, cc)
  held_hold (MoreWords x st) zero (suc q) y z e = inr ((λ f. cc), e)
  held_hold (MoreWords x st) (suc p) zero y z e = inr ((λ f. cc), e)
  held_hold (MoreWords x st) (suc p) (suc q) y z e =
      ⊎_elim (λ r. inl (ap suc r.0, r.1)) (λ r. inr ((λ f. r.0 cc), r.1)) (held_hold st p q y z e)

  pub size_one : (st : Words C) (y : Word C) → size (one_more st y) ≡ suc (size st)
  size_one NoWords y = refl
  size_one (MoreWords x st) y = ap suc (size_one st y)

  pub size_hold : (st : Words C) (p : ℕ) (y : Word C) → size (hold p y st) ≡ size st
  size_hold NoWords p y = refl
  size_hold (MoreWords x st) zero y = refl
  size_hold (MoreWords x st) (suc p) y = ap suc (size_hold st p y)
