-- Refusals: those that don't come, those that come in one way at most, and those that come unless a fact holds.
use Rattle.std.proofs.Common.{◌≡◌, refl, sym, ◌∙◌, subst, ◌⊎◌, inl, inr, Option, Some, None}
use Rattle.text_core.specs.Refusals.{Refusal, nothing, refuse, check, part, if_known}

module _ {Code Place : Type 0} where
  -- a refusal that doesn't come
  pub record Clear (r : Refusal Code Place) : Type 0 where
    pub clear : (c : Code) (p : Place) → r c p → ⊥

  pub clear_nothing : Clear nothing
  clear_nothing = record { clear = λ c p h. h }

  pub clear_check : {P : Type 0} {f r : Refusal Code Place} → P → Clear r → Clear (check P f r)
  clear_check {P = P} {f = f} {r = r} x k = record { clear = go }
    where
      go : (c : Code) (p : Place) → check P f r c p → ⊥
      go c p (inl h) = h.0 x
      go c p (inr h) = k.clear c p h.1

  pub clear_part : {A : Type 0} {f : Refusal Code Place} {Gives : A → Type 0} {r : A → Refusal Code Place} (x : A) →
      Gives x → Clear f → ((y : A) → Gives y → x ≡ y) → Clear (r x) → Clear (part f Gives r)
  clear_part {A = A} {f = f} {Gives = Gives} {r = r} x gives first one k = record { clear = go }
    where
      go : (c : Code) (p : Place) → part f Gives r c p → ⊥
      go c p (inl h) = first.clear c p h
      go c p (inr h) = k.clear c p (subst (λ y. r y c p) (sym (one h.0 h.1)) h.2)

  pub clear_known : {A : Type 0} {o : Option A} {x : A} (other : Refusal Code Place) (go : A → Refusal Code Place) →
      o ≡ Some x → Clear (go x) → Clear (if_known o other go)
  clear_known other go e k = subst (λ o. Clear (if_known o other go)) (sym e) k

  -- a refusal that comes in one way at most
  pub record One (r : Refusal Code Place) : Type 0 where
    pub one : (c d : Code) (p q : Place) → r c p → r d q → (c ≡ d) × (p ≡ q)

  pub one_nothing : One nothing
  one_nothing = record { one = λ c d p q h k. absurd h }

  pub one_refuse : {code : Code} {s : Place} → One (refuse code s)
  one_refuse = record { one = λ c d p q h k. (h.0 ∙ sym k.0, h.1 ∙ sym k.1) }

  pub one_check : {P : Type 0} {f r : Refusal Code Place} → One f → One r → One (check P f r)
  one_check {P = P} {f = f} {r = r} x y = record { one = go }
    where
      go : (c d : Code) (p q : Place) → check P f r c p → check P f r d q → (c ≡ d) × (p ≡ q)
      go c d p q (inl h) (inl k) = x.one c d p q h.1 k.1
      go c d p q (inl h) (inr k) = absurd (h.0 k.0)
      go c d p q (inr h) (inl k) = absurd (k.0 h.0)
      go c d p q (inr h) (inr k) = y.one c d p q h.1 k.1

  pub one_part : {A : Type 0} {f : Refusal Code Place} {Gives : A → Type 0} {r : A → Refusal Code Place} →
      One f → ((x : A) → Gives x → Clear f) → ((x y : A) → Gives x → Gives y → x ≡ y) → ((x : A) → One (r x)) →
      One (part f Gives r)
  one_part {A = A} {f = f} {Gives = Gives} {r = r} x z same y = record { one = go }
    where
      go : (c d : Code) (p q : Place) → part f Gives r c p → part f Gives r d q → (c ≡ d) × (p ≡ q)
      go c d p q (inl h) (inl k) = x.one c d p q h k
      go c d p q (inl h) (inr k) = absurd ((z k.0 k.1).clear c p h)
      go c d p q (inr h) (inl k) = absurd ((z h.0 h.1).clear d q k)
      go c d p q (inr h) (inr k) = (y k.0).one c d p q (subst (λ u. r u c p) (same h.0 k.0 h.1 k.1) h.2) k.2

  pub one_known : {A : Type 0} {other : Refusal Code Place} {go : A → Refusal Code Place} (o : Option A) →
      One other → ((x : A) → One (go x)) → One (if_known o other go)
  one_known None x y = x
  one_known (Some t) x y = y t

  -- the fact holds, or the refusal comes
  pub data Settles (G : Type 0) (r : Refusal Code Place) : Type 0 where
    holds : G → Settles G r
    comes : (c : Code) (p : Place) → r c p → Settles G r

  pub refused : {G : Type 0} {code : Code} {place : Place} → Settles G (refuse code place)
  refused {code = code} {place = place} = comes code place (refl, refl)

  pub settle_check : {P G : Type 0} {f r : Refusal Code Place} → P ⊎ (P → ⊥) → Settles ⊥ f → (P → Settles G r) →
      Settles G (check P f r)
  settle_check {P = P} {G = G} {f = f} {r = r} (inl x) fault go = after (go x)
    where
      after : Settles G r → Settles G (check P f r)
      after (holds g) = holds g
      after (comes c p h) = comes c p (inr (x, h))
  settle_check {P = P} {G = G} {f = f} {r = r} (inr fails) fault go = after fault
    where
      after : Settles ⊥ f → Settles G (check P f r)
      after (holds g) = absurd g
      after (comes c p h) = comes c p (inl (fails, h))

  pub settle_part : {A G : Type 0} {f : Refusal Code Place} {Gives : A → Type 0} {r : A → Refusal Code Place} →
      Settles ((x : A) × Gives x) f → ((x : A) → Gives x → Settles G (r x)) → Settles G (part f Gives r)
  settle_part {A = A} {G = G} {f = f} {Gives = Gives} {r = r} (holds h) go = after (go h.0 h.1)
    where
      after : Settles G (r h.0) → Settles G (part f Gives r)
      after (holds g) = holds g
      after (comes c p k) = comes c p (inr (h.0, h.1, k))
  settle_part (comes c p h) go = comes c p (inl h)

  pub settle_known : {A G : Type 0} {other : Refusal Code Place} {go : A → Refusal Code Place} (o : Option A) →
      Settles ⊥ other → ((x : A) → o ≡ Some x → Settles G (go x)) → Settles G (if_known o other go)
  settle_known {A = A} {G = G} {other = other} {go = go} None x y = after x
    where
      after : Settles ⊥ other → Settles G other
      after (holds g) = absurd g
      after (comes c p h) = comes c p h
  settle_known (Some t) x y = y t refl

  -- what holds leads on to another fact
  pub settle_map : {G H : Type 0} {r : Refusal Code Place} → (G → H) → Settles G r → Settles H r
  settle_map f (holds g) = holds (f g)
  settle_map f (comes c p h) = comes c p h
