-- What every search for a first difference has: it goes by heads and steps alone.
use Rattle.std.proofs.Common.{◌≡◌, ◌≢◌, ◌⊎◌, inl, inr, ℕ, ◌<◌, [], ◌∷◌, Option, Some, None, option_map, Bool, true}
use Rattle.std.proofs.Common.{false, if◌then◌else◌, refl, sym, ap, ◌∙◌, subst, arith}
use Rattle.std.proofs.lemmas.Bool.{cases_order}
use Rattle.type_path.specs.Paths.{Path, place, Before, and_then, follow, Head, IsFirst, or_else, inside}
use Rattle.type_path.specs.declared.step.Step.{Step}
use Rattle.type_path.specs.declared.step.Step.TheVariants.{Argument, Result, Body, Cell, Field, Flag, Register}

-- ---- the order of paths

-- steps at one place are one step
pub same_step : (r s : Step) → place r ≡ place s → r ≡ s
same_step Argument Argument h = refl
same_step Result Result h = refl
same_step Body Body h = refl
same_step Cell Cell h = refl
same_step (Field i) (Field j) h = let e : i ≡ j = omega (arith, h) in ap Field e
same_step (Flag i) (Flag j) h = let e : i ≡ j = omega (arith, h) in ap Flag e
same_step (Register i) (Register j) h = let e : i ≡ j = omega (arith, h) in ap Register e
same_step r s h = let no : ⊥ = omega (arith, h) in absurd no

pub to_field : (s : Step) (n m : ℕ) → s ≡ Field n → n ≡ m → s ≡ Field m
to_field s n m h e = h ∙ ap Field e

pub to_flag : (s : Step) (n m : ℕ) → s ≡ Flag n → n ≡ m → s ≡ Flag m
to_flag s n m h e = h ∙ ap Flag e

-- of two paths one comes first
order_at : (r s : Step) (p q : Path) → (p ≡ q) ⊎ (Before p q ⊎ Before q p) →
    (place r ≡ place s) ⊎ ((place r < place s) ⊎ (place s < place r)) →
    ((r ∷ p) ≡ (s ∷ q)) ⊎ (Before (r ∷ p) (s ∷ q) ⊎ Before (s ∷ q) (r ∷ p))
order_at r s p q rest (inr (inl lt)) = inr (inl (inl lt))
order_at r s p q rest (inr (inr lt)) = inr (inr (inl lt))
order_at r s p q (inl e) (inl same) = let h = same_step r s same in inl cc
order_at r s p q (inr (inl b)) (inl same) = inr (inl (inr (same_step r s same, b)))
order_at r s p q (inr (inr b)) (inl same) = inr (inr (inr (sym (same_step r s same), b)))

order : (p q : Path) → (p ≡ q) ⊎ (Before p q ⊎ Before q p)
order [] [] = inl refl
order [] (s ∷ q) = inr (inl tt)
order (r ∷ p) [] = inr (inr tt)
order (r ∷ p) (s ∷ q) = order_at r s p q (order p q) (cases_order (place r) (place s))

pub one_first : (f g : Path → Option Head) (p q : Path) → IsFirst f g p → IsFirst f g q → p ≡ q
one_first f g p q h k = by_order (order p q)
  where
    by_order : (p ≡ q) ⊎ (Before p q ⊎ Before q p) → p ≡ q
    by_order (inl e) = e
    by_order (inr (inl b)) = absurd (h.here (k.before p b))
    by_order (inr (inr b)) = absurd (k.here (h.before q b))

-- ---- what is found of parts

pub or_none : (x y : Option Path) → or_else x y ≡ None → (x ≡ None) × (y ≡ None)
or_none None y e = (refl, e)
or_none (Some p) y e = cc

pub inside_none : (s : Step) (x : Option Path) → inside s x ≡ None → x ≡ None
inside_none s None e = refl
inside_none s (Some p) e = cc

pub or_some : (x y : Option Path) (p : Path) → or_else x y ≡ Some p → (x ≡ Some p) ⊎ ((x ≡ None) × (y ≡ Some p))
or_some None y p e = inr (refl, e)
or_some (Some q) y p e = inl e

pub inside_some : (s : Step) (x : Option Path) (r : Step) (p : Path) → inside s x ≡ Some (r ∷ p) →
    (s ≡ r) × (x ≡ Some p)
inside_some s None r p e = cc
inside_some s (Some q) r p e = let e1 : s ≡ r = cc in let e2 : q ≡ p = cc in (e1, ap Some e2)

pub inside_empty : (s : Step) (x : Option Path) → inside s x ≡ Some [] → ⊥
inside_empty s None e = cc
inside_empty s (Some p) e = cc

pub or_empty : (x y : Option Path) → (x ≡ Some [] → ⊥) → (y ≡ Some [] → ⊥) → or_else x y ≡ Some [] → ⊥
or_empty None y f g e = g e
or_empty (Some p) y f g e = f e

-- a difference that a test makes
abbrev pub tested : Bool → Option Path
tested x = if x then None else Some []

pub tested_none : (x : Bool) → tested x ≡ None → x ≡ true
tested_none true e = refl
tested_none false e = cc

pub tested_empty : (x : Bool) → tested x ≡ Some [] → x ≡ false
tested_empty true e = cc
tested_empty false e = refl

pub tested_more : (x : Bool) (s : Step) (p : Path) → tested x ≡ Some (s ∷ p) → ⊥
tested_more true s p e = cc
tested_more false s p e = cc

-- ---- a search, of two wholes of one kind

-- behind a step two wholes go on to differ, or one of them has no part there
abbrev pub There : {T : Type 0} → (T → T → Option Path) → Path → Option T → Option T → Type 0
There difference p None None = ⊥
There difference p (Some x) None = p ≡ []
There difference p None (Some y) = p ≡ []
There difference p (Some x) (Some y) = difference x y ≡ Some p

-- where a path begins with a step: the heads are the same, and the parts further left; and there they differ
pub record Behind {T : Type 0} (head : T → Head) (into : Step → T → Option T) (difference : T → T → Option Path)
    (a b : T) (s : Step) (p : Path) : Type 0 where
  pub same : head a ≡ head b
  pub before : (r : Step) → place r < place s → into r a ≡ into r b
  pub there : There difference p (into s a) (into s b)

module _ {T : Type 0} (head : T → Head) (into : Step → T → Option T) (difference : T → T → Option Path)
    (Fine : T → Type 0) (keeps : (s : Step) (t u : T) → Fine t → into s t ≡ Some u → Fine u)
    (equal : (a b : T) → difference a b ≡ None → a ≡ b)
    (whole : (a b : T) → Fine a → Fine b → difference a b ≡ Some [] → head a ≢ head b)
    (behind : (a b : T) (s : Step) (p : Path) → Fine a → Fine b → difference a b ≡ Some (s ∷ p) →
    Behind head into difference a b s p) where
  abbrev heads : T → Path → Option Head
  heads t p = option_map head (follow into p t)

  abbrev behind_heads : Path → Option T → Option Head
  behind_heads p x = option_map head (and_then x (follow into p))

  differ_at : (s : Step) (p : Path) (a b : T) → Fine a → Fine b → (x y : Option T) → into s a ≡ x → into s b ≡ y →
      There difference p x y → ((x y : T) → Fine x → Fine y → difference x y ≡ Some p → heads x p ≢ heads y p) →
      behind_heads p x ≢ behind_heads p y
  differ_at s p a b fa fb (Some x) (Some y) i j h go = go x y (keeps s a x fa i) (keeps s b y fb j) h
  differ_at s p a b fa fb (Some x) None i j h go =
      subst (λ q. option_map head (follow into q x) ≢ None) (sym h) (λ e. cc)
  differ_at s p a b fa fb None (Some y) i j h go =
      subst (λ q. None ≢ option_map head (follow into q y)) (sym h) (λ e. cc)
  differ_at s p a b fa fb None None i j h go = absurd h

  differ : (p : Path) (a b : T) → Fine a → Fine b → difference a b ≡ Some p → heads a p ≢ heads b p
  differ [] a b fa fb e = λ h. let same : head a ≡ head b = cc in whole a b fa fb e same
  differ (s ∷ p) a b fa fb e =
      differ_at s p a b fa fb (into s a) (into s b) refl refl (behind a b s p fa fb e).there (differ p)

  alike_at : (s : Step) (p q : Path) (a b : T) → Fine a → Fine b → (x y : Option T) → into s a ≡ x → into s b ≡ y →
      There difference p x y → Before q p →
      ((x y : T) → Fine x → Fine y → difference x y ≡ Some p → heads x q ≡ heads y q) →
      behind_heads q x ≡ behind_heads q y
  alike_at s p q a b fa fb (Some x) (Some y) i j h before go = go x y (keeps s a x fa i) (keeps s b y fb j) h
  alike_at s p q a b fa fb (Some x) None i j h before go = absurd (subst (Before q) h before)
  alike_at s p q a b fa fb None (Some y) i j h before go = absurd (subst (Before q) h before)
  alike_at s p q a b fa fb None None i j h before go = absurd h

  alike : (p q : Path) (a b : T) → Fine a → Fine b → difference a b ≡ Some p → Before q p → heads a q ≡ heads b q
  alike [] q a b fa fb e before = absurd before
  alike (s ∷ p) [] a b fa fb e before = ap Some (behind a b s p fa fb e).same
  alike (s ∷ p) (r ∷ q) a b fa fb e (inl further) = ap (behind_heads q) ((behind a b s p fa fb e).before r further)
  alike (s ∷ p) (r ∷ q) a b fa fb e (inr (same, before)) =
      subst (λ z. heads a (z ∷ q) ≡ heads b (z ∷ q)) (sym same)
      (alike_at s p q a b fa fb (into s a) (into s b) refl refl (behind a b s p fa fb e).there before
      (λ x y fx fy h. alike p q x y fx fy h before))

  pub first : (a b : T) (p : Path) → Fine a → Fine b → difference a b ≡ Some p → IsFirst (heads a) (heads b) p
  first a b p fa fb e = record { here = differ p a b fa fb e; before = λ q. alike p q a b fa fb e }

  pub found : (a b : T) (p : Path) → Fine a → Fine b → IsFirst (heads a) (heads b) p → difference a b ≡ Some p
  found a b p fa fb h = by (difference a b) refl
    where
      by : (x : Option Path) → difference a b ≡ x → difference a b ≡ Some p
      by None e = absurd (h.here (ap (λ t. heads t p) (equal a b e)))
      by (Some q) e = e ∙ ap Some (one_first (heads a) (heads b) q p (first a b q fa fb e) h)

  pub of_one : (a : T) → Fine a → difference a a ≡ None
  of_one a fa = by (difference a a) refl
    where
      by : (x : Option Path) → difference a a ≡ x → difference a a ≡ None
      by None e = e
      by (Some q) e = absurd (differ q a a fa fa e refl)
