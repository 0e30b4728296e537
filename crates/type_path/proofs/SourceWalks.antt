-- The search in two types of the source.
use Rattle.std.proofs.Common.{◌≡◌, ◌≢◌, ◌⊎◌, inl, inr, ℕ, zero, suc, ◌+◌, ◌<◌, ◌==◌, [], ◌∷◌, Some, None}
use Rattle.std.proofs.Common.{refl, sym, ap, ap₂, ◌↔◌, subst, arith}
use Rattle.std.proofs.lemmas.Bool.{eqb-true, eq-eqb}
use Rattle.f_terms.specs.Ty.{Ty, TInt, TVar, TArrow, TAll, TTuple, TSome, TRef, Tys, NoTys, MoreTys}
use Rattle.f_terms.specs.Typing.{ty_at}
use Rattle.type_path.specs.Paths.{Path, place, IsFirst, inside}
use Rattle.type_path.specs.Source.{head, into, heads, difference, differences}
use Rattle.type_path.specs.declared.step.Step.{Step}
use Rattle.type_path.specs.declared.step.Step.TheVariants.{Argument, Result, Body, Cell, Field}
use Rattle.type_path.proofs.Walks as walks
use Rattle.type_path.proofs.Walks.{or_none, inside_none, or_some, inside_some, inside_empty, or_empty, tested_none}
use Rattle.type_path.proofs.Walks.{tested_empty, tested_more, to_field, There, Behind}

-- ---- nothing is found of equal types alone

mutual
  pub equal : (a b : Ty) → difference a b ≡ None → a ≡ b
  equal TInt TInt e = refl
  equal (TVar i) (TVar j) e = ap TVar (eqb-true i j (tested_none (i == j) e))
  equal (TArrow a b) (TArrow c d) e =
      let h = or_none (inside Argument (difference a c)) (inside Result (difference b d)) e in
      ap₂ TArrow (equal a c (inside_none Argument (difference a c) h.0))
      (equal b d (inside_none Result (difference b d) h.1))
  equal (TAll t) (TAll u) e = ap TAll (equal t u (inside_none Body (difference t u) e))
  equal (TTuple ts) (TTuple us) e = ap TTuple (equals ts us 1 e)
  equal (TSome t) (TSome u) e = ap TSome (equal t u (inside_none Body (difference t u) e))
  equal (TRef t) (TRef u) e = ap TRef (equal t u (inside_none Cell (difference t u) e))
  equal a b e = cc

  equals : (ts us : Tys) (k : ℕ) → differences k ts us ≡ None → ts ≡ us
  equals NoTys NoTys k e = refl
  equals (MoreTys t ts) (MoreTys u us) k e =
      let h = or_none (inside (Field k) (difference t u)) (differences (k + 1) ts us) e in
      ap₂ MoreTys (equal t u (inside_none (Field k) (difference t u) h.0)) (equals ts us (k + 1) h.1)
  equals ts us k e = cc

-- ---- where the path is empty, the heads differ

fields_empty : (ts us : Tys) (k : ℕ) → differences k ts us ≡ Some [] → ⊥
fields_empty NoTys NoTys k e = cc
fields_empty (MoreTys t ts) (MoreTys u us) k e =
    or_empty (inside (Field k) (difference t u)) (differences (k + 1) ts us)
    (inside_empty (Field k) (difference t u)) (fields_empty ts us (k + 1)) e
fields_empty ts us k e = cc

whole : (a b : Ty) → difference a b ≡ Some [] → head a ≢ head b
whole TInt TInt e = λ h. cc
whole (TVar i) (TVar j) e = λ h.
    let same : i ≡ j = cc in let test = eq-eqb i j same in let other = tested_empty (i == j) e in cc
whole (TArrow a b) (TArrow c d) e = λ h.
    or_empty (inside Argument (difference a c)) (inside Result (difference b d))
    (inside_empty Argument (difference a c)) (inside_empty Result (difference b d)) e
whole (TAll t) (TAll u) e = λ h. inside_empty Body (difference t u) e
whole (TTuple ts) (TTuple us) e = λ h. fields_empty ts us 1 e
whole (TSome t) (TSome u) e = λ h. inside_empty Body (difference t u) e
whole (TRef t) (TRef u) e = λ h. inside_empty Cell (difference t u) e
whole a b e = λ h. cc

-- ---- where it begins with a step

-- fields from k on: the step is to field k + i, and the i fields before it are equal
record Fields (ts us : Tys) (k : ℕ) (s : Step) (p : Path) : Type 0 where
  i : ℕ
  step : s ≡ Field (k + i)
  before : (j : ℕ) → j < i → ty_at ts j ≡ ty_at us j
  there : There difference p (ty_at ts i) (ty_at us i)

none_before : (ts us : Tys) (j : ℕ) → j < 0 → ty_at ts j ≡ ty_at us j
none_before ts us j h = let no : ⊥ = omega (arith, h) in absurd no

one_more : (t u : Ty) (ts us : Tys) (n : ℕ) → t ≡ u → ((j : ℕ) → j < n → ty_at ts j ≡ ty_at us j) → (j : ℕ) →
    j < suc n → ty_at (MoreTys t ts) j ≡ ty_at (MoreTys u us) j
one_more t u ts us n e h zero lt = ap Some e
one_more t u ts us n e h (suc j) lt = h j (omega (arith, lt))

at_first : (t u : Ty) (ts us : Tys) (k : ℕ) (s : Step) (p : Path) → (Field k ≡ s) × (difference t u ≡ Some p) →
    Fields (MoreTys t ts) (MoreTys u us) k s p
at_first t u ts us k s p h = record {
  i = 0;
  step = to_field s k (k + 0) (sym h.0) (omega arith);
  before = none_before (MoreTys t ts) (MoreTys u us);
  there = h.1;
}

at_later : (t u : Ty) (ts us : Tys) (k : ℕ) (s : Step) (p : Path) → t ≡ u → Fields ts us (k + 1) s p →
    Fields (MoreTys t ts) (MoreTys u us) k s p
at_later t u ts us k s p e h = record {
  i = suc h.i;
  step = to_field s (k + 1 + h.i) (k + suc h.i) h.step (omega arith);
  before = one_more t u ts us h.i e h.before;
  there = h.there;
}

fields : (ts us : Tys) (k : ℕ) (s : Step) (p : Path) → differences k ts us ≡ Some (s ∷ p) → Fields ts us k s p
fields NoTys NoTys k s p e = cc
fields NoTys (MoreTys u us) k s p e =
    let e1 : Field k ≡ s = cc in let e2 : [] ≡ p = cc in
    record {
      i = 0;
      step = to_field s k (k + 0) (sym e1) (omega arith);
      before = none_before NoTys (MoreTys u us);
      there = sym e2;
    }
fields (MoreTys t ts) NoTys k s p e =
    let e1 : Field k ≡ s = cc in let e2 : [] ≡ p = cc in
    record {
      i = 0;
      step = to_field s k (k + 0) (sym e1) (omega arith);
      before = none_before (MoreTys t ts) NoTys;
      there = sym e2;
    }
fields (MoreTys t ts) (MoreTys u us) k s p e =
    elim (or_some (inside (Field k) (difference t u)) (differences (k + 1) ts us) (s ∷ p) e)
    as (λ x. Fields (MoreTys t ts) (MoreTys u us) k s p) [
      | inl h ↦ at_first t u ts us k s p (inside_some (Field k) (difference t u) s p h)
      | inr h ↦ at_later t u ts us k s p (equal t u (inside_none (Field k) (difference t u) h.0))
          (fields ts us (k + 1) s p h.1)
    ]

fields_before : (ts us : Tys) (n : ℕ) → ((j : ℕ) → j < n → ty_at ts j ≡ ty_at us j) → (r : Step) →
    place r < place (Field (suc n)) → into r (TTuple ts) ≡ into r (TTuple us)
fields_before ts us n h (Field zero) lt = refl
fields_before ts us n h (Field (suc j)) lt = h j (omega (arith, lt))
fields_before ts us n h r lt = refl

abbrev Goes : Ty → Ty → Step → Path → Type 0
Goes a b s p = Behind head into difference a b s p

tuple : (ts us : Tys) (s : Step) (p : Path) → Fields ts us 1 s p → Goes (TTuple ts) (TTuple us) s p
tuple ts us s p h =
    subst (λ z. Goes (TTuple ts) (TTuple us) z p) (sym (to_field s (1 + h.i) (suc h.i) h.step (omega arith)))
    (record { same = refl; before = fields_before ts us h.i h.before; there = h.there })

arrow_before : (a b c d : Ty) → a ≡ c → (r : Step) → place r < 1 → into r (TArrow a b) ≡ into r (TArrow c d)
arrow_before a b c d e Argument lt = ap Some e
arrow_before a b c d e Result lt = let no : ⊥ = omega (arith, lt) in absurd no
arrow_before a b c d e r lt = refl

nothing_before : (a b : Ty) (r : Step) → place r < 0 → into r a ≡ into r b
nothing_before a b r lt = let no : ⊥ = omega (arith, lt) in absurd no

arrow : (a b c d : Ty) (s : Step) (p : Path) → difference (TArrow a b) (TArrow c d) ≡ Some (s ∷ p) →
    Goes (TArrow a b) (TArrow c d) s p
arrow a b c d s p e =
    by (or_some (inside Argument (difference a c)) (inside Result (difference b d)) (s ∷ p) e)
  where
    by : (inside Argument (difference a c) ≡ Some (s ∷ p))
        ⊎ ((inside Argument (difference a c) ≡ None) × (inside Result (difference b d) ≡ Some (s ∷ p))) →
        Goes (TArrow a b) (TArrow c d) s p
    by (inl h) = let k = inside_some Argument (difference a c) s p h in
        subst (λ z. Goes (TArrow a b) (TArrow c d) z p) k.0
        (record { same = refl; before = nothing_before (TArrow a b) (TArrow c d); there = k.1 })
    by (inr h) = let k = inside_some Result (difference b d) s p h.1 in
        subst (λ z. Goes (TArrow a b) (TArrow c d) z p) k.0
        (record {
          same = refl;
          before = arrow_before a b c d (equal a c (inside_none Argument (difference a c) h.0));
          there = k.1;
        })

all_before : (t u : Ty) (r : Step) → place r < 2 → into r (TAll t) ≡ into r (TAll u)
all_before t u Body lt = let no : ⊥ = omega (arith, lt) in absurd no
all_before t u r lt = refl

some_before : (t u : Ty) (r : Step) → place r < 2 → into r (TSome t) ≡ into r (TSome u)
some_before t u Body lt = let no : ⊥ = omega (arith, lt) in absurd no
some_before t u r lt = refl

ref_before : (t u : Ty) (r : Step) → place r < 3 → into r (TRef t) ≡ into r (TRef u)
ref_before t u Cell lt = let no : ⊥ = omega (arith, lt) in absurd no
ref_before t u r lt = refl

behind : (a b : Ty) (s : Step) (p : Path) → difference a b ≡ Some (s ∷ p) → Goes a b s p
behind TInt TInt s p e = cc
behind (TVar i) (TVar j) s p e = absurd (tested_more (i == j) s p e)
behind (TArrow a b) (TArrow c d) s p e = arrow a b c d s p e
behind (TAll t) (TAll u) s p e = let k = inside_some Body (difference t u) s p e in
    subst (λ z. Goes (TAll t) (TAll u) z p) k.0 (record { same = refl; before = all_before t u; there = k.1 })
behind (TTuple ts) (TTuple us) s p e = tuple ts us s p (fields ts us 1 s p e)
behind (TSome t) (TSome u) s p e = let k = inside_some Body (difference t u) s p e in
    subst (λ z. Goes (TSome t) (TSome u) z p) k.0 (record { same = refl; before = some_before t u; there = k.1 })
behind (TRef t) (TRef u) s p e = let k = inside_some Cell (difference t u) s p e in
    subst (λ z. Goes (TRef t) (TRef u) z p) k.0 (record { same = refl; before = ref_before t u; there = k.1 })
behind a b s p e = cc

-- ---- the laws

abbrev Any : Ty → Type 0
Any t = Unit {0}

pub first : (a b : Ty) (p : Path) → difference a b ≡ Some p ↔ IsFirst (heads a) (heads b) p
first a b p = (
  walks.first head into difference Any (λ s t u f e. tt) equal (λ a b f g. whole a b) (λ a b s p f g. behind a b s p)
      a b p tt tt,
  walks.found head into difference Any (λ s t u f e. tt) equal (λ a b f g. whole a b) (λ a b s p f g. behind a b s p)
      a b p tt tt,
)

pub none : (a b : Ty) → difference a b ≡ None ↔ a ≡ b
none a b = (
  equal a b,
  λ e. subst (λ c. difference a c ≡ None) e
      (walks.of_one head into difference Any (λ s t u f e. tt) equal (λ a b f g. whole a b)
      (λ a b s p f g. behind a b s p) a tt),
)
