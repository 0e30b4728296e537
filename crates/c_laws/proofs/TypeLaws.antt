-- Types under renamings.
use Rattle.std.proofs.Common.{◌≡◌, ℕ, zero, suc, ◌+◌, ◌<◌, ◌≤◌, Bool, true, false, ◌||◌, inl, inr, List, refl, sym, ap}
use Rattle.std.proofs.Common.{ap₂, ◌∙◌, subst, arith}
use Rattle.std.specs.Prelude.{nat_eq}
use Rattle.std.proofs.lemmas.Bool.{cases_eq, eq-eqb, ne_eqb, lt-ltb, le-ltb}
use Rattle.std.proofs.lemmas.List.Folds.{list_any-append}
use Rattle.calc_core.specs.Ends.{lift, under, after_one}
use Rattle.k_terms.specs.K.{KTy, KTys, TKInt, TKVar, TKTuple, TKCode, TKExists, TKRef, NoKTys, MoreKTys, kren, krens}
use Rattle.c_rules.specs.Free.{tfree, tfrees}
use Rattle.c_terms.specs.C.{TCVar, TCTuple, TCCode, TCExists, TCRef, NoCTys, MoreCTys}
use Rattle.c_rules.specs.Close.{ctype, ctypes, rank}
use Rattle.calc_core.specs.Levels.{level_of}
use Rattle.c_rules.specs.Emit.{levels, pick_level}
use Rattle.c_rules.specs.Sweep.{has}
use Rattle.c_rules.specs.Know.{above, level_list, type_levels, types_levels}
use Rattle.calc_core.proofs.Lifts.{lift_add}
use Rattle.calc_core.proofs.Levels.{level_below}
use Rattle.std.proofs.Math.Bool.{or-false as or_none}
use Rattle.c_laws.proofs.TypeEnvs.{count_move as after_swap}
use Rattle.calc_core.proofs.Substituting.{low_or_past as near_or_far}
use Rattle.c_laws.proofs.Envs.{or_left, or_right}

under_same : (n : ℕ) (live : ℕ → Bool) (r q : ℕ → ℕ) → ((i : ℕ) → live (lift n i) ≡ true → r i ≡ q i) → (i : ℕ) →
    live i ≡ true → under n (λ j. suc (r j)) i ≡ under n (λ j. suc (q j)) i
under_same zero live r q f i e = ap suc (f i e)
under_same (suc n) live r q f zero e = refl
under_same (suc n) live r q f (suc i) e = ap suc (under_same n (λ j. live (suc j)) r q f i e)

some_same : (live : ℕ → Bool) (r q : ℕ → ℕ) → ((i : ℕ) → live (suc i) ≡ true → r i ≡ q i) → (i : ℕ) → live i ≡ true →
    under 1 r i ≡ under 1 q i
some_same live r q f zero e = refl
some_same live r q f (suc i) e = ap suc (f i e)

mutual
  pub ctype_same : (t : KTy) (r q : ℕ → ℕ) → ((i : ℕ) → tfree i t ≡ true → r i ≡ q i) → ctype r t ≡ ctype q t
  ctype_same TKInt r q f = refl
  ctype_same (TKVar i) r q f = ap TCVar (f i (eq-eqb i i refl))
  ctype_same (TKTuple ts) r q f = ap TCTuple (ctypes_same ts r q f)
  ctype_same (TKExists t) r q f = ap TCExists (ctype_same t (under 1 r) (under 1 q) (some_same (λ i. tfree i t) r q f))
  ctype_same (TKRef t) r q f = ap TCRef (ctype_same t r q f)
  ctype_same (TKCode n ts) r q f =
      ap (λ y. TCExists (TCTuple (MoreCTys (TCCode n (MoreCTys (TCVar (lift n 0)) y)) (MoreCTys (TCVar 0) NoCTys))))
      (ctypes_same ts (under n (λ i. suc (r i))) (under n (λ i. suc (q i))) (under_same n (λ i. tfrees i ts) r q f))

  pub ctypes_same : (ts : KTys) (r q : ℕ → ℕ) → ((i : ℕ) → tfrees i ts ≡ true → r i ≡ q i) → ctypes r ts ≡ ctypes q ts
  ctypes_same NoKTys r q f = refl
  ctypes_same (MoreKTys t ts) r q f =
      ap₂ MoreCTys (ctype_same t r q (λ i e. f i (or_left (tfree i t) (tfrees i ts) e)))
      (ctypes_same ts r q (λ i e. f i (or_right (tfree i t) (tfrees i ts) e)))

-- the levels of a type's free variables, and the type raised by m names
abbrev Raises : ℕ → ℕ → (ℕ → ℕ) → Type 0
Raises b m q = (i : ℕ) → q i ≡ under b (lift m) i

raise_under : (n b m : ℕ) (q : ℕ → ℕ) → Raises b m q → Raises (lift n b) m (under n q)
raise_under zero b m q r i = r i
raise_under (suc n) b m q r zero = refl
raise_under (suc n) b m q r (suc i) = ap suc (raise_under n b m q r i)

level_has : (td at m j : ℕ) (b i : ℕ) → td ≡ m + at → j < td → i < lift b at →
    has (level_of td j) (level_list at b i) ≡ nat_eq (lift b j) (under b (lift m) i)
level_has td at m j zero i e h lt =
    or_none (nat_eq (level_of td j) (level_of at i)) ∙ elim (cases_eq j (lift m i)) [
      | inl f ↦ eq-eqb (level_of td j) (level_of at i)
          (omega (arith, e, f, level_below td j h, level_below at i lt, lift_add m i)) ∙ sym (eq-eqb j (lift m i) f)
      | inr f ↦ ne_eqb (level_of td j) (level_of at i)
          (λ g. f (omega (arith, e, g, level_below td j h, level_below at i lt, lift_add m i)))
          ∙ sym (ne_eqb j (lift m i) f)
    ]
level_has td at m j (suc b) zero e h lt = sym (ne_eqb (suc (lift b j)) 0 (λ g. omega (arith, g)))
level_has td at m j (suc b) (suc i) e h lt =
    level_has td at m j b i e h (omega (arith, lt)) ∙ sym (eq_suc (lift b j) (under b (lift m) i))
  where
    eq_suc : (x y : ℕ) → nat_eq (suc x) (suc y) ≡ nat_eq x y
    eq_suc x y =
        elim (cases_eq x y) [
          | inl f ↦ eq-eqb (suc x) (suc y) (ap suc f) ∙ sym (eq-eqb x y f)
          | inr f ↦ ne_eqb (suc x) (suc y) (λ g. f (omega (arith, g))) ∙ sym (ne_eqb x y f)
        ]

some_closed : (live : ℕ → Bool) (n : ℕ) → ((i : ℕ) → live (suc i) ≡ true → i < n) → (i : ℕ) → live i ≡ true → i < suc n
some_closed live n c zero e = omega arith
some_closed live n c (suc i) e = let r = c i e in omega (arith, r)

mutual
  pub has_type : (t : KTy) (td at m j b : ℕ) (q : ℕ → ℕ) → td ≡ m + at → j < td → Raises b m q →
      ((i : ℕ) → tfree i t ≡ true → i < lift b at) →
      has (level_of td j) (type_levels at b t) ≡ tfree (lift b j) (kren q t)
  has_type TKInt td at m j b q e h r c = refl
  has_type (TKVar i) td at m j b q e h r c =
      level_has td at m j b i e h (c i (eq-eqb i i refl)) ∙ ap (nat_eq (lift b j)) (sym (r i))
  has_type (TKTuple ts) td at m j b q e h r c = has_types ts td at m j b q e h r c
  has_type (TKExists t) td at m j b q e h r c =
      has_type t td at m j (suc b) (under 1 q) e h (raise_under 1 b m q r) (some_closed (λ i. tfree i t) (lift b at) c)
  has_type (TKRef t) td at m j b q e h r c = has_type t td at m j b q e h r c
  has_type (TKCode n ts) td at m j b q e h r c =
      has_types ts td at m j (lift n b) (under n q) e h (raise_under n b m q r)
      (inner_closed n (lift b at) (λ i. tfrees i ts) (λ x. x < lift (lift n b) at) (λ i f. far n i (c i f))
      (λ i f. omega (arith, f, lift_add (lift n b) at, lift_add n b)))
      ∙ ap (λ x. tfrees x (krens (under n q) ts)) (lift_lift n b j)
    where
      lift_lift : (n b j : ℕ) → lift (lift n b) j ≡ lift n (lift b j)
      lift_lift zero b j = refl
      lift_lift (suc n) b j = ap suc (lift_lift n b j)

      far : (n i : ℕ) → i < lift b at → lift n i < lift (lift n b) at
      far n i h = omega (arith, h, lift_add (lift n b) at, lift_add n b, lift_add b at, lift_add n i)

      inner_closed : (n d : ℕ) (live : ℕ → Bool) (P : ℕ → Type 0) → ((i : ℕ) → live (lift n i) ≡ true → P (lift n i)) →
          ((i : ℕ) → i < n → P i) → (i : ℕ) → live i ≡ true → P i
      inner_closed n d live P f g i e =
          elim (near_or_far n i)
          [ inl h ↦ g i h | inr r ↦ subst P (sym r.1) (f r.0 (subst (λ x. live x ≡ true) r.1 e)) ]

  pub has_types : (ts : KTys) (td at m j b : ℕ) (q : ℕ → ℕ) → td ≡ m + at → j < td → Raises b m q →
      ((i : ℕ) → tfrees i ts ≡ true → i < lift b at) →
      has (level_of td j) (types_levels at b ts) ≡ tfrees (lift b j) (krens q ts)
  has_types NoKTys td at m j b q e h r c = refl
  has_types (MoreKTys t ts) td at m j b q e h r c =
      list_any-append (λ x. nat_eq (level_of td j) x) (type_levels at b t) (types_levels at b ts)
      ∙ ap₂ (λ x y. x || y) (has_type t td at m j b q e h r (λ i f. c i (or_left (tfree i t) (tfrees i ts) f)))
      (has_types ts td at m j b q e h r (λ i f. c i (or_right (tfree i t) (tfrees i ts) f)))

-- where the kept type variables stand
above_pick : (b : Bool) (l d : ℕ) (acc : List ℕ) → l ≡ d → above l (pick_level b d acc) ≡ above l acc
above_pick true l d acc e = ap (λ x. after_one x (above l acc)) (le-ltb l d (omega (arith, e)))
above_pick false l d acc e = refl

above_take : (b : Bool) (l d : ℕ) (acc : List ℕ) → l < d → above l (pick_level b d acc) ≡ after_one b (above l acc)
above_take true l d acc h = ap (λ x. after_one x (above l acc)) (lt-ltb l d h)
above_take false l d acc h = refl

above_none : (keep : ℕ → Bool) (d l : ℕ) (acc : List ℕ) → d ≤ l → above l (levels keep d acc) ≡ above l acc
above_none keep zero l acc h = refl
above_none keep (suc d) l acc h =
    above_none (λ i. keep (suc i)) d l (pick_level (keep 0) d acc) (omega (arith, h)) ∙ skip (keep 0)
  where
    skip : (b : Bool) → above l (pick_level b d acc) ≡ above l acc
    skip true = ap (λ x. after_one x (above l acc)) (le-ltb l d (omega (arith, h)))
    skip false = refl

pub above_rank : (keep : ℕ → Bool) (d i : ℕ) (acc : List ℕ) → i < d →
    above (level_of d i) (levels keep d acc) ≡ rank keep i + above (level_of d i) acc
above_rank keep zero i acc h = absurd (omega arith)
above_rank keep (suc d) zero acc h = above_none (λ i. keep (suc i)) d d (pick_level (keep 0) d acc) (omega arith)
    ∙ above_pick (keep 0) d d acc refl ∙ (let q : above d acc ≡ 0 + above d acc = omega arith in q)
above_rank keep (suc d) (suc i) acc h =
    above_rank (λ j. keep (suc j)) d i (pick_level (keep 0) d acc) (omega (arith, h))
    ∙ ap (λ x. rank (λ j. keep (suc j)) i + x)
    (above_take (keep 0) (level_of d i) d acc (omega (arith, level_below d i (omega (arith, h)))))
    ∙ after_swap (keep 0) (rank (λ j. keep (suc j)) i) (above (level_of d i) acc)
