-- What the general laws of shift, put and below ask of types: one case for each constructor.
use Rattle.std.proofs.Common.{◌≡◌, ℕ, ◌+◌, ◌↔◌, suc, refl, ap, ap₂}
use Rattle.idx_core.specs.Over.{deep, At, IsOver, IsPart, IsEach, IsEachPart}
use Rattle.idx_core.specs.Laws.{under, under2, under3}
use Rattle.idx_core.specs.Laws as laws
use Rattle.a_terms.specs.Tree.{ATy, AInt, AVar, ATuple, ACode, AExists, ATys, NoATys, MoreATys, AFields, NoAFields}
use Rattle.a_terms.specs.Tree.{MoreAFields, over, over_types, over_fields, each, each_types, each_fields, ashift}
use Rattle.a_terms.specs.Tree.{ashift_types, ashift_fields, ABelow, ABelow-types, ABelow-fields}

-- a fact on each depth, below n more binders
keeps_more : (f : At ATy) (a n : ℕ) → ((e i : ℕ) → f (deep a e) i ≡ AVar i) → (e i : ℕ) → f (deep (a + n) e) i ≡ AVar i
keeps_more f a n h = under (λ d. (i : ℕ) → f d i ≡ AVar i) n a h

after_more : (f g h : At ATy) (a b c n : ℕ) → ((e i : ℕ) → over g (deep b e) (f (deep a e) i) ≡ h (deep c e) i) →
    (e i : ℕ) → over g (deep (b + n) e) (f (deep (a + n) e) i) ≡ h (deep (c + n) e) i
after_more f g h a b c n k = under3 (λ x y z. (i : ℕ) → over g y (f x i) ≡ h z i) n a b c k

agree_more : (V : ℕ → ℕ → Type 0) (f g : At ATy) (a b m n : ℕ) →
    ((e i : ℕ) → V (deep m e) i → f (deep a e) i ≡ g (deep b e) i) → (e i : ℕ) → V (deep (m + n) e) i →
    f (deep (a + n) e) i ≡ g (deep (b + n) e) i
agree_more V f g a b m n k = under3 (λ x y z. (i : ℕ) → V z i → f x i ≡ g y i) n a b m k

made_more : (V W : ℕ → ℕ → Type 0) (D : ℕ → Type 0) (f : At ATy) (a n m p : ℕ) →
    ((e i : ℕ) → V (deep n e) i → each W D (deep m e) (f (deep a e) i)) → (e i : ℕ) → V (deep (n + p) e) i →
    each W D (deep (m + p) e) (f (deep (a + p) e) i)
made_more V W D f a n m p k = under3 (λ x y z. (i : ℕ) → V y i → each W D z (f x i)) p a n m k

made_deeper : (B D : ℕ → Type 0) (n m p : ℕ) → ((e : ℕ) → B (deep n e) → D (deep m e)) → (e : ℕ) →
    B (deep (n + p) e) → D (deep (m + p) e)
made_deeper B D n m p l = under2 (λ x y. B x → D y) p n m l

mutual
  keeps : (f : At ATy) (a : ℕ) → ((e i : ℕ) → f (deep a e) i ≡ AVar i) → (t : ATy) → over f a t ≡ t
  keeps f a h AInt = refl
  keeps f a h (AVar i) = h 0 i
  keeps f a h (ATuple x) = ap ATuple (keeps_fields f a h x)
  keeps f a h (ACode n x) = ap (ACode n) (keeps_types f (a + n) (keeps_more f a n h) x)
  keeps f a h (AExists t) = ap AExists (keeps f (a + 1) (λ e. h (suc e)) t)

  keeps_types : (f : At ATy) (a : ℕ) → ((e i : ℕ) → f (deep a e) i ≡ AVar i) → (x : ATys) → over_types f a x ≡ x
  keeps_types f a h NoATys = refl
  keeps_types f a h (MoreATys t x) = ap₂ MoreATys (keeps f a h t) (keeps_types f a h x)

  keeps_fields : (f : At ATy) (a : ℕ) → ((e i : ℕ) → f (deep a e) i ≡ AVar i) → (x : AFields) → over_fields f a x ≡ x
  keeps_fields f a h NoAFields = refl
  keeps_fields f a h (MoreAFields t b x) = ap₂ (λ u y. MoreAFields u b y) (keeps f a h t) (keeps_fields f a h x)

mutual
  after : (f g h : At ATy) (a b c : ℕ) → ((e i : ℕ) → over g (deep b e) (f (deep a e) i) ≡ h (deep c e) i) →
      (t : ATy) → over g b (over f a t) ≡ over h c t
  after f g h a b c k AInt = refl
  after f g h a b c k (AVar i) = k 0 i
  after f g h a b c k (ATuple x) = ap ATuple (after_fields f g h a b c k x)
  after f g h a b c k (ACode n x) =
      ap (ACode n) (after_types f g h (a + n) (b + n) (c + n) (after_more f g h a b c n k) x)
  after f g h a b c k (AExists t) = ap AExists (after f g h (a + 1) (b + 1) (c + 1) (λ e. k (suc e)) t)

  after_types : (f g h : At ATy) (a b c : ℕ) → ((e i : ℕ) → over g (deep b e) (f (deep a e) i) ≡ h (deep c e) i) →
      (x : ATys) → over_types g b (over_types f a x) ≡ over_types h c x
  after_types f g h a b c k NoATys = refl
  after_types f g h a b c k (MoreATys t x) = ap₂ MoreATys (after f g h a b c k t) (after_types f g h a b c k x)

  after_fields : (f g h : At ATy) (a b c : ℕ) → ((e i : ℕ) → over g (deep b e) (f (deep a e) i) ≡ h (deep c e) i) →
      (x : AFields) → over_fields g b (over_fields f a x) ≡ over_fields h c x
  after_fields f g h a b c k NoAFields = refl
  after_fields f g h a b c k (MoreAFields t flag x) =
      ap₂ (λ u y. MoreAFields u flag y) (after f g h a b c k t) (after_fields f g h a b c k x)

mutual
  agree : (V : ℕ → ℕ → Type 0) (B : ℕ → Type 0) (f g : At ATy) (a b m : ℕ) →
      ((e i : ℕ) → V (deep m e) i → f (deep a e) i ≡ g (deep b e) i) → (t : ATy) → each V B m t →
      over f a t ≡ over g b t
  agree V B f g a b m k AInt u = refl
  agree V B f g a b m k (AVar i) u = k 0 i u
  agree V B f g a b m k (ATuple x) u = ap ATuple (agree_fields V B f g a b m k x u)
  agree V B f g a b m k (ACode n x) u =
      ap (ACode n) (agree_types V B f g (a + n) (b + n) (m + n) (agree_more V f g a b m n k) x u.1)
  agree V B f g a b m k (AExists t) u = ap AExists (agree V B f g (a + 1) (b + 1) (m + 1) (λ e. k (suc e)) t u.1)

  agree_types : (V : ℕ → ℕ → Type 0) (B : ℕ → Type 0) (f g : At ATy) (a b m : ℕ) →
      ((e i : ℕ) → V (deep m e) i → f (deep a e) i ≡ g (deep b e) i) → (x : ATys) → each_types V B m x →
      over_types f a x ≡ over_types g b x
  agree_types V B f g a b m k NoATys u = refl
  agree_types V B f g a b m k (MoreATys t x) u =
      ap₂ MoreATys (agree V B f g a b m k t u.0) (agree_types V B f g a b m k x u.1)

  agree_fields : (V : ℕ → ℕ → Type 0) (B : ℕ → Type 0) (f g : At ATy) (a b m : ℕ) →
      ((e i : ℕ) → V (deep m e) i → f (deep a e) i ≡ g (deep b e) i) → (x : AFields) → each_fields V B m x →
      over_fields f a x ≡ over_fields g b x
  agree_fields V B f g a b m k NoAFields u = refl
  agree_fields V B f g a b m k (MoreAFields t flag x) u =
      ap₂ (λ y z. MoreAFields y flag z) (agree V B f g a b m k t u.0) (agree_fields V B f g a b m k x u.1)

mutual
  made : (V W : ℕ → ℕ → Type 0) (B D : ℕ → Type 0) (f : At ATy) (a n m : ℕ) →
      ((e i : ℕ) → V (deep n e) i → each W D (deep m e) (f (deep a e) i)) → ((e : ℕ) → B (deep n e) → D (deep m e)) →
      (t : ATy) → each V B n t → each W D m (over f a t)
  made V W B D f a n m k l AInt u = tt
  made V W B D f a n m k l (AVar i) u = k 0 i u
  made V W B D f a n m k l (ATuple x) u = made_fields V W B D f a n m k l x u
  made V W B D f a n m k l (ACode p x) u = (
    made_deeper B D n m p l 0 u.0,
    made_types V W B D f (a + p) (n + p) (m + p) (made_more V W D f a n m p k)
        (made_deeper B D n m p l) x u.1,
  )
  made V W B D f a n m k l (AExists t) u =
      (l 1 u.0, made V W B D f (a + 1) (n + 1) (m + 1) (λ e. k (suc e)) (λ e. l (suc e)) t u.1)

  made_types : (V W : ℕ → ℕ → Type 0) (B D : ℕ → Type 0) (f : At ATy) (a n m : ℕ) →
      ((e i : ℕ) → V (deep n e) i → each W D (deep m e) (f (deep a e) i)) → ((e : ℕ) → B (deep n e) → D (deep m e)) →
      (x : ATys) → each_types V B n x → each_types W D m (over_types f a x)
  made_types V W B D f a n m k l NoATys u = tt
  made_types V W B D f a n m k l (MoreATys t x) u =
      (made V W B D f a n m k l t u.0, made_types V W B D f a n m k l x u.1)

  made_fields : (V W : ℕ → ℕ → Type 0) (B D : ℕ → Type 0) (f : At ATy) (a n m : ℕ) →
      ((e i : ℕ) → V (deep n e) i → each W D (deep m e) (f (deep a e) i)) → ((e : ℕ) → B (deep n e) → D (deep m e)) →
      (x : AFields) → each_fields V B n x → each_fields W D m (over_fields f a x)
  made_fields V W B D f a n m k l NoAFields u = tt
  made_fields V W B D f a n m k l (MoreAFields t flag x) u =
      (made V W B D f a n m k l t u.0, made_fields V W B D f a n m k l x u.1)

pub a_part : IsPart ATy AVar over
a_part = record { at_var = λ f d i. refl; is_over = record { keeps = keeps; after = after } }

pub a_each : IsEachPart ATy AVar over each
a_each = record { each_var = λ V B d i h. h; has = record { agree = agree; made = made } }

pub a_over : IsOver ATy ATy AVar over over
a_over = a_part.is_over

pub a_types_over : IsOver ATy ATys AVar over over_types
a_types_over = record { keeps = keeps_types; after = after_types }

pub a_types_each : IsEach ATy ATys each over_types each_types
a_types_each = record { agree = agree_types; made = made_types }

pub a_fields_over : IsOver ATy AFields AVar over over_fields
a_fields_over = record { keeps = keeps_fields; after = after_fields }

pub a_fields_each : IsEach ATy AFields each over_fields each_fields
a_fields_each = record { agree = agree_fields; made = made_fields }

-- what a shift leaves as it is has no free index from its cut on
mutual
  still : (n : ℕ) (t : ATy) → ashift 1 n t ≡ t → ABelow n t
  still n AInt e = tt
  still n (AVar i) e = laws.still_var AVar (λ j k same. cc) n i e
  still n (ATuple x) e = still_fields n x (cc)
  still n (ACode p x) e = (tt, still_types (n + p) x (cc))
  still n (AExists t) e = (tt, still (n + 1) t (cc))

  still_types : (n : ℕ) (x : ATys) → ashift_types 1 n x ≡ x → ABelow-types n x
  still_types n NoATys e = tt
  still_types n (MoreATys t x) e = (still n t (cc), still_types n x (cc))

  still_fields : (n : ℕ) (x : AFields) → ashift_fields 1 n x ≡ x → ABelow-fields n x
  still_fields n NoAFields e = tt
  still_fields n (MoreAFields t flag x) e = (still n t (cc), still_fields n x (cc))

pub a_is_below : (n : ℕ) (t : ATy) → ABelow n t ↔ (ashift 1 n t ≡ t)
a_is_below n t = laws.below_is a_part a_each a_over a_each.has still n t
