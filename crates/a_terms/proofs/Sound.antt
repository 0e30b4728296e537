-- A typed allocated program never goes wrong.
use Rattle.std.proofs.Common.{◌≡◌, ℕ, zero, suc, ◌+◌, List, [], ◌∷◌, ◌++◌, length, map, Option, Some, None, refl, sym}
use Rattle.std.proofs.Common.{ap, ◌∙◌, subst, arith, slice_get, slice_set}
use Rattle.std.specs.Prelude.{Bool, true, false, ℤ}
use Rattle.std.proofs.lemmas.Bool.{eq-eqb}
use Rattle.idx_core.specs.Arith.{compute, is_zero}
use Rattle.a_terms.specs.Tree.{ATy, AInt, AVar, ATuple, ACode, AExists, ATys, NoATys, MoreATys, AFields, NoAFields}
use Rattle.a_terms.specs.Tree.{MoreAFields, AVal, Var, Num, Lab, Data, Apply, Pack, ADecl, Value, Proj, Arith, Unpack}
use Rattle.a_terms.specs.Tree.{Malloc, Init, ATm, Let, Call, If0, Halt, ABlk, AConsts, AProg, arity, ashift, aput}
use Rattle.a_terms.specs.Tree.{aput_types, ABelow, ABelow-types}
use Rattle.a_terms.specs.Meaning.{datum, start_heap, AWord, ZInt, ZTuple, ZLabel, AHeap, Result, Halted, Spent, Wrong}
use Rattle.a_terms.specs.Meaning.{Gives, value, values, decl, empties, pick, term, push_all, calls, NeverWrong}
use Rattle.a_terms.specs.Typing.{data_fields, TypedData, TypedTuples, aapply, afield_type, afield_flag, afilled, aunset}
use Rattle.a_terms.specs.Typing.{type_of, Fine, Has, or_int, body_of, declared, more_vars, TypedDecl, All-have}
use Rattle.a_terms.specs.Typing.{TypedTerm}
use Rattle.a_terms.specs.Typing.{types_of, TypedBlocks, TypedProgram}
use Rattle.a_terms.specs.TypeLaws.{below_more, below_put, split_code, split_data, split_applied, Args-below}
use Rattle.a_terms.specs.TypeLaws.{args_below, field_is, filled_is}
use Rattle.a_terms.proofs.Closing.{close, close_types, close_fields, snoc, both, close_int, close_tuple, close_code}
use Rattle.a_terms.proofs.Closing.{close_exists, close_none, close_more, close_field, close_nil, close_end, close_put}
use Rattle.a_terms.proofs.Closing.{close_applied, close_snoc, close_older, closed_snoc, closed_both, apply_both}
use Rattle.a_terms.proofs.Closing.{apply_all, top, top_arity, top_snoc}

-- fields with the same types, filled where the first are
abbrev pub Fewer : AFields → AFields → Type 0
Fewer NoAFields NoAFields = Unit {0}
Fewer NoAFields (MoreAFields u g gs) = ⊥
Fewer (MoreAFields t f fs) NoAFields = ⊥
Fewer (MoreAFields t f fs) (MoreAFields u g gs) = (t ≡ u) × (f ≡ true → g ≡ true) × Fewer fs gs

fewer_same : (fs : AFields) → Fewer fs fs
fewer_same NoAFields = tt
fewer_same (MoreAFields t f fs) = (refl, λ x. x, fewer_same fs)

fewer_on : (a b c : AFields) → Fewer a b → Fewer b c → Fewer a c
fewer_on NoAFields NoAFields NoAFields x y = tt
fewer_on NoAFields NoAFields (MoreAFields u g gs) x y = y
fewer_on NoAFields (MoreAFields t f fs) c x y = absurd x
fewer_on (MoreAFields t f fs) NoAFields c x y = absurd x
fewer_on (MoreAFields t f fs) (MoreAFields u g gs) NoAFields x y = absurd y
fewer_on (MoreAFields t f fs) (MoreAFields u g gs) (MoreAFields v h hs) x y =
    (x.0 ∙ y.0, λ z. y.1 (x.1 z), fewer_on fs gs hs x.2 y.2)

fewer_filled : (fs : AFields) (i : ℕ) → Fewer fs (afilled fs i)
fewer_filled NoAFields i = tt
fewer_filled (MoreAFields t f fs) zero = (refl, λ x. refl, fewer_same fs)
fewer_filled (MoreAFields t f fs) (suc i) = (refl, λ x. x, fewer_filled fs i)

both_filled : (fs gs : AFields) (i : ℕ) → Fewer fs gs → Fewer (afilled fs i) (afilled gs i)
both_filled NoAFields NoAFields i x = tt
both_filled NoAFields (MoreAFields u g gs) i x = absurd x
both_filled (MoreAFields t f fs) NoAFields i x = absurd x
both_filled (MoreAFields t f fs) (MoreAFields u g gs) zero x = (x.0, λ z. refl, x.2)
both_filled (MoreAFields t f fs) (MoreAFields u g gs) (suc i) x = (x.0, x.1, both_filled fs gs i x.2)

fewer_type : (fs gs : AFields) (i : ℕ) (t : ATy) → Fewer fs gs → afield_type fs i ≡ Some t → afield_type gs i ≡ Some t
fewer_type NoAFields gs i t x e = cc
fewer_type (MoreAFields u f fs) NoAFields i t x e = absurd x
fewer_type (MoreAFields u f fs) (MoreAFields v g gs) zero t x e = ap Some (sym x.0) ∙ e
fewer_type (MoreAFields u f fs) (MoreAFields v g gs) (suc i) t x e = fewer_type fs gs i t x.2 e

fewer_flag : (fs gs : AFields) (i : ℕ) → Fewer fs gs → afield_flag fs i ≡ true → afield_flag gs i ≡ true
fewer_flag NoAFields gs i x e = cc
fewer_flag (MoreAFields u f fs) NoAFields i x e = absurd x
fewer_flag (MoreAFields u f fs) (MoreAFields v g gs) zero x e = x.1 e
fewer_flag (MoreAFields u f fs) (MoreAFields v g gs) (suc i) x e = fewer_flag fs gs i x.2 e

-- the fields of the data
abbrev pub first_fields : List AConsts → List AFields
first_fields xs = map data_fields xs

fields_there : (xs : List AConsts) (n : ℕ) (x : AConsts) → slice_get xs n ≡ Some x →
    slice_get (first_fields xs) n ≡ Some (data_fields x)
fields_there [] n x e = cc
fields_there (y ∷ xs) zero x e = let z : y ≡ x = cc in ap (λ q. Some (data_fields q)) z
fields_there (y ∷ xs) (suc n) x e = fields_there xs n x e

module _ (p : AProg) where
  -- a word of a closed type, where the heap's tuples have these fields
  pub data Word-has (H : List AFields) : AWord → ATy → Type 0 where
    has_int : {i : ℤ} → Word-has H (ZInt i) AInt
    has_tuple : {a : ℕ} {fs : AFields} (gs : AFields) → slice_get H a ≡ Some gs → Fewer fs gs →
        Word-has H (ZTuple a) (ATuple fs)
    has_label : {l : ℕ} {n : ℕ} {us : ATys} (b : ABlk) (ts : ATys) → slice_get p.blocks l ≡ Some b →
        ABelow-types 0 ts → aapply (ACode b.owes b.args) ts ≡ Some (ACode n us) → Word-has H (ZLabel l) (ACode n us)
    has_pack : {w : AWord} {u : ATy} (h : ATy) → ABelow 0 h → Word-has H w (aput 0 h u) → Word-has H w (AExists u)

  abbrev Needs : List AFields → AWord → ATy → Type 0
  Needs H w AInt = (i : ℤ) × (w ≡ ZInt i)
  Needs H w (AVar n) = ⊥
  Needs H w (ATuple fs) = (a : ℕ) × (gs : AFields) × (w ≡ ZTuple a) × (slice_get H a ≡ Some gs) × Fewer fs gs
  Needs H w (ACode n us) = (l : ℕ) × (b : ABlk) × (ts : ATys) × (w ≡ ZLabel l) × (slice_get p.blocks l ≡ Some b)
      × ABelow-types 0 ts × (aapply (ACode b.owes b.args) ts ≡ Some (ACode n us))
  Needs H w (AExists u) = (h : ATy) × ABelow 0 h × Word-has H w (aput 0 h u)

  needs : (H : List AFields) (w : AWord) (t : ATy) → Word-has H w t → Needs H w t
  needs H w t (has_int {i = i}) = (i, refl)
  needs H w t (has_tuple {a = a} gs x y) = (a, gs, refl, x, y)
  needs H w t (has_label {l = l} b ts x y z) = (l, b, ts, refl, x, y, z)
  needs H w t (has_pack h x y) = (h, x, y)

  -- a heap that has grown or was filled
  abbrev Grows : List AFields → List AFields → Type 0
  Grows H J =
      (a : ℕ) (gs : AFields) → slice_get H a ≡ Some gs → (hs : AFields) × (slice_get J a ≡ Some hs) × Fewer gs hs

  grows_on : (H J K : List AFields) → Grows H J → Grows J K → Grows H K
  grows_on H J K x y a gs e =
      let one = x a gs e in
      let two = y a one.0 one.1 in
      (two.0, two.1, fewer_on gs one.0 two.0 one.2 two.2)

  word_kept : (H J : List AFields) (w : AWord) (t : ATy) → Grows H J → Word-has H w t → Word-has J w t
  word_kept H J w t g (has_int {i = i}) = has_int
  word_kept H J w t g (has_tuple {a = a} {fs = fs} gs x y) =
      let z = g a gs x in has_tuple z.0 z.1 (fewer_on fs gs z.0 y z.2)
  word_kept H J w t g (has_label b ts x y z) = has_label b ts x y z
  word_kept H J w t g (has_pack {w = v} {u = u} h x y) = has_pack h x (word_kept H J v (aput 0 h u) g y)

  abbrev Slot : List AFields → ATy → Bool → Option AWord → Type 0
  Slot H t f None = f ≡ false
  Slot H t f (Some w) = Word-has H w t

  abbrev Tuple-has : List AFields → AFields → List (Option AWord) → Type 0
  Tuple-has H NoAFields [] = Unit {0}
  Tuple-has H NoAFields (o ∷ os) = ⊥
  Tuple-has H (MoreAFields t f fs) [] = ⊥
  Tuple-has H (MoreAFields t f fs) (o ∷ os) = Slot H t f o × Tuple-has H fs os

  abbrev Heap-has : List AFields → List AFields → AHeap → Type 0
  Heap-has H [] [] = Grows (first_fields p.tuples) H
  Heap-has H [] (t ∷ h) = ⊥
  Heap-has H (fs ∷ gs) [] = ⊥
  Heap-has H (fs ∷ gs) (t ∷ h) = Tuple-has H fs t × Heap-has H gs h

  slot_kept : (H J : List AFields) (t : ATy) (f : Bool) (o : Option AWord) → Grows H J → Slot H t f o → Slot J t f o
  slot_kept H J t f None g s = s
  slot_kept H J t f (Some w) g s = word_kept H J w t g s

  tuple_kept : (H J : List AFields) (fs : AFields) (os : List (Option AWord)) → Grows H J → Tuple-has H fs os →
      Tuple-has J fs os
  tuple_kept H J NoAFields [] g s = tt
  tuple_kept H J NoAFields (o ∷ os) g s = s
  tuple_kept H J (MoreAFields t f fs) [] g s = s
  tuple_kept H J (MoreAFields t f fs) (o ∷ os) g s = (slot_kept H J t f o g s.0, tuple_kept H J fs os g s.1)

  heap_kept : (H J K : List AFields) (h : AHeap) → Grows H J → Heap-has H K h → Heap-has J K h
  heap_kept H J [] [] g s = grows_on (first_fields p.tuples) H J s g
  heap_kept H J [] (t ∷ h) g s = s
  heap_kept H J (fs ∷ K) [] g s = s
  heap_kept H J (fs ∷ K) (t ∷ h) g s = (tuple_kept H J fs t g s.0, heap_kept H J K h g s.1)

  -- the data are there
  started : (H K : List AFields) (h : AHeap) → Heap-has H K h → Grows (first_fields p.tuples) H
  started H [] [] s = s
  started H [] (t ∷ h) s = absurd s
  started H (fs ∷ K) [] s = absurd s
  started H (fs ∷ K) (t ∷ h) s = started H K h s.1

  heap_at : (H K : List AFields) (h : AHeap) (a : ℕ) (fs : AFields) → Heap-has H K h → slice_get K a ≡ Some fs →
      (t : List (Option AWord)) × (slice_get h a ≡ Some t) × Tuple-has H fs t
  heap_at H [] h a fs s e = absurd (impossible e)
    where
      impossible : None ≡ Some fs → ⊥
      impossible x = cc
  heap_at H (gs ∷ K) [] a fs s e = absurd s
  heap_at H (gs ∷ K) (t ∷ h) zero fs s e = let x : gs ≡ fs = cc in (t, refl, subst (λ z. Tuple-has H z t) x s.0)
  heap_at H (gs ∷ K) (t ∷ h) (suc a) fs s e = heap_at H K h a fs s.1 e

  field_at : (H : List AFields) (fs : AFields) (os : List (Option AWord)) (i : ℕ) (t : ATy) → Tuple-has H fs os →
      afield_type fs i ≡ Some t → (o : Option AWord) × (slice_get os i ≡ Some o) × Slot H t (afield_flag fs i) o
  field_at H NoAFields os i t s e = absurd (impossible e)
    where
      impossible : None ≡ Some t → ⊥
      impossible x = cc
  field_at H (MoreAFields u f fs) [] i t s e = absurd s
  field_at H (MoreAFields u f fs) (o ∷ os) zero t s e = let x : u ≡ t = cc in (o, refl, subst (λ z. Slot H z f o) x s.0)
  field_at H (MoreAFields u f fs) (o ∷ os) (suc i) t s e = field_at H fs os i t s.1 e

  slot_full : (H : List AFields) (t : ATy) (f : Bool) (o : Option AWord) → f ≡ true → Slot H t f o →
      (w : AWord) × (o ≡ Some w) × Word-has H w t
  slot_full H t f None e s = absurd (impossible (sym s ∙ e))
    where
      impossible : false ≡ true → ⊥
      impossible x = cc
  slot_full H t f (Some w) e s = (w, refl, s)

  tuple_put : (H : List AFields) (fs : AFields) (os : List (Option AWord)) (i : ℕ) (t : ATy) (w : AWord) →
      Tuple-has H fs os → afield_type fs i ≡ Some t → Word-has H w t →
      Tuple-has H (afilled fs i) (slice_set os i (Some w))
  tuple_put H NoAFields [] i t w s e x = s
  tuple_put H NoAFields (o ∷ os) i t w s e x = absurd s
  tuple_put H (MoreAFields u f fs) [] zero t w s e x = s
  tuple_put H (MoreAFields u f fs) [] (suc i) t w s e x = s
  tuple_put H (MoreAFields u f fs) (o ∷ os) zero t w s e x = let y : t ≡ u = cc in (subst (Word-has H w) y x, s.1)
  tuple_put H (MoreAFields u f fs) (o ∷ os) (suc i) t w s e x = (s.0, tuple_put H fs os i t w s.1 e x)

  heap_put : (H K : List AFields) (h : AHeap) (a : ℕ) (fs : AFields) (t : List (Option AWord)) → Heap-has H K h →
      Tuple-has H fs t → Heap-has H (slice_set K a fs) (slice_set h a t)
  heap_put H [] [] a fs t s x = s
  heap_put H [] (u ∷ h) a fs t s x = absurd s
  heap_put H (gs ∷ K) [] zero fs t s x = s
  heap_put H (gs ∷ K) [] (suc a) fs t s x = s
  heap_put H (gs ∷ K) (u ∷ h) zero fs t s x = (x, s.1)
  heap_put H (gs ∷ K) (u ∷ h) (suc a) fs t s x = (s.0, heap_put H K h a fs t s.1 x)

  heap_push : (H K : List AFields) (h : AHeap) (fs : AFields) (t : List (Option AWord)) → Heap-has H K h →
      Tuple-has H fs t → Heap-has H (K ++ fs ∷ []) (h ++ t ∷ [])
  heap_push H [] [] fs t s x = (x, s)
  heap_push H [] (u ∷ h) fs t s x = absurd s
  heap_push H (gs ∷ K) [] fs t s x = absurd s
  heap_push H (gs ∷ K) (u ∷ h) fs t s x = (s.0, heap_push H K h fs t s.1 x)

  heap_length : (H K : List AFields) (h : AHeap) → Heap-has H K h → length K ≡ length h
  heap_length H [] [] s = refl
  heap_length H [] (t ∷ h) s = absurd s
  heap_length H (fs ∷ K) [] s = absurd s
  heap_length H (fs ∷ K) (t ∷ h) s = ap suc (heap_length H K h s.1)

  grows_push : (H : List AFields) (fs : AFields) → Grows H (H ++ fs ∷ [])
  grows_push [] fs a gs e = absurd (impossible e)
    where
      impossible : None ≡ Some gs → ⊥
      impossible x = cc
  grows_push (x ∷ H) fs zero gs e = (x, refl, (let y : gs ≡ x = cc in subst (Fewer gs) y (fewer_same gs)))
  grows_push (x ∷ H) fs (suc a) gs e = grows_push H fs a gs e

  push_at : (H : List AFields) (fs : AFields) → slice_get (H ++ fs ∷ []) (length H) ≡ Some fs
  push_at [] fs = refl
  push_at (x ∷ H) fs = push_at H fs

  grows_put : (H : List AFields) (i : ℕ) (fs gs : AFields) → slice_get H i ≡ Some fs → Fewer fs gs →
      Grows H (slice_set H i gs)
  grows_put [] i fs gs e l a hs x = absurd (impossible x)
    where
      impossible : None ≡ Some hs → ⊥
      impossible x = cc
  grows_put (y ∷ H) zero fs gs e l zero hs x = let z : fs ≡ hs = cc in (gs, refl, subst (λ q. Fewer q gs) z l)
  grows_put (y ∷ H) zero fs gs e l (suc a) hs x = (hs, x, fewer_same hs)
  grows_put (y ∷ H) (suc i) fs gs e l zero hs x = (hs, x, fewer_same hs)
  grows_put (y ∷ H) (suc i) fs gs e l (suc a) hs x = grows_put H i fs gs e l a hs x

  put_at : (H : List AFields) (i : ℕ) (fs gs : AFields) → slice_get H i ≡ Some fs →
      slice_get (slice_set H i gs) i ≡ Some gs
  put_at [] i fs gs e = absurd (impossible e)
    where
      impossible : None ≡ Some fs → ⊥
      impossible x = cc
  put_at (y ∷ H) zero fs gs e = refl
  put_at (y ∷ H) (suc i) fs gs e = put_at H i fs gs e

  -- the environment's values have the types in scope, closed by ts
  abbrev pub Env-has : List AFields → ATys → List AWord → List ATy → Type 0
  Env-has H ts [] [] = Unit {0}
  Env-has H ts [] (t ∷ g) = ⊥
  Env-has H ts (w ∷ env) [] = ⊥
  Env-has H ts (w ∷ env) (t ∷ g) = Word-has H w (close 0 ts t) × Env-has H ts env g

  env_kept : (H J : List AFields) (ts : ATys) (env : List AWord) (g : List ATy) → Grows H J → Env-has H ts env g →
      Env-has J ts env g
  env_kept H J ts [] [] x s = tt
  env_kept H J ts [] (t ∷ g) x s = s
  env_kept H J ts (w ∷ env) [] x s = s
  env_kept H J ts (w ∷ env) (t ∷ g) x s = (word_kept H J w (close 0 ts t) x s.0, env_kept H J ts env g x s.1)

  env_at : (H : List AFields) (ts : ATys) (env : List AWord) (g : List ATy) (n : ℕ) (t : ATy) → Env-has H ts env g →
      slice_get g n ≡ Some t → (w : AWord) × (slice_get env n ≡ Some w) × Word-has H w (close 0 ts t)
  env_at H ts env [] n t s e = absurd (impossible e)
    where
      impossible : None ≡ Some t → ⊥
      impossible x = cc
  env_at H ts [] (u ∷ g) n t s e = absurd s
  env_at H ts (w ∷ env) (u ∷ g) zero t s e =
      let x : u ≡ t = cc in (w, refl, subst (λ z. Word-has H w (close 0 ts z)) x s.0)
  env_at H ts (w ∷ env) (u ∷ g) (suc n) t s e = env_at H ts env g n t s.1 e

  env_open : (H : List AFields) (ts : ATys) (h : ATy) (env : List AWord) (g : List ATy) → ABelow-types 0 ts →
      Env-has H ts env g → Env-has H (snoc ts h) env (map (ashift 1 0) g)
  env_open H ts h [] [] b s = tt
  env_open H ts h [] (t ∷ g) b s = s
  env_open H ts h (w ∷ env) [] b s = s
  env_open H ts h (w ∷ env) (t ∷ g) b s =
      (subst (Word-has H w) (sym (close_older ts h t b)) s.0, env_open H ts h env g b s.1)

  close_below : (ts : ATys) (d : ℕ) (t : ATy) → ABelow-types 0 ts → ABelow (top d ts) t → ABelow d (close d ts t)
  close_below NoATys d t b l = l
  close_below (MoreATys T ts) d t b l =
      close_below ts d (aput (top d ts) T t) b.1
      (below_put t (top d ts) (top d ts) (suc (top d ts)) T refl (omega arith) l
      (below_more T 0 (top d ts) (omega arith) b.0))

  close_ftype : (ts : ATys) (fs : AFields) (i : ℕ) (t : ATy) → afield_type fs i ≡ Some t →
      afield_type (close_fields 0 ts fs) i ≡ Some (close 0 ts t)
  close_ftype ts NoAFields i t e = cc
  close_ftype ts (MoreAFields u f fs) zero t e =
      let x : u ≡ t = cc in ap (λ q. afield_type q 0) (close_field 0 ts u f fs) ∙ ap (λ q. Some (close 0 ts q)) x
  close_ftype ts (MoreAFields u f fs) (suc i) t e =
      ap (λ q. afield_type q (suc i)) (close_field 0 ts u f fs) ∙ close_ftype ts fs i t e

  close_fflag : (ts : ATys) (fs : AFields) (i : ℕ) → afield_flag (close_fields 0 ts fs) i ≡ afield_flag fs i
  close_fflag ts NoAFields i = ap (λ q. afield_flag q i) (close_end 0 ts)
  close_fflag ts (MoreAFields u f fs) zero = ap (λ q. afield_flag q 0) (close_field 0 ts u f fs)
  close_fflag ts (MoreAFields u f fs) (suc i) =
      ap (λ q. afield_flag q (suc i)) (close_field 0 ts u f fs) ∙ close_fflag ts fs i

  close_filled : (ts : ATys) (fs : AFields) (i : ℕ) →
      close_fields 0 ts (afilled fs i) ≡ afilled (close_fields 0 ts fs) i
  close_filled ts NoAFields i = close_end 0 ts ∙ sym (ap (λ q. afilled q i) (close_end 0 ts))
  close_filled ts (MoreAFields u f fs) zero =
      close_field 0 ts u true fs ∙ sym (ap (λ q. afilled q 0) (close_field 0 ts u f fs))
  close_filled ts (MoreAFields u f fs) (suc i) = close_field 0 ts u f (afilled fs i)
      ∙ ap (MoreAFields (close 0 ts u) f) (close_filled ts fs i)
      ∙ sym (ap (λ q. afilled q (suc i)) (close_field 0 ts u f fs))

  empties_have : (J : List AFields) (ts us : ATys) → Tuple-has J (close_fields 0 ts (aunset us)) (empties us)
  empties_have J ts NoATys = subst (λ q. Tuple-has J q []) (sym (close_end 0 ts)) tt
  empties_have J ts (MoreATys u us) =
      subst (λ q. Tuple-has J q (None ∷ empties us)) (sym (close_field 0 ts u false (aunset us)))
      (refl, empties_have J ts us)

  -- a label applied to types
  apply_has : (H : List AFields) (ts : ATys) → ABelow-types 0 ts → (us : ATys) (w : AWord) (s t : ATy) →
      ABelow-types (top 0 ts) us → aapply s us ≡ Some t → Word-has H w (close 0 ts s) → Word-has H w (close 0 ts t)
  apply_has H ts b NoATys w s t l e x = let y : s ≡ t = cc in subst (λ q. Word-has H w (close 0 ts q)) y x
  apply_has H ts b (MoreATys u us) w AInt t l e x = absurd (impossible e)
    where
      impossible : None ≡ Some t → ⊥
      impossible x = cc
  apply_has H ts b (MoreATys u us) w (AVar n) t l e x = absurd (impossible e)
    where
      impossible : None ≡ Some t → ⊥
      impossible x = cc
  apply_has H ts b (MoreATys u us) w (ATuple fs) t l e x = absurd (impossible e)
    where
      impossible : None ≡ Some t → ⊥
      impossible x = cc
  apply_has H ts b (MoreATys u us) w (ACode zero vs) t l e x = absurd (impossible e)
    where
      impossible : None ≡ Some t → ⊥
      impossible x = cc
  apply_has H ts b (MoreATys u us) w (AExists v) t l e x = absurd (impossible e)
    where
      impossible : None ≡ Some t → ⊥
      impossible x = cc
  apply_has H ts b (MoreATys u us) w (ACode (suc n) vs) t l e x =
      let z1 : 0 + suc n ≡ suc n = omega arith in
      let z2 : 0 + n ≡ n = omega arith in
      let c1 : close 0 ts (ACode (suc n) vs) ≡ ACode (suc n) (close_types (suc n) ts vs) =
      close_code 0 (suc n) ts vs b ∙ ap (λ d. ACode (suc n) (close_types d ts vs)) z1 in
      let v2 = aput_types n (ashift n 0 u) vs in
      let c2 : ACode n (close_types n ts v2) ≡ close 0 ts (ACode n v2) =
      ap (λ d. ACode n (close_types d ts v2)) (sym z2) ∙ sym (close_code 0 n ts v2 b) in
      let k = needs H w (ACode (suc n) (close_types (suc n) ts vs)) (subst (Word-has H w) c1 x) in
      let cu = close 0 ts u in
      let done : aapply (ACode k.1.owes k.1.args) (both k.2 (MoreATys cu NoATys))
      ≡ Some (ACode n (close_types n ts v2)) =
      apply_both k.2 (MoreATys cu NoATys) (ACode k.1.owes k.1.args) (ACode (suc n) (close_types (suc n) ts vs)) k.6
      ∙ ap (λ q. Some (ACode n q)) (sym (close_applied n ts u vs b)) in
      let y : Word-has H (ZLabel k.0) (ACode n (close_types n ts v2)) =
      has_label k.1 (both k.2 (MoreATys cu NoATys)) k.4
      (closed_both k.2 (MoreATys cu NoATys) k.5 (close_below ts 0 u b l.0, tt)) done in
      let y2 = subst (λ q. Word-has H q (ACode n (close_types n ts v2))) (sym k.3) y in
      apply_has H ts b us w (ACode n v2) t l.1 e (subst (Word-has H w) c2 y2)

  module _ (ok : Args-below p) (H : List AFields) (k : ℕ) (g : List ATy) (ts : ATys) (closed : ABelow-types 0 ts)
      (many : top 0 ts ≡ k) (env : List AWord) (e : Env-has H ts env g) (from : Grows (first_fields p.tuples) H) where
    pub value_has : (v : AVal) (t : ATy) → Fine p k g v → type_of p g v ≡ Some t → (w : AWord) × (value env v ≡ Some w)
        × Word-has H w (close 0 ts t)
    value_has (Var n) t f x = env_at H ts env g n t e x
    value_has (Num i) t f x =
        let y : AInt ≡ t = cc in (
          ZInt i,
          refl,
          subst (λ q. Word-has H (ZInt i) (close 0 ts q)) y
              (subst (Word-has H (ZInt i)) (sym (close_int 0 ts)) has_int),
        )
    value_has (Lab l) t f x =
        let s = split_code (slice_get p.blocks l) t x in
        let z : s.0.owes ≡ 0 + s.0.owes = omega arith in
        let same = close_none 0 ts (ACode s.0.owes s.0.args)
        (tt, subst (λ d. ABelow-types d s.0.args) z (ok.args l s.0 s.1)) in (
          ZLabel l,
          refl,
          subst (λ q. Word-has H (ZLabel l) (close 0 ts q)) s.2
              (subst (Word-has H (ZLabel l)) (sym same) (has_label s.0 NoATys s.1 tt refl)),
        )
    value_has (Data n) t f x =
        let s = split_data (slice_get p.tuples n) t x in
        let fs = data_fields s.0 in
        let there = from n fs (fields_there p.tuples n s.0 s.1) in
        let same = close_none 0 ts (ATuple fs) (ok.data_in n s.0 s.1) in (
          ZTuple n,
          refl,
          subst (λ q. Word-has H (ZTuple n) (close 0 ts q)) s.2
              (subst (Word-has H (ZTuple n)) (sym same) (has_tuple there.0 there.1 there.2)),
        )
    value_has (Apply v us) t f x =
        let s = split_applied (type_of p g v) us t x in
        let r = value_has v s.0 f.0 s.1 in
        (r.0, r.1, apply_has H ts closed us r.0 s.0 t (subst (λ d. ABelow-types d us) (sym many) f.1) s.2 r.2)
    value_has (Pack h v s) t f x =
        let u = f.0 in
        let r = value_has v (aput 0 h u) f.1 f.5 in
        let y : s ≡ t = cc in
        let packed : Word-has H r.0 (AExists (close 1 ts u)) =
        has_pack (close 0 ts h) (close_below ts 0 h closed (subst (λ d. ABelow d h) (sym many) f.2))
        (subst (Word-has H r.0) (close_put ts h u closed) r.2) in (
          r.0,
          r.1,
          subst (λ q. Word-has H r.0 (close 0 ts q)) (sym f.4 ∙ y)
              (subst (Word-has H r.0) (sym (close_exists 0 ts u closed)) packed),
        )

  abbrev Words-have : List AFields → List AWord → ATys → Type 0
  Words-have H [] NoATys = Unit {0}
  Words-have H [] (MoreATys t ts) = ⊥
  Words-have H (w ∷ ws) NoATys = ⊥
  Words-have H (w ∷ ws) (MoreATys t ts) = Word-has H w t × Words-have H ws ts

  record Declared (x : ADecl) (k : ℕ) (g : List ATy) (env : List AWord) (h : AHeap) : Type 0 where
    word : AWord
    heap : AHeap
    is : decl x env h ≡ Gives word heap
    fields : List AFields
    holds : Heap-has fields fields heap
    types : ATys
    closed : ABelow-types 0 types
    many : top 0 types ≡ more_vars x k
    env_has : Env-has fields types (word ∷ env) (declared p g x)

  module _ (ok : Args-below p) (H : List AFields) (k : ℕ) (g : List ATy) (ts : ATys) (closed : ABelow-types 0 ts)
      (many : top 0 ts ≡ k) (env : List AWord) (e : Env-has H ts env g) (h : AHeap) (hh : Heap-has H H h) where
    val : (v : AVal) (t : ATy) → Has p k g v t → (w : AWord) × (value env v ≡ Some w) × Word-has H w (close 0 ts t)
    val v t x = value_has ok H k g ts closed many env e (started H H h hh) v t x.fine x.is

    int_val : (v : AVal) → Has p k g v AInt → (i : ℤ) × (value env v ≡ Some (ZInt i))
    int_val v x =
        let r = val v AInt x in
        let n = needs H r.0 AInt (subst (Word-has H r.0) (close_int 0 ts) r.2) in
        (n.0, r.1 ∙ ap Some n.1)

    tuple_val : (v : AVal) (fs : AFields) → Has p k g v (ATuple fs) → (a : ℕ) × (gs : AFields)
        × (t : List (Option AWord)) × (value env v ≡ Some (ZTuple a)) × (slice_get H a ≡ Some gs)
        × Fewer (close_fields 0 ts fs) gs × (slice_get h a ≡ Some t) × Tuple-has H gs t
    tuple_val v fs x =
        let r = val v (ATuple fs) x in
        let n = needs H r.0 (ATuple (close_fields 0 ts fs)) (subst (Word-has H r.0) (close_tuple 0 ts fs) r.2) in
        let t = heap_at H H h n.0 n.1 hh n.3 in
        (n.0, n.1, t.0, r.1 ∙ ap Some n.2, n.3, n.4, t.1, t.2)

    decl_sound : (x : ADecl) → TypedDecl p k g x → Declared x k g env h
    decl_sound (Value v) a =
        let r = val v a.0 a.1 in
        let s : decl (Value v) env h ≡ Gives r.0 h = rw r.1 refl in
        record {
          word = r.0;
          heap = h;
          is = s;
          fields = H;
          holds = hh;
          types = ts;
          closed = closed;
          many = many;
          env_has = (subst (λ q. Word-has H r.0 (close 0 ts q)) (sym (ap or_int a.1.is)) r.2, e);
        }
    decl_sound (Proj i v) a =
        let r = tuple_val v a.0 a.3 in
        let ft = fewer_type (close_fields 0 ts a.0) r.1 a.1 (close 0 ts a.2) r.5 (close_ftype ts a.0 a.1 a.2 a.5) in
        let ff = fewer_flag (close_fields 0 ts a.0) r.1 a.1 r.5 (close_fflag ts a.0 a.1 ∙ a.6) in
        let o = field_at H r.1 r.2 a.1 (close 0 ts a.2) r.7 ft in
        let w = slot_full H (close 0 ts a.2) (afield_flag r.1 a.1) o.0 ff o.2 in
        let there : slice_get r.2 a.1 ≡ Some (Some w.0) = o.1 ∙ ap Some w.1 in
        let s : decl (Proj i v) env h ≡ Gives w.0 h = rw (r.3, a.4, r.6, there) refl in
        record {
          word = w.0;
          heap = h;
          is = s;
          fields = H;
          holds = hh;
          types = ts;
          closed = closed;
          many = many;
          env_has = (
            subst (λ q. Word-has H w.0 (close 0 ts q))
                (sym (field_is i a.1 a.0 a.2 (type_of p g v) a.3.is a.4 a.5)) w.2,
            e,
          );
        }
    decl_sound (Arith o v w) a =
        let x = int_val v a.0 in
        let y = int_val w a.1 in
        let u = ZInt (compute o x.0 y.0) in
        let s : decl (Arith o v w) env h ≡ Gives u h = rw (x.1, y.1) refl in
        let t : Word-has H u AInt = has_int in
        record {
          word = u;
          heap = h;
          is = s;
          fields = H;
          holds = hh;
          types = ts;
          closed = closed;
          many = many;
          env_has = (subst (Word-has H u) (sym (close_int 0 ts)) t, e);
        }
    decl_sound (Unpack v) a =
        let r = val v (AExists a.0) a.1 in
        let n = needs H r.0 (AExists (close 1 ts a.0)) (subst (Word-has H r.0) (close_exists 0 ts a.0 closed) r.2) in
        let s : decl (Unpack v) env h ≡ Gives r.0 h = rw r.1 refl in
        let body = subst (Word-has H r.0) (sym (close_snoc ts n.0 a.0)) n.2 in
        record {
          word = r.0;
          heap = h;
          is = s;
          fields = H;
          holds = hh;
          types = snoc ts n.0;
          closed = closed_snoc ts n.0 closed n.1;
          many = top_snoc 0 ts n.0 ∙ ap suc many;
          env_has = (
            subst (λ q. Word-has H r.0 (close 0 (snoc ts n.0) q)) (sym (ap body_of a.1.is)) body,
            env_open H ts n.0 env g closed e,
          );
        }
    decl_sound (Malloc us) a =
        let fs = close_fields 0 ts (aunset us) in
        let J = H ++ fs ∷ [] in
        let grows = grows_push H fs in
        let n = heap_length H H h hh in
        let at : slice_get J (length h) ≡ Some fs = ap (slice_get J) (sym n) ∙ push_at H fs in
        let w : Word-has J (ZTuple (length h)) (ATuple fs) = has_tuple fs at (fewer_same fs) in
        let hold = heap_push J H h fs (empties us) (heap_kept H J H h grows hh) (empties_have J ts us) in
        record {
          word = ZTuple (length h);
          heap = h ++ empties us ∷ [];
          is = refl;
          fields = J;
          holds = hold;
          types = ts;
          closed = closed;
          many = many;
          env_has = (
            subst (Word-has J (ZTuple (length h))) (sym (close_tuple 0 ts (aunset us))) w,
            env_kept H J ts env g grows e,
          );
        }
    decl_sound (Init v i w) a =
        let r = tuple_val v a.0 a.3 in
        let x = val w a.2 a.4 in
        let j = a.1 in
        let gs = r.1 in
        let gs2 = afilled gs j in
        let J = slice_set H r.0 gs2 in
        let grows = grows_put H r.0 gs gs2 r.4 (fewer_filled gs j) in
        let ft = fewer_type (close_fields 0 ts a.0) gs j (close 0 ts a.2) r.5 (close_ftype ts a.0 j a.2 a.6) in
        let o = field_at H gs r.2 j (close 0 ts a.2) r.7 ft in
        let h2 = slice_set h r.0 (slice_set r.2 j (Some x.0)) in
        let s : decl (Init v i w) env h ≡ Gives (ZTuple r.0) h2 = rw (r.3, a.5, x.1, r.6, o.1) refl in
        let filled =
        tuple_put J gs r.2 j (close 0 ts a.2) x.0 (tuple_kept H J gs r.2 grows r.7) ft
        (word_kept H J x.0 (close 0 ts a.2) grows x.2) in
        let hold = heap_put J H h r.0 gs2 (slice_set r.2 j (Some x.0)) (heap_kept H J H h grows hh) filled in
        let fs2 = afilled a.0 j in
        let less : Fewer (close_fields 0 ts fs2) gs2 =
        subst (λ q. Fewer q gs2) (sym (close_filled ts a.0 j)) (both_filled (close_fields 0 ts a.0) gs j r.5) in
        let u : Word-has J (ZTuple r.0) (ATuple (close_fields 0 ts fs2)) =
        has_tuple gs2 (put_at H r.0 gs gs2 r.4) less in
        record {
          word = ZTuple r.0;
          heap = h2;
          is = s;
          fields = J;
          holds = hold;
          types = ts;
          closed = closed;
          many = many;
          env_has = (
            subst (λ q. Word-has J (ZTuple r.0) (close 0 ts q)) (sym (filled_is i j a.0 (type_of p g v) a.3.is a.5))
                (subst (Word-has J (ZTuple r.0)) (sym (close_tuple 0 ts fs2)) u),
            env_kept H J ts env g grows e,
          );
        }

    all_val : (vs : List AVal) (us : ATys) → All-have p k g vs us → (ws : List AWord) × (values env vs ≡ Some ws)
        × Words-have H ws (close_types 0 ts us)
    all_val [] NoATys a = ([], refl, subst (Words-have H []) (sym (close_nil 0 ts)) tt)
    all_val [] (MoreATys t us) a = absurd a
    all_val (v ∷ vs) NoATys a = absurd a
    all_val (v ∷ vs) (MoreATys t us) a =
        let x = val v t a.0 in
        let r = all_val vs us a.1 in
        let s : values env (v ∷ vs) ≡ Some (x.0 ∷ r.0) = rw (x.1, r.1) refl in
        (x.0 ∷ r.0, s, subst (Words-have H (x.0 ∷ r.0)) (sym (close_more 0 ts t us)) (x.2, r.2))

  abbrev Right : Result → Type 0
  Right (Halted i log) = Unit {0}
  Right (Spent log) = Unit {0}
  Right (Wrong log) = ⊥

  abbrev Call-sound : ℕ → Type 0
  Call-sound c = (l : ℕ) (ws : List AWord) (h : AHeap) (log : List ℕ) (H : List AFields) (b : ABlk) (ts us : ATys) →
      slice_get p.blocks l ≡ Some b → ABelow-types 0 ts → aapply (ACode b.owes b.args) ts ≡ Some (ACode 0 us) →
      Words-have H ws us → Heap-has H H h → Right (calls p.blocks c l ws h log)

  right_pick : (z : Bool) (a b : Result) → Right a → Right b → Right (pick z a b)
  right_pick true a b x y = x
  right_pick false a b x y = y

  term_sound : Args-below p → (c : ℕ) → Call-sound c →
      (e : ATm) (H : List AFields) (k : ℕ) (g : List ATy) (ts : ATys) → ABelow-types 0 ts → top 0 ts ≡ k →
      (env : List AWord) → Env-has H ts env g → (h : AHeap) → Heap-has H H h → (log : List ℕ) → TypedTerm p k g e →
      Right (term (calls p.blocks c) e env h log)
  term_sound ok c ih (Let x e) H k g ts closed many env eh h hh log t =
      let d = decl_sound ok H k g ts closed many env eh h hh x t.0 in
      rw d.is (term_sound ok c ih e d.fields (more_vars x k) (declared p g x) d.types d.closed d.many
      (d.word ∷ env) d.env_has d.heap d.holds log t.1)
  term_sound ok c ih (Call v us vs) H k g ts closed many env eh h hh log t =
      let f = val ok H k g ts closed many env eh h hh v t.0 t.2 in
      let a = all_val ok H k g ts closed many env eh h hh vs t.1 t.5 in
      let w = apply_has H ts closed us f.0 t.0 (ACode 0 t.1) (subst (λ d. ABelow-types d us) (sym many) t.3) t.4 f.2 in
      let n = needs H f.0 (ACode 0 (close_types 0 ts t.1)) (subst (Word-has H f.0) (close_code 0 0 ts t.1 closed) w) in
      let lab : value env v ≡ Some (ZLabel n.0) = f.1 ∙ ap Some n.3 in
      rw (lab, a.1) (ih n.0 a.0 h log H n.1 n.2 (close_types 0 ts t.1) n.4 n.5 n.6 a.2 hh)
  term_sound ok c ih (If0 v a b) H k g ts closed many env eh h hh log t =
      let x = int_val ok H k g ts closed many env eh h hh v t.0 in
      rw x.1 (right_pick (is_zero x.0) _ _ (term_sound ok c ih a H k g ts closed many env eh h hh log t.1)
      (term_sound ok c ih b H k g ts closed many env eh h hh log t.2))
  term_sound ok c ih (Halt v) H k g ts closed many env eh h hh log t =
      let x = int_val ok H k g ts closed many env eh h hh v t in rw x.1 tt

  words_length : (H : List AFields) (ws : List AWord) (us : ATys) → Words-have H ws us → arity us ≡ length ws
  words_length H [] NoATys a = refl
  words_length H [] (MoreATys t ts) a = absurd a
  words_length H (w ∷ ws) NoATys a = absurd a
  words_length H (w ∷ ws) (MoreATys t ts) a = ap suc (words_length H ws ts a.1)

  close_arity : (ts us : ATys) → arity (close_types 0 ts us) ≡ arity us
  close_arity ts NoATys = ap arity (close_nil 0 ts)
  close_arity ts (MoreATys u us) = ap arity (close_more 0 ts u us) ∙ ap suc (close_arity ts us)

  env_push : (H : List AFields) (ts us : ATys) (ws env : List AWord) (g : List ATy) →
      Words-have H ws (close_types 0 ts us) → Env-has H ts env g → Env-has H ts (push_all ws env) (types_of us g)
  env_push H ts NoATys [] env g a e = e
  env_push H ts NoATys (w ∷ ws) env g a e = absurd (subst (Words-have H (w ∷ ws)) (close_nil 0 ts) a)
  env_push H ts (MoreATys u us) [] env g a e = absurd (subst (Words-have H []) (close_more 0 ts u us) a)
  env_push H ts (MoreATys u us) (w ∷ ws) env g a e =
      let x = subst (Words-have H (w ∷ ws)) (close_more 0 ts u us) a in
      env_push H ts us ws (w ∷ env) (u ∷ g) x.1 (x.0, e)

  block_ok : (some : List ABlk) → TypedBlocks p some → (l : ℕ) (b : ABlk) → slice_get some l ≡ Some b →
      TypedTerm p b.owes (types_of b.args []) b.body
  block_ok [] a l b e = absurd (impossible e)
    where
      impossible : None ≡ Some b → ⊥
      impossible x = cc
  block_ok (x ∷ some) a zero b e =
      let y : x ≡ b = cc in subst (λ z. TypedTerm p z.owes (types_of z.args []) z.body) y a.0.1
  block_ok (x ∷ some) a (suc l) b e = block_ok some a.1 l b e

  calls_sound : Args-below p → TypedBlocks p p.blocks → (c : ℕ) → Call-sound c
  calls_sound ok all zero l ws h log H b ts us there closed app words hh =
      let r = apply_all ts b.owes b.args us closed app in
      let w2 = subst (Words-have H ws) (sym r.1) words in
      let n : arity b.args ≡ length ws = sym (close_arity ts b.args) ∙ words_length H ws (close_types 0 ts b.args) w2 in
      let same = eq-eqb (arity b.args) (length ws) n in
      rw (there, same) tt
  calls_sound ok all (suc c) l ws h log H b ts us there closed app words hh =
      let r = apply_all ts b.owes b.args us closed app in
      let w2 = subst (Words-have H ws) (sym r.1) words in
      let n : arity b.args ≡ length ws = sym (close_arity ts b.args) ∙ words_length H ws (close_types 0 ts b.args) w2 in
      let same = eq-eqb (arity b.args) (length ws) n in
      rw (there, same)
      (term_sound ok c (calls_sound ok all c) b.body H b.owes (types_of b.args []) ts closed
      (top_arity ts ∙ sym r.0) (push_all ws []) (env_push H ts b.args ws [] [] w2 tt) h hh (l ∷ log)
      (block_ok p.blocks all l b there))

-- the heap of the data
module _ (p : AProg) (ok : Args-below p) where
  abbrev First : List AFields
  First = first_fields p.tuples

  grows_same : (H : List AFields) → Grows p H H
  grows_same H a gs e = (gs, e, fewer_same gs)

  tuple_first : (x : AConsts) → TypedData p x → Tuple-has p First (data_fields x) (datum x)
  tuple_first [] a = tt
  tuple_first (c ∷ cs) a =
      let r = value_has p ok First 0 [] NoATys tt refl [] tt (grows_same First) c.value c.kind a.0.0.fine a.0.0.is in
      (subst (Slot p First c.kind true) (sym r.1) r.2, tuple_first cs a.1)

  heap_first : (xs : List AConsts) → TypedTuples p xs → Heap-has p First (first_fields xs) (start_heap xs)
  heap_first [] a = grows_same First
  heap_first (x ∷ xs) a = (tuple_first x a.0, heap_first xs a.1)

pub never_wrong : (p : AProg) (main : ATm) → TypedProgram p main → NeverWrong p main
never_wrong p main q c log e =
    let ok = args_below p q.blocks q.tuples in
    let r = term_sound p ok c (calls_sound p ok q.blocks c) main (first_fields p.tuples) 0 [] NoATys tt refl [] tt
    (start_heap p.tuples) (heap_first p ok p.tuples q.tuples) [] q.main_ok in
    subst (Right p) e r
