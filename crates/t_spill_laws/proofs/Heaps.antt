-- Heaps and words of a program, and of what is spilled of it: each tuple has a place in the other heap, among frames.
use Rattle.std.proofs.Common.{◌≡◌, ℕ, zero, suc, ◌<◌, nat_eq, cond, Bool, true, false, List, [], ◌∷◌, ◌++◌, length}
use Rattle.std.proofs.Common.{map, Option, Some, None, refl, sym, ap, ◌∙◌, subst, arith, slice_get, slice_set, inl}
use Rattle.std.proofs.Common.{inr, ◌⊎◌, ⊎_elim}
use Rattle.std.specs.Prelude.{◌≢◌, option_map, replicate}
use Rattle.std.proofs.lemmas.Bool.{cases_eq, eqb-true}
use Rattle.std.proofs.lemmas.Option.{slice_get_within}
use Rattle.std.proofs.lemmas.List.{length-append}
use Rattle.t_types.specs.Tree.{Ty, TFile, NoRegs, MoreRegs}
use Rattle.t_types.specs.Fits.{lookup}
use Rattle.t_terms.specs.Tree.{TProg}
use Rattle.t_rules.specs.Machine.{Word, IntWord, AddressWord, LabelWord, EmptyWord, PackWord, Heap, RegWords}
use Rattle.t_rules.specs.HeapTypes.{HeapTypes, WordHas}
use Rattle.t_rules.specs.Erase.{EWord, EInt, EAddress, ELabel, EEmpty, EHeap}
use Rattle.t_spill_rules.specs.Spill.{numbers, position}
use Rattle.t_spill_laws.proofs.Walks.{Full, get_end}
use Rattle.t_rules.proofs.Settled.{there as get_there}
use Rattle.idx_core.proofs.Lists.{set_same, set_length, get_front}

-- a word of the program, spilled; p has the places of its tuples
abbrev pub image : List ℕ → Word → Option EWord
image p (IntWord i) = Some (EInt i)
image p (AddressWord a) = option_map EAddress (slice_get p a)
image p (LabelWord l ts) = Some (ELabel (suc l))
image p (EmptyWord t) = Some EEmpty
image p (PackWord t w s) = image p w

pub image_more : (p : List ℕ) (x : ℕ) (w : Word) (e : EWord) → image p w ≡ Some e → image (p ++ (x ∷ [])) w ≡ Some e
image_more p x (IntWord i) e h = h
image_more p x (AddressWord a) e h = go (slice_get p a) refl h
  where
    go : (o : Option ℕ) → slice_get p a ≡ o → option_map EAddress o ≡ Some e →
        option_map EAddress (slice_get (p ++ (x ∷ [])) a) ≡ Some e
    go None k z = cc
    go (Some y) k z = ap (option_map EAddress) (get_front p (x ∷ []) a y k) ∙ z
image_more p x (LabelWord l ts) e h = h
image_more p x (EmptyWord t) e h = h
image_more p x (PackWord t w s) e h = image_more p x w e h

pub image_address : (p : List ℕ) (a : ℕ) (e : EWord) → image p (AddressWord a) ≡ Some e → (x : ℕ)
    × (slice_get p a ≡ Some x) × (e ≡ EAddress x)
image_address p a e h = go (slice_get p a) refl h
  where
    go : (o : Option ℕ) → slice_get p a ≡ o → option_map EAddress o ≡ Some e → (x : ℕ) × (slice_get p a ≡ Some x)
        × (e ≡ EAddress x)
    go None k z = cc
    go (Some y) k z = let s : e ≡ EAddress y = cc in (y, k, s)

-- a typed word is full
pub full_image : (P : TProg) (q : HeapTypes) (p : List ℕ) (w : Word) (t : Ty) (e : EWord) → WordHas P q w t →
    image p w ≡ Some e → Full e
full_image P q p (IntWord i) t e h k = let s : EInt i ≡ e = cc in subst Full s tt
full_image P q p (AddressWord a) t e h k = let x = image_address p a e k in subst Full (sym x.2) tt
full_image P q p (LabelWord l ts) t e h k = let s : ELabel (suc l) ≡ e = cc in subst Full s tt
full_image P q p (EmptyWord u) t e h k = absurd h
full_image P q p (PackWord u w s) t e h k = full_image P q p w _ e h.1 k

abbrev pub Images : List ℕ → List Word → List EWord → Type 0
Images p [] [] = Unit {0}
Images p (w ∷ ws) (e ∷ es) = (image p w ≡ Some e) × Images p ws es
Images p [] (e ∷ es) = ⊥
Images p (w ∷ ws) [] = ⊥

pub images_more : (p : List ℕ) (x : ℕ) (ws : List Word) (es : List EWord) → Images p ws es →
    Images (p ++ (x ∷ [])) ws es
images_more p x [] [] h = tt
images_more p x (w ∷ ws) (e ∷ es) h = (image_more p x w e h.0, images_more p x ws es h.1)
images_more p x [] (e ∷ es) h = h
images_more p x (w ∷ ws) [] h = h

pub images_at : (p : List ℕ) (ws : List Word) (es : List EWord) (i : ℕ) (w : Word) → Images p ws es →
    slice_get ws i ≡ Some w → (e : EWord) × (slice_get es i ≡ Some e) × (image p w ≡ Some e)
images_at p [] es i w h k = cc
images_at p (v ∷ ws) [] i w h k = absurd h
images_at p (v ∷ ws) (e ∷ es) zero w h k = let s : v ≡ w = cc in (e, refl, ap (image p) (sym s) ∙ h.0)
images_at p (v ∷ ws) (e ∷ es) (suc i) w h k = images_at p ws es i w h.1 k

pub images_set : (p : List ℕ) (ws : List Word) (es : List EWord) (i : ℕ) (w : Word) (e : EWord) → Images p ws es →
    image p w ≡ Some e → Images p (slice_set ws i w) (slice_set es i e)
images_set p [] [] i w e h k = tt
images_set p (v ∷ ws) (d ∷ es) zero w e h k = (k, h.1)
images_set p (v ∷ ws) (d ∷ es) (suc i) w e h k = (h.0, images_set p ws es i w e h.1 k)
images_set p [] (d ∷ es) i w e h k = absurd h
images_set p (v ∷ ws) [] i w e h k = absurd h

pub images_length : (p : List ℕ) (ws : List Word) (es : List EWord) → Images p ws es → length es ≡ length ws
images_length p [] [] h = refl
images_length p (w ∷ ws) (e ∷ es) h = ap suc (images_length p ws es h.1)
images_length p [] (e ∷ es) h = absurd h
images_length p (w ∷ ws) [] h = absurd h

pub images_empty : (p : List ℕ) (ts : List Ty) → Images p (map EmptyWord ts) (replicate (length ts) EEmpty)
images_empty p [] = tt
images_empty p (t ∷ ts) = (refl, images_empty p ts)

-- lists
pub set_other : {A : Type 0} (xs : List A) (i j : ℕ) (z : A) → j ≢ i → slice_get (slice_set xs i z) j ≡ slice_get xs j
set_other [] i j z ne = refl
set_other (x ∷ xs) zero zero z ne = absurd (ne refl)
set_other (x ∷ xs) zero (suc j) z ne = refl
set_other (x ∷ xs) (suc i) zero z ne = refl
set_other (x ∷ xs) (suc i) (suc j) z ne = set_other xs i j z (λ e. ne (ap suc e))

-- the last element, or one before it
pub get_cases : {A : Type 0} (xs : List A) (y : A) (i : ℕ) (x : A) → slice_get (xs ++ (y ∷ [])) i ≡ Some x →
    (slice_get xs i ≡ Some x) ⊎ ((i ≡ length xs) × (x ≡ y))
get_cases [] y zero x e = let s : x ≡ y = cc in inr (refl, s)
get_cases [] y (suc i) x e = cc
get_cases (z ∷ xs) y zero x e = inl e
get_cases (z ∷ xs) y (suc i) x e =
    ⊎_elim (λ (a : slice_get xs i ≡ Some x). inl a) (λ (a : (i ≡ length xs) × (x ≡ y)). inr (ap suc a.0, a.1))
    (get_cases xs y i x e)

-- each tuple of h has a place in K of its own, with the words' images
pub record Heaps (p : List ℕ) (h : Heap) (K : EHeap) : Type 0 where
  pub same : (a : ℕ) (ws : List Word) → slice_get h a ≡ Some ws → (x : ℕ) × (es : List EWord)
      × (slice_get p a ≡ Some x) × (slice_get K x ≡ Some es) × Images p ws es
  pub size : length p ≡ length h
  pub apart : (a b x : ℕ) → slice_get p a ≡ Some x → slice_get p b ≡ Some x → a ≡ b

-- a place is below the other heap's length
pub place_below : (p : List ℕ) (h : Heap) (K : EHeap) → Heaps p h K → (a x : ℕ) → slice_get p a ≡ Some x → x < length K
place_below p h K s a x e =
    let n = slice_get_within p a x e in
    let t = get_there h a (omega (arith, n, s.size)) in
    let y = s.same a t.0 t.1 in
    let e2 = y.2 in
    let z : Some y.0 ≡ Some x = sym e2 ∙ e in
    let one : y.0 ≡ x = cc in
    let lt = slice_get_within K y.0 y.1 y.3 in
    omega (arith, one, lt)

-- another frame
pub heaps_frame : (p : List ℕ) (h : Heap) (K : EHeap) (ws : List EWord) → Heaps p h K → Heaps p h (K ++ (ws ∷ []))
heaps_frame p h K ws s = record {
  same = λ a us e. let y = s.same a us e in (y.0, y.1, y.2, get_front K (ws ∷ []) y.0 y.1 y.3, y.4);
  size = s.size;
  apart = s.apart;
}

-- another tuple
pub heaps_tuple : (p : List ℕ) (h : Heap) (K : EHeap) (us : List Word) (es : List EWord) → Heaps p h K →
    Images (p ++ (length K ∷ [])) us es →
    Heaps (p ++ (length K ∷ [])) (h ++ (us ∷ [])) (K ++ (es ∷ []))
heaps_tuple p h K us es s im = record {
  same = λ a ws e. ⊎_elim
      (λ (k : slice_get h a ≡ Some ws). let y = s.same a ws k in (
        y.0,
        y.1,
        get_front p (length K ∷ []) a y.0 y.2,
        get_front K (es ∷ []) y.0 y.1 y.3,
        images_more p (length K) ws y.1 y.4,
      ))
      (λ (k : (a ≡ length h) × (ws ≡ us)).
      let here : slice_get (p ++ (length K ∷ [])) a ≡ Some (length K) =
      ap (slice_get (p ++ (length K ∷ []))) (k.0 ∙ sym s.size) ∙ get_end p (length K) [] in
      (length K, es, here, get_end K es [], subst (λ z. Images (p ++ (length K ∷ [])) z es) (sym k.1) im))
      (get_cases h us a ws e);
  size = omega (arith, length-append p (length K ∷ []), length-append h (us ∷ []), s.size);
  apart = λ a b x e k. ⊎_elim
      (λ (y : slice_get p a ≡ Some x). ⊎_elim
      (λ (z : slice_get p b ≡ Some x). s.apart a b x y z)
      (λ (z : (b ≡ length p) × (x ≡ length K)). let lt = place_below p h K s a x y in let f = z.1 in
      absurd (omega (arith, lt, f)))
      (get_cases p (length K) b x k))
      (λ (y : (a ≡ length p) × (x ≡ length K)). ⊎_elim
      (λ (z : slice_get p b ≡ Some x). let lt = place_below p h K s b x z in let f = y.1 in
      absurd (omega (arith, lt, f)))
      (λ (z : (b ≡ length p) × (x ≡ length K)). y.0 ∙ sym z.0)
      (get_cases p (length K) b x k))
      (get_cases p (length K) a x e);
}

-- a field is written
pub heaps_set : (p : List ℕ) (h : Heap) (K : EHeap) (a x i : ℕ) (ws : List Word) (es : List EWord) (w : Word)
    (e : EWord) → Heaps p h K → slice_get p a ≡ Some x → slice_get h a ≡ Some ws → slice_get K x ≡ Some es →
    Images p ws es → image p w ≡ Some e →
    Heaps p (slice_set h a (slice_set ws i w)) (slice_set K x (slice_set es i e))
heaps_set p h K a x i ws es w e s here ha kx im we = record {
  same = λ b us k. ⊎_elim
      (λ (q : b ≡ a).
      let k2 : slice_get (slice_set h a (slice_set ws i w)) a ≡ Some us =
      ap (slice_get (slice_set h a (slice_set ws i w))) (sym q) ∙ k in
      let f : Some (slice_set ws i w) ≡ Some us = sym (set_same h a ws (slice_set ws i w) ha) ∙ k2 in
      let g : slice_set ws i w ≡ us = cc in (
        x,
        slice_set es i e,
        ap (slice_get p) q
            ∙ here,
        set_same K x es (slice_set es i e) kx,
        subst (λ z. Images p z (slice_set es i e)) g (images_set p ws es i w e im we),
      ))
      (λ (q : b ≢ a).
      let y = s.same b us (sym (set_other h a b (slice_set ws i w) q) ∙ k) in
      let far : y.0 ≢ x = λ z. q (s.apart b a x (y.2 ∙ ap Some z) here) in
      (y.0, y.1, y.2, set_other K x y.0 (slice_set es i e) far ∙ y.3, y.4))
      (cases_eq b a);
  size = s.size ∙ sym (set_length h a (slice_set ws i w));
  apart = s.apart;
}

-- the frame of registers: each one's word's image, full
abbrev pub FrameHas : List ℕ → RegWords → List ℕ → List EWord → Type 0
FrameHas p r [] [] = Unit {0}
FrameHas p r (q ∷ qs) (e ∷ es) = ((w : Word) × (r q ≡ Some w) × (image p w ≡ Some e) × Full e) × FrameHas p r qs es
FrameHas p r [] (e ∷ es) = ⊥
FrameHas p r (q ∷ qs) [] = ⊥

pub frame_more : (p : List ℕ) (x : ℕ) (r : RegWords) (qs : List ℕ) (es : List EWord) → FrameHas p r qs es →
    FrameHas (p ++ (x ∷ [])) r qs es
frame_more p x r [] [] h = tt
frame_more p x r (q ∷ qs) (e ∷ es) h =
    ((h.0.0, h.0.1, image_more p x h.0.0 e h.0.2, h.0.3), frame_more p x r qs es h.1)
frame_more p x r [] (e ∷ es) h = h
frame_more p x r (q ∷ qs) [] h = h

-- a register's word in the frame
abbrev pub WordIn : List ℕ → RegWords → List EWord → ℕ → ℕ → Type 0
WordIn p r es i q = (w : Word) × (e : EWord) × (r q ≡ Some w) × (image p w ≡ Some e) × (slice_get es i ≡ Some e)
    × Full e

word_case : (p : List ℕ) (r : RegWords) (e : EWord) (es : List EWord) (n q u : ℕ) (x : TFile) (t s : Ty) (b : Bool) →
    nat_eq u q ≡ b → ((w : Word) × (r u ≡ Some w) × (image p w ≡ Some e) × Full e) →
    (lookup x q ≡ Some t → WordIn p r es n q) →
    cond b (Some s) (lookup x q) ≡ Some t → WordIn p r (e ∷ es) (cond b 0 (suc n)) q
word_case p r e es n q u x t s true eq h f k = let same : u ≡ q = eqb-true u q eq in
    (h.0, e, ap r (sym same) ∙ h.1, h.2, refl, h.3)
word_case p r e es n q u x t s false eq h f k = f k

pub word_in : (p : List ℕ) (r : RegWords) (x : TFile) (es : List EWord) (q : ℕ) (t : Ty) →
    FrameHas p r (numbers x) es → lookup x q ≡ Some t → WordIn p r es (position (numbers x) q) q
word_in p r NoRegs es q t h k = cc
word_in p r (MoreRegs u s x) [] q t h k = absurd h
word_in p r (MoreRegs u s x) (e ∷ es) q t h k =
    word_case p r e es (position (numbers x) q) q u x t s (nat_eq u q) refl h.0 (λ z. word_in p r x es q t h.1 z) k
