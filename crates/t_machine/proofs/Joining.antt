-- Instructions that do the same, place by place, hold the same blocks.
use Rattle.std.proofs.Common.{◌≡◌, ◌≢◌, ℕ, zero, suc, ◌<◌, List, [], ◌∷◌, length, map, drop, set, Some, refl, sym, ap}
use Rattle.std.proofs.Common.{ap₂, ◌∙◌, subst, arith, slice_get, option_map, inl, inr, ⊎_elim}
use Rattle.std.proofs.lemmas.List.{length-map, drop-map}
use Rattle.t_rules.specs.Erase.{EInstr, ESeq, EThen}
use Rattle.t_machine.specs.Action.{Action, action, moved_data}
use Rattle.t_machine.specs.Code.{IsInstr, IsEnd, Holds, HoldsBlocks, all_moved}
use Rattle.t_machine.specs.Places.{PlaceList}
use Rattle.t_machine.specs.declared.code.Instruction.{Instruction}

-- an element of a list that is set, and another one
pub set_here : {A : Type 0} (xs : List A) (k : ℕ) (v : A) → k < length xs → slice_get (set xs k v) k ≡ Some v
set_here [] k v lt = absurd (omega arith)
set_here (x ∷ xs) zero v lt = refl
set_here (x ∷ xs) (suc k) v lt = set_here xs k v (omega arith)

pub set_apart : {A : Type 0} (xs : List A) (k j : ℕ) (v : A) → j ≢ k → slice_get (set xs k v) j ≡ slice_get xs j
set_apart [] k j v apart = refl
set_apart (x ∷ xs) zero zero v apart = absurd (apart refl)
set_apart (x ∷ xs) zero (suc j) v apart = refl
set_apart (x ∷ xs) (suc k) zero v apart = refl
set_apart (x ∷ xs) (suc k) (suc j) v apart = set_apart xs k j v (λ e. apart (ap suc e))

-- the list from a place on
pub drop_here : {A : Type 0} (xs : List A) (k : ℕ) (x : A) → slice_get xs k ≡ Some x → drop k xs ≡ x ∷ drop (suc k) xs
drop_here [] k x e = cc
drop_here (y ∷ xs) zero x e = let same : y ≡ x = cc in ap (λ z. z ∷ xs) same
drop_here (y ∷ xs) (suc k) x e = drop_here xs k x e

abbrev pub Same : List Instruction → List Instruction → Type 0
Same os ps = map action ps ≡ map action os

-- another instruction that does the same
pub same_set : (os : List Instruction) (k : ℕ) (o : Instruction) →
    option_map action (slice_get os k) ≡ Some (action o) → Same os (set os k o)
same_set [] k o e = refl
same_set (p ∷ os) zero o e =
    let same : action p ≡ action o = cc in
    ap (λ a. a ∷ map action os) (sym same)
same_set (p ∷ os) (suc k) o e = ap (λ zs. action p ∷ zs) (same_set os k o e)

pub same_count : (os ps : List Instruction) → Same os ps → length ps ≡ length os
same_count os ps e = sym (length-map ps action) ∙ ap (λ zs. length zs) e ∙ length-map os action

head_same : (o p : Instruction) (os ps : List Instruction) → Same (o ∷ os) (p ∷ ps) →
    (action p ≡ action o) × Same os ps
head_same o p os ps e =
    let all : ◌≡◌ {A = List Action} (action p ∷ map action ps) (action o ∷ map action os) = e in
    (cc, cc)

same_holds : (m : PlaceList) (es : List ℕ) (os ps : List Instruction) (c : ESeq) → Same os ps → Holds m es os c →
    Holds m es ps c
same_holds m es [] ps c e h = absurd h
same_holds m es (o ∷ os) [] c e h =
    let none : ◌≡◌ {A = List Action} [] (action o ∷ map action os) = e in
    cc
same_holds m es (o ∷ os) (p ∷ ps) c e h =
    let both = head_same o p os ps e in
    ⊎_elim
    (λ (z : (i : EInstr) × (r : ESeq) × IsInstr m es (action o) i × (c ≡ EThen i r) × Holds m es os r). inl (
      z.0,
      z.1,
      subst (λ a. IsInstr m es a z.0) (sym both.0) z.2,
      z.3,
      same_holds m es os ps z.1 both.1 z.4,
    ))
    (λ (z : IsEnd m es (action o) c). inr (subst (λ a. IsEnd m es a c) (sym both.0) z))
    h

pub same_blocks : (m : PlaceList) (es : List ℕ) (os ps : List Instruction) (ks : List ℕ) (cs : List ESeq) →
    Same os ps → HoldsBlocks m es os ks cs → HoldsBlocks m es ps ks cs
same_blocks m es os ps [] [] e h = h
same_blocks m es os ps (k ∷ ks) (c ∷ cs) e h = (
  same_holds m es (drop k os) (drop k ps) c (sym (drop-map action k ps) ∙ ap (drop k) e ∙ drop-map action k os) h.0,
  same_blocks m es os ps ks cs e h.1,
)
same_blocks m es os ps [] (c ∷ cs) e h = absurd h
same_blocks m es os ps (k ∷ ks) [] e h = absurd h

pub same_moved : (os ps : List Instruction) → Same os ps → all_moved ps ≡ all_moved os
same_moved [] [] e = refl
same_moved [] (p ∷ ps) e =
    let none : ◌≡◌ {A = List Action} (action p ∷ map action ps) [] = e in
    cc
same_moved (o ∷ os) [] e =
    let none : ◌≡◌ {A = List Action} [] (action o ∷ map action os) = e in
    cc
same_moved (o ∷ os) (p ∷ ps) e =
    let both = head_same o p os ps e in
    ap₂ (λ w ws. w ∷ ws) (ap moved_data both.0) (same_moved os ps both.1)
