-- The place at which the machine stands, and the words of its registers.
use Rattle.std.proofs.Common.{◌≡◌, ℕ, zero, suc, ◌+◌, ◌-◌, ◌<◌, ◌≤◌, List, [], ◌∷◌, length, Option, Some, None, refl}
use Rattle.std.proofs.Common.{sym, ap, ap₂, ◌∙◌, subst, arith, slice_get, get_or, option_and_then}
use Rattle.std.specs.Coded.{le_prop, Unit-prop}
use Rattle.std.specs.Prelude.{option_map}
use Rattle.std.proofs.Math.Logic.{∥∥₁_elim}
use Rattle.std.proofs.lemmas.Option.{get_or_from_slice_get, slice_get_read}
use Rattle.std.proofs.lemmas.List.Elements.{All-get_or}
use Rattle.t_terms.specs.Tree.{TProg}
use Rattle.t_terms.specs.declared.shown.Shown.{Shown}
use Rattle.t_rules.specs.Machine.{State, At, Place, Spot, After}
use Rattle.t_rules.specs.LawsSound.{regs_of}
use Rattle.t_rules.specs.Erase.{ERegs, ESeq, EThen, EJmp, EHalt, EAt, erase, erase_blocks, erase_regs, drop_seq}
use Rattle.t_machine.specs.ProgramLaws.{ProgramLaws}
use Rattle.t_machine.specs.Places.{PlaceList, register_place}
use Rattle.t_machine.specs.Placing.{begin_at, IsBlockAt}
use Rattle.t_machine.specs.Words.{register_word, shown_word, regs_of as held_in}
use Rattle.t_machine.specs.Laid.{size, sizes, begins, Within}
use Rattle.t_machine.specs.State.{Represents, RepresentsSome}
use Rattle.t_machine.specs.Runs.{IsPlaceAfter, IsRegAfter}
use Rattle.t_collect.specs.Kept.{numbered}
use Rattle.t_collect.specs.Tuples.{starts_from, PointsBelow}
use Rattle.t_machine.specs.Heap.{Started}
use Rattle.t_machine.specs.Numbers.{numbers, made}
use Rattle.t_machine.proofs.Addresses.{started_below}
use Rattle.t_machine.proofs.Keeping.{stood_stands}
use Rattle.t_collect.specs.declared.word.Word.{Word}
use Rattle.t_collect.specs.declared.word.Word.TheVariants.{Int, Address, Label, Empty}
use Rattle.t_machine.specs.declared.heap.Heap.{Heap}
use Rattle.t_machine.specs.declared.code.Code.{Code}
use Rattle.t_machine.proofs.Laying.{read_back}

-- an instruction of a block is one of so many
drop_size : (i : ℕ) (c d : ESeq) → drop_seq i c ≡ Some d → i < size c
drop_size zero (EThen j c) d e = omega arith
drop_size zero (EJmp b) d e = omega arith
drop_size zero EHalt d e = omega arith
drop_size (suc i) (EThen j c) d e = let lt = drop_size i c d e in omega (arith, lt)
drop_size (suc i) (EJmp b) d e = cc
drop_size (suc i) EHalt d e = cc

within_at : (n : ℕ) (cs : List ESeq) (b i start : ℕ) (d : ESeq) → slice_get (begins n cs) b ≡ Some start →
    option_and_then (drop_seq i) (slice_get cs b) ≡ Some d → Within n cs b i (start + i)
within_at n [] b i start d e f = cc
within_at n (c ∷ cs) zero i start d e f = let same : n ≡ start = cc in (drop_size i c d f, omega (arith, same))
within_at n (c ∷ cs) (suc b) i start d e f = within_at (n + size c) cs b i start d e f

within_less : (n : ℕ) (cs : List ESeq) (b i at : ℕ) → Within n cs b i at → at < n + sizes cs
within_less n [] b i at w = absurd w
within_less n (c ∷ cs) zero i at w = omega (arith, w.0, w.1)
within_less n (c ∷ cs) (suc b) i at w = let lt = within_less (n + size c) cs b i at w in omega (arith, lt)

-- the block that is found
found_in : (n : ℕ) (cs : List ESeq) (b at : ℕ) → b < length (begins n cs) → begin_at (begins n cs) b ≤ at →
    (b + 1 < length (begins n cs) → at < begin_at (begins n cs) (b + 1)) → at < n + sizes cs →
    Within n cs b (at - begin_at (begins n cs) b) at
found_in n [] b at lt le next less = absurd (omega (arith, lt))
found_in n (c ∷ []) zero at lt le next less = (omega (arith, le, less), omega (arith, le))
found_in n (c ∷ d ∷ cs) zero at lt le next less = let before = next (omega arith) in
    (omega (arith, le, before), omega (arith, le))
found_in n (c ∷ cs) (suc b) at lt le next less =
    let one : suc b + 1 ≡ suc (b + 1) = omega arith in
    found_in (n + size c) cs b at (omega (arith, lt)) le
    (λ l. subst (λ k. at < begin_at (begins n (c ∷ cs)) k) one (next (omega (arith, l)))) (omega (arith, less))

module _ (laws : ProgramLaws) (P : TProg) (m : ℕ) (x : Heap) (ws : List Word) (code : Code) (at : ℕ)
    (s : Represents P m x ws code at) where
  blocks : List ESeq
  blocks = erase_blocks P

  pub here : Within 0 (erase_blocks P) s.block s.index at
  here =
      let stands = stood_stands laws P m (erase_blocks P) (numbers x) x.fixed (made x) s.tuples (held_in code.places ws)
      s.rest (Spot s.block s.index) s.erased in
      let begun = subst (λ (es : List ℕ). slice_get es s.block ≡ Some s.machine.start) s.machine.laid.0
      s.machine.entered in
      subst (Within 0 (erase_blocks P) s.block s.index) (sym s.machine.placed) (within_at 0
      (erase_blocks P) s.block s.index s.machine.start s.rest begun stands)

  pub stands_at : (t : State) (p : Place) → After P m t p → p ≡ Spot s.block s.index
  stands_at t p run = (laws.one P m t s.erased.erased.1.0 p (Spot s.block s.index) run s.erased.erased.1.1).1

  less : at < sizes (erase_blocks P)
  less = let lt = within_less 0 (erase_blocks P) s.block s.index at here in omega (arith, lt)

  pub some_blocks : 0 < length code.entries.items
  some_blocks = subst (λ (es : List ℕ). 0 < length es) (sym s.machine.laid.0) (there (erase_blocks P) s.block s.index at
      here)
    where
      there : (cs : List ESeq) (b i k : ℕ) → Within 0 cs b i k → 0 < length (begins 0 cs)
      there [] b i k w = absurd w
      there (c ∷ cs) b i k w = omega arith

  pub first_begun : begin_at code.entries.items 0 ≤ at
  first_begun = subst (λ (es : List ℕ). begin_at es 0 ≤ at) (sym s.machine.laid.0) (at_none (erase_blocks P))
    where
      at_none : (cs : List ESeq) → begin_at (begins 0 cs) 0 ≤ at
      at_none [] = omega arith
      at_none (c ∷ cs) = omega arith

  pub place_is : (b : ℕ) → IsBlockAt code.entries.items at b → IsPlaceAfter P m b (at - begin_at code.entries.items b)
  place_is b found t p run =
      let f = subst (λ (es : List ℕ). IsBlockAt es at b) s.machine.laid.0 found in
      let w = found_in 0 (erase_blocks P) b at f.there f.begun f.next (omega (arith, less)) in
      let same = read_back (erase_blocks P) s.block b s.index (at - begin_at (begins 0 (erase_blocks P)) b) at here w in
      stands_at t p run ∙ ap₂ Spot same.0 (same.1 ∙ ap (λ (es : List ℕ). at - begin_at es b) (sym s.machine.laid.0))

  -- the words of the registers, where a tuple has the number that it has in the program's states
  abbrev shown_in : ERegs
  shown_in r = option_map (numbered (numbers x)) (held_in code.places ws r)

  words_of : (t : State) (p : Place) → After P m t p → (r : ℕ) → erase_regs (regs_of t) r ≡ shown_in r
  words_of t p run r = by_state s.erased.erased.1.0 (laws.one P m t s.erased.erased.1.0 p
      (Spot s.block s.index) run s.erased.erased.1.1).0 s.erased.erased.1.2 ∙ s.erased.keeps.regs r
    where
      by_state : (u : State) → t ≡ u → EAt s.erased.heap s.erased.regs s.rest ≡ erase u →
          erase_regs (regs_of t) r ≡ s.erased.regs r
      by_state (At h g c) same e =
          let words : s.erased.regs ≡ erase_regs g = cc in
          ap (λ (z : State). erase_regs (regs_of z) r) same ∙ sym (ap (λ (f : ERegs). f r) words)

  pub reg_is : (r : ℕ) (o : Option Shown) → option_map shown_word o ≡ shown_in r → IsRegAfter P m r o
  reg_is r o e t p run = e ∙ sym (words_of t p run r)

pub start_is : (es : List ℕ) (b n : ℕ) → b < length es → n ≡ get_or es b n → begin_at es b ≡ n
start_is es b n lt is = get_or_from_slice_get es b n 0 (slice_get_read es (length es) b n refl lt is)

-- the words of the machine, by its places
pub word_none : (ns : List ℕ) (places : PlaceList) (ws : List Word) (r : ℕ) → register_place places r ≡ None →
    option_map shown_word None ≡ option_map (numbered ns) (held_in places ws r)
word_none ns places ws r e =
    sym (ap (λ o. option_map (numbered ns) (option_and_then (λ k. option_and_then register_word (slice_get ws k)) o)) e)

pub word_some : (ns : List ℕ) (places : PlaceList) (ws : List Word) (r k : ℕ) (w : Word) (o : Option Shown) →
    register_place places r ≡ Some k → k < length ws → w ≡ get_or ws k w →
    option_map shown_word o ≡ option_map (numbered ns) (register_word w) →
    option_map shown_word o ≡ option_map (numbered ns) (held_in places ws r)
word_some ns places ws r k w o e lt is same =
    same ∙ ap (option_map (numbered ns)) (sym (ap (option_and_then (λ j. option_and_then register_word
    (slice_get ws j))) e
    ∙ ap (option_and_then register_word) (slice_get_read ws (length ws) k w refl lt is)))

points_prop : (n : ℕ) (w : Word) → IsProp (PointsBelow n w)
points_prop n (Address a) = le_prop
points_prop n (Int i) = Unit-prop
points_prop n (Label l) = Unit-prop
points_prop n (Empty m) = Unit-prop

-- what holds of a machine, whichever program it stands for
module _ (laws : ProgramLaws) (x : Heap) (ws : List Word) (code : Code) (at : ℕ)
    (some : ∥ RepresentsSome x ws code at ∥₁) where
  pub some_there : 0 < length code.entries.items
  some_there = ∥∥₁_elim some le_prop (λ k. some_blocks laws k.program k.steps x ws code at k.shows)

  pub some_begun : begin_at code.entries.items 0 ≤ at
  some_begun = ∥∥₁_elim some le_prop (λ k. first_begun laws k.program k.steps x ws code at k.shows)

  pub some_word : (r k : ℕ) → register_place code.places r ≡ Some k → k < length ws
  some_word r k e = ∥∥₁_elim some le_prop (λ z. let lt = z.shows.machine.has_places.0 r k e in
      omega (arith, lt, z.shows.machine.has_words))

  pub some_shown : (r k : ℕ) (w : Word) → register_place code.places r ≡ Some k → w ≡ get_or ws k w →
      PointsBelow (length x.starts.items) w
  some_shown r k w e is = ∥∥₁_elim some (points_prop (length x.starts.items) w) (λ z.
      let lt = z.shows.machine.has_places.0 r k e in
      let in' : k < length ws = omega (arith, lt, z.shows.machine.has_words) in
      let all = z.shows.machine.words_started in
      subst (λ ss. PointsBelow (length ss) w) (sym z.shows.machine.has_heap.1) (started_below
      (starts_from 0 z.shows.tuples) w
      (subst (Started (starts_from 0 z.shows.tuples)) (sym is) (All-get_or (Started (starts_from 0 z.shows.tuples)) ws k
      w in'
      all))))
