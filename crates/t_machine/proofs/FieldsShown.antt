-- A field that is shown is that of the program's state.
use Rattle.std.proofs.Common.{◌≡◌, ℕ, ◌<◌, List, length, Option, Some, None, refl, sym, ap, ◌∙◌, arith, slice_get}
use Rattle.std.proofs.Common.{option_and_then}
use Rattle.std.specs.Prelude.{slice_index, option_map}
use Rattle.std.proofs.Math.Logic.{∥∥₁_elim}
use Rattle.std.specs.Coded.{le_prop}
use Rattle.std.specs.List.{Contains}
use Rattle.std.proofs.lemmas.List.{get_or_default}
use Rattle.std.proofs.lemmas.Option.{slice_get-map}
use Rattle.t_terms.specs.declared.shown.Shown.{Shown}
use Rattle.t_terms.specs.Tree.{TProg}
use Rattle.t_rules.specs.Machine.{State, Place, Spot, After}
use Rattle.t_rules.specs.Erase.{EWord, EHeap, erase}
use Rattle.t_collect.specs.Kept.{numbered}
use Rattle.t_collect.specs.declared.word.Word.{Word}
use Rattle.t_collect.specs.declared.word.Word.TheVariants.{Int, Address, Label, Empty}
use Rattle.t_machine.specs.Heap.{IsHeap}
use Rattle.t_machine.specs.Numbers.{numbers, AreRising}
use Rattle.t_machine.specs.ProgramLaws.{ProgramLaws}
use Rattle.t_machine.specs.Runs.{filled, field_in, tuples_of, IsFieldAfter}
use Rattle.t_machine.specs.State.{Represents, RepresentsSome}
use Rattle.t_machine.specs.Words.{word, register_word, shown_word}
use Rattle.t_machine.specs.declared.code.Code.{Code}
use Rattle.t_machine.specs.declared.heap.Heap.{Heap}
use Rattle.t_machine.proofs.Found.{some_at}
use Rattle.t_machine.proofs.Numbered.{numbers_length}
use Rattle.t_machine.proofs.Tuples.{tuple_count}

filled_held : (ns : List ℕ) (w : Word) → filled (numbered ns (word w)) ≡ option_map (numbered ns) (register_word w)
filled_held ns (Int i) = refl
filled_held ns (Address a) = refl
filled_held ns (Label l) = refl
filled_held ns (Empty n) = refl

filled_words : (ns : List ℕ) (r : Option Word) →
    option_and_then filled (option_map (numbered ns) (option_map word r))
    ≡ option_and_then (λ w. option_map (numbered ns) (register_word w)) r
filled_words ns None = refl
filled_words ns (Some w) = filled_held ns w

-- the numbers of what is kept rise
pub some_rising : (x : Heap) (ws : List Word) (code : Code) (at : ℕ) → ∥ RepresentsSome x ws code at ∥₁ →
    AreRising (numbers x)
some_rising x ws code at some i j lt below =
    ∥∥₁_elim some le_prop (λ k. k.shows.erased.keeps.rising i j lt below)

-- a tuple that is there is kept
pub kept_at : (x : Heap) (i a : ℕ) → i < length x.starts.items → slice_index (numbers x) i ≡ a →
    Contains (numbers x) a
kept_at x i a lt e =
    let in' : i < length (numbers x) = omega (
      arith,
      lt,
      numbers_length x.kept.items x.dropped (length x.starts.items)
          x.older,
    ) in
    (i, in', get_or_default (numbers x) i a 0 in' ∙ e)

module _ (laws : ProgramLaws) (P : TProg) (m : ℕ) (x : Heap) (ws : List Word) (code : Code) (at : ℕ)
    (s : Represents P m x ws code at) (a j i : ℕ) (lt : i < length x.starts.items) (is : slice_index (numbers x) i ≡ a)
    (r : Option Word)
    (read : (h : EHeap) → IsHeap x h → option_map word r ≡ option_and_then (λ t. slice_get t j) (slice_get h i)) where
  tuple : (t : List EWord) × (slice_get s.tuples i ≡ Some t)
  tuple = some_at s.tuples i (omega (arith, lt, tuple_count x s.tuples s.machine.has_heap))

  here : option_and_then (λ t. slice_get t j) (slice_get s.erased.heap a)
      ≡ option_map (numbered (numbers x)) (option_map word r)
  here =
      let t = tuple.0 in
      ap (λ k. option_and_then (λ (u : List EWord). slice_get u j) (slice_get s.erased.heap k)) (sym is)
      ∙ ap (option_and_then (λ (u : List EWord). slice_get u j)) (s.erased.keeps.tuples i t tuple.1)
      ∙ slice_get-map (numbered (numbers x)) t j
      ∙ ap (option_map (numbered (numbers x))) (ap (option_and_then (λ (u : List EWord). slice_get u j)) (sym tuple.1)
      ∙ sym (read s.tuples s.machine.has_heap))

  state : (t : State) (p : Place) → After P m t p → tuples_of (erase t) ≡ s.erased.heap
  state t p run =
      ap (λ u. tuples_of (erase u)) (laws.one P m t s.erased.erased.1.0 p (Spot s.block s.index) run
      s.erased.erased.1.1).0 ∙ ap tuples_of (sym s.erased.erased.1.2)

  pub field_is : (o : Option Shown) →
      option_map shown_word o ≡ option_and_then (λ w. option_map (numbered (numbers x)) (register_word w)) r →
      IsFieldAfter P m a j o
  field_is o e t p run =
      e ∙ sym (filled_words (numbers x) r) ∙ ap (option_and_then filled) (sym here)
      ∙ sym (ap (λ h. field_in h a j) (state t p run))
