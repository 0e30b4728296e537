-- Runs of the erased machine, as a function: the state after so many steps, its place, and the blocks entered so far,
-- the last one first.
use Rattle.std.specs.Prelude.{◌≡◌, ◌↔◌, ◌≤◌, ◌<◌, ◌+◌, ℕ, zero, suc, ℤ, List, [], ◌∷◌, Option, Some, None, option_map}
use Rattle.std.specs.Prelude.{option_and_then, slice_get}
use Rattle.t_terms.specs.Tree.{TBlock, TProg}
use Rattle.t_terms.specs.Whole.{WellFormedProgram}
use Rattle.t_rules.specs.Rules.{Accepted}
use Rattle.t_rules.specs.Machine.{State, Place, Spot, moved, After, HaltsWithin}
use Rattle.t_rules.specs.Times.{places, entered_by, entries}
use Rattle.t_rules.specs.Erase.{ESeq, EState, EAt, EStep, EGoes, no_ewords, erase, erase_block, erase_blocks}
use Rattle.t_rules.specs.Erase.{erase_heap, estep, EHaltedWith}

-- a state, its place, and the blocks entered so far
pub data ERun : Type 0 where
  EOn : (e : EState) (p : Place) (log : List ℕ) → ERun

abbrev pub went : Place → List ℕ → EStep → ERun
went p log (EGoes k f) = EOn f (moved p k) (entered_by k log)

-- one step
abbrev pub onward : List ESeq → ERun → Option ERun
onward blocks (EOn e p log) = option_map (went p log) (estep blocks e)

-- m steps
abbrev pub erun : List ESeq → ℕ → ERun → Option ERun
erun blocks zero x = Some x
erun blocks (suc m) x = option_and_then (onward blocks) (erun blocks m x)

-- m steps, of which the first is made first
abbrev pub erun_first : List ESeq → ℕ → ERun → Option ERun
erun_first blocks zero x = Some x
erun_first blocks (suc m) x = option_and_then (erun_first blocks m) (onward blocks x)

-- the start of a program whose first block is b: its data, no registers, that block entered
abbrev pub begun : TProg → TBlock → ERun
begun P b = EOn (EAt (erase_heap P) no_ewords (erase_block b)) (Spot 0 0) (0 ∷ [])

-- the erased machine halts with i after at most n steps
abbrev pub EHaltsWithin : List ESeq → ERun → ℕ → ℤ → Type 0
EHaltsWithin blocks x n i =
    (m : ℕ) × (e : EState) × (p : Place) × (log : List ℕ) × (m ≤ n) × (erun blocks m x ≡ Some (EOn e p log))
    × EHaltedWith e i

-- The laws.

-- a run of the typed machine is one of the erased machine, with the same place and entries
abbrev pub RunsErase : Type 0
RunsErase =
    (P : TProg) → WellFormedProgram P → Accepted P → (b : TBlock) → slice_get P.blocks 0 ≡ Some b →
    (m : ℕ) (s : State) (p : Place) (run : After P m s p) →
    erun (erase_blocks P) m (begun P b) ≡ Some (EOn (erase s) p (entries P m s p run))

-- and each run of the erased machine comes of one
abbrev pub RunsComeOf : Type 0
RunsComeOf =
    (P : TProg) → WellFormedProgram P → Accepted P → (b : TBlock) → slice_get P.blocks 0 ≡ Some b →
    (m : ℕ) (e : EState) (p : Place) (log : List ℕ) →
    erun (erase_blocks P) m (begun P b) ≡ Some (EOn e p log) → (s : State) × (run : After P m s p) × (e ≡ erase s)
    × (log ≡ entries P m s p run)

-- a program halts with i within n steps exactly where its erasure does
abbrev pub HaltsErased : Type 0
HaltsErased =
    (P : TProg) → WellFormedProgram P → Accepted P → (b : TBlock) → slice_get P.blocks 0 ≡ Some b → (n : ℕ) (i : ℤ) →
    HaltsWithin P n i ↔ EHaltsWithin (erase_blocks P) (begun P b) n i

-- m steps and then n are m + n steps
abbrev pub RunsJoin : Type 0
RunsJoin = (blocks : List ESeq) (m n : ℕ) (x : ERun) →
    erun blocks (m + n) x ≡ option_and_then (erun blocks n) (erun blocks m x)

-- which step is made first is one
abbrev pub StepsFirst : Type 0
StepsFirst = (blocks : List ESeq) (m : ℕ) (x : ERun) → erun_first blocks m x ≡ erun blocks m x

-- no state comes after a halted one
abbrev pub ErasedHaltingIsLast : Type 0
ErasedHaltingIsLast =
    (blocks : List ESeq) (x : ERun) (m n : ℕ) (e : EState) (p : Place) (log : List ℕ) (i : ℤ) →
    erun blocks m x ≡ Some (EOn e p log) → EHaltedWith e i → m < n → erun blocks n x ≡ None

-- two runs of m steps start their steps at the same places, and enter the same blocks
abbrev pub RunsCountAlike : Type 0
RunsCountAlike =
    (P : TProg) (m : ℕ) (s t : State) (p q : Place) (run : After P m s p) (other : After P m t q) →
    (places P m s p run ≡ places P m t q other) × (entries P m s p run ≡ entries P m t q other)
