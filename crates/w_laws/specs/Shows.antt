-- Which registers and which memory of word code show a state of the erased machine.
use Rattle.std.specs.Prelude.{◌≡◌, ℕ, ◌<◌, Some}
use Rattle.t_rules.specs.Erase.{EWord, EHeap, ERegs}
use Rattle.w_terms.specs.Machine.{WRegs, Memory}
use Rattle.w_runtime.specs.Blocks.{Layout}
use Rattle.w_rooms.specs.Rooms.{Represents}
use Rattle.w_rooms.specs.Rooms as rooms

-- The memory of a program: where its parts stand, how many data tuples and how many registers it has, and the words of
-- the start, of which those below the roots never change.
pub record Zone : Type 0 where
  pub layout : Layout
  pub fixed : ℕ
  pub many : ℕ
  pub own : Memory

module _ (place : ℕ → ℕ) (zone : Zone) (at : ℕ → ℕ) where
  -- the word that stands for an erased word, in a heap of so many tuples, where at has the address of each
  abbrev pub IsWord : ℕ → EWord → ℕ → Type 0
  IsWord = rooms.IsWord place zone.layout zone.fixed at

  -- Registers and memory stand for an erased state, of which no register but the first ones has a word. The words of
  -- the runtime that do not change are those of the start.
  pub record Shows (h : EHeap) (r : ERegs) (R : WRegs) (m : Memory) : Type 0 where
    pub represents : Represents place zone.layout zone.fixed at h r R m
    pub named : (q : ℕ) (w : EWord) → r q ≡ Some w → q < zone.many
    pub still : (a : ℕ) → a < zone.layout.roots → m a ≡ zone.own a
