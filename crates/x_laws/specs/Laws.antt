-- The pass from word code as a whole, and what it keeps.
use Rattle.std.specs.Prelude.{◌≡◌, ◌⊎◌, ℕ, true, ◌+◌, ◌<◌, ◌^◌, ◌%◌, ℤ, List, [], ◌∷◌, length, Some, slice_get}
use Rattle.x_terms.specs.Machine.{Image, State, Answer, Call, Outcome, Next, Exits as Ended, Stuck, is_word, run}
use Rattle.x_terms.specs.Told.{AllWritten, PartWritten, CutShort}
use Rattle.x_terms.specs.Process.{Ends}
use Rattle.x_laws.specs.Core.{core}
use Rattle.x_laws.specs.Homes.{Home, held, AreHomes}
use Rattle.x_laws.specs.Code.{write_failed, seq_code}
use Rattle.x_laws.specs.Layout.{place_from, program_code}
use Rattle.x_laws.specs.Going.{AllFit, IsSeq}
use Rattle.w_terms.specs.Tree.{WSeq, WProg}
use Rattle.w_terms.specs.Machine.{WRegs, Written, Put, Exits, NeverSticks, Places, start_memory}

-- where the labels of a program stand whose code is the image's
abbrev pub places : Image → (ℕ → Home) → WProg → ℕ → ℕ
places m homes p = place_from homes m.code_at p.blocks

-- what the registers of word code hold in a state
abbrev pub held_words : (ℕ → Home) → State → WRegs
held_words homes s q = held (core s) (homes q)

-- The code of the program stands in the image (jumps and numbers fit, instructions are of registers below n), its
-- registers have homes, and its words stand in the data in the state s, where the process begins.
pub record IsCompiled (m : Image) (n : ℕ) (homes : ℕ → Home) (p : WProg) (s : State) : Type 0 where
  pub code : m.code ≡ program_code homes m.code_at p.blocks
  pub small : m.code_at + length m.code < 2 ^ 64
  pub low : m.data_end < 2 ^ 64
  pub fit : (l : ℕ) (c : WSeq) → slice_get p.blocks l ≡ Some c →
      AllFit (seq_code homes (places m homes p) (places m homes p l) c)
  pub fine : (l : ℕ) (c : WSeq) → slice_get p.blocks l ≡ Some c → IsSeq n c
  pub homes_are : AreHomes m (start_memory (places m homes p) p) n homes
  pub words : (a w : ℕ) → start_memory (places m homes p) p a ≡ Some w →
      (is_word m a ≡ true) × (a < 2 ^ 64) × (s.memory a ≡ w)
  pub here : s.place ≡ places m homes p 0
  pub silent : s.calls ≡ []

-- How the process ends where word code exits with a status and has written so much: with this status (of which the
-- system keeps eight bits), all being written, or with the one for a failed write.
abbrev pub EndsLike : ℕ → List Written → ℕ → List Call → Type 0
EndsLike status [] k calls = (k ≡ status % 256) × (calls ≡ [])
EndsLike status (Put file bytes ∷ []) k calls =
    ((k ≡ status % 256) × AllWritten file bytes calls) ⊎ ((k ≡ write_failed file) × CutShort file bytes calls)
EndsLike status _ k calls = ⊥

-- what was written before such an end
abbrev pub ToldLike : List Written → List Call → Type 0
ToldLike [] calls = calls ≡ []
ToldLike (Put file bytes ∷ []) calls = PartWritten file bytes calls
ToldLike _ calls = ⊥

module _ (place : ℕ → ℕ) (p : WProg) (r : WRegs) where
  -- Word code that begins with these registers allows this of a process: to go on, having written nothing, or a part of
  -- what word code writes until it exits; and to end as word code exits.
  abbrev pub IsAllowed : Outcome → Type 0
  IsAllowed (Next t) =
      (t.calls ≡ []) ⊎ ((status : ℕ) × (out : List Written) × Exits place p r status out × ToldLike out t.calls)
  IsAllowed (Ended k calls) =
      (status : ℕ) × (out : List Written) × Exits place p r status out × EndsLike status out k calls
  IsAllowed Stuck = ⊥

  -- The process does what word code does, whatever the system answers: it does nothing else, and ends where word code
  -- exits.
  pub record BehavesAs (m : Image) (s : State) : Type 0 where
    pub back : (world : ℕ → Answer) (k : ℕ) → IsAllowed (run m world k s)
    pub forth : (world : ℕ → Answer) (status : ℕ) (out : List Written) → Exits place p r status out →
        (k : ℕ) × (calls : List Call) × Ends m world s k calls × EndsLike status out k calls

-- Compiled code of word code that is never stuck behaves as it.
abbrev pub CompiledCodeBehaves : Type 0
CompiledCodeBehaves =
    (m : Image) (n : ℕ) (homes : ℕ → Home) (p : WProg) (s : State) → IsCompiled m n homes p s →
    (c : WSeq) → slice_get p.blocks 0 ≡ Some c → NeverSticks (places m homes p) p (held_words homes s) →
    BehavesAs (places m homes p) p (held_words homes s) m s

-- The places of its labels are those that word code asks for: words, and no two alike.
abbrev pub CompiledCodeHasPlaces : Type 0
CompiledCodeHasPlaces =
    (m : Image) (n : ℕ) (homes : ℕ → Home) (p : WProg) (s : State) → IsCompiled m n homes p s →
    Places (places m homes p) p

-- Word code halts with what a program halts with, or for want of memory, and is never stuck.
pub record MeansSo (halts : ℤ → Type 0) (line : ℤ → List ℕ) (full_line : List ℕ) (place : ℕ → ℕ) (p : WProg)
    (r : WRegs) : Type 0 where
  pub forth : (i : ℤ) → halts i →
      Exits place p r 0 (Put 1 (line i) ∷ []) ⊎ Exits place p r 7 (Put 2 full_line ∷ [])
  pub back : (status : ℕ) (out : List Written) → Exits place p r status out →
      ((i : ℤ) × halts i × (status ≡ 0) × (out ≡ Put 1 (line i) ∷ [])) ⊎ ((status ≡ 7) × (out ≡ Put 2 full_line ∷ []))
  pub goes_on : NeverSticks place p r
