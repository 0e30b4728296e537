-- What it means that a process does what a program does: one that halts with an integer, or goes on for ever. The
-- process ends with status 0 and the integer's line on the standard output, or with 6 where the system does not take
-- all of that line; or with 7 for want of memory, and a line of its own on the error output. It ends in no other way.
use Rattle.std.specs.Prelude.{◌≡◌, ◌⊎◌, ℕ, ℤ, List, []}
use Rattle.x_terms.specs.Machine.{Image, State, Answer, Call, Outcome, Next, Exits, Stuck, run}
use Rattle.x_terms.specs.Told.{AllWritten, PartWritten, CutShort}

-- after some steps the process has ended with this status and these calls, where the system answers so
abbrev pub Ends : Image → (ℕ → Answer) → State → ℕ → List Call → Type 0
Ends m world s status calls = (k : ℕ) × (run m world k s ≡ Exits status calls)

-- with the line: all of it was written, or the system did not take all
abbrev pub EndsWithLine : Image → (ℕ → Answer) → State → List ℕ → Type 0
EndsWithLine m world s line =
    ((calls : List Call) × Ends m world s 0 calls × AllWritten 1 line calls)
    ⊎ ((calls : List Call) × Ends m world s 6 calls × CutShort 1 line calls)

-- for want of memory: its line was written to the error output, or as much of it as the system took
abbrev pub ToldFull : List ℕ → List Call → Type 0
ToldFull line calls = AllWritten 2 line calls ⊎ CutShort 2 line calls

abbrev pub EndsFull : Image → (ℕ → Answer) → State → List ℕ → Type 0
EndsFull m world s line = (calls : List Call) × Ends m world s 7 calls × ToldFull line calls

module _ (halts : ℤ → Type 0) (line : ℤ → List ℕ) (full_line : List ℕ) where
  -- what was written while the process runs: nothing so far, or a first part of the line with which it ends
  abbrev pub ToldSoFar : List Call → Type 0
  ToldSoFar calls =
      (calls ≡ []) ⊎ ((i : ℤ) × halts i × PartWritten 1 (line i) calls) ⊎ PartWritten 2 full_line calls

  -- each end, by its status
  abbrev pub EndedSo : ℕ → List Call → Type 0
  EndedSo status calls =
      ((i : ℤ) × halts i × (status ≡ 0) × AllWritten 1 (line i) calls)
      ⊎ ((i : ℤ) × halts i × (status ≡ 6) × CutShort 1 (line i) calls)
      ⊎ ((status ≡ 7) × ToldFull full_line calls)

  -- what comes of a process: it is never stuck
  abbrev pub IsSound : Outcome → Type 0
  IsSound (Next s) = ToldSoFar s.calls
  IsSound (Exits status calls) = EndedSo status calls
  IsSound Stuck = ⊥

  -- The state s of the image is the start of a process of the program that halts with the integers that `halts` says,
  -- of which it writes the lines, or ends with the full line where memory runs out. This holds whatever the system
  -- answers.
  pub record IsProcessOf (m : Image) (s : State) : Type 0 where
    -- After any number of steps it goes on, and has written nothing but these lines, or has ended. Where it has ended
    -- with 0 or 6, the program halts with the integer of the line.
    pub back : (world : ℕ → Answer) (k : ℕ) → IsSound (run m world k s)
    -- Where the program halts with an integer, the process ends with its line, or for want of memory.
    pub forth : (world : ℕ → Answer) (i : ℤ) → halts i →
        EndsWithLine m world s (line i) ⊎ EndsFull m world s full_line
    -- Where the program does not halt, the process goes on after any number of steps, or ends for want of memory.
    pub goes_on : (world : ℕ → Answer) → ((i : ℤ) → halts i → ⊥) → (k : ℕ) →
        ((t : State) × (run m world k s ≡ Next t)) ⊎ EndsFull m world s full_line
