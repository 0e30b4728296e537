-- The exact rules of the sink in memory.
use Rattle.std.specs.Prelude.{◌≡◌, ℕ, List, [], ◌++◌, take, Option, Some, None, IsSomeAnd, Result, Ok, Err}
use Rattle.io_core.specs.declared.outside.Stop.{Stop}
use Rattle.io_core.specs.declared.outside.Stop.TheVariants.{Memory, Failed}
use Rattle.io_core.specs.Outside.{SinkState}
use Rattle.io_core.specs.Failing.{failing_at, counted}

-- the bytes taken, the puts that fail, the number of the next put, how often a put has failed, and how often one has
-- wanted memory
pub record MemSinkState : Type 0 where
  pub taken : List ℕ
  pub failing : List (ℕ × ℕ)
  pub next : ℕ
  pub faults : ℕ
  pub wants : ℕ

-- a sink of which no call was made
abbrev pub fresh_sink : List (ℕ × ℕ) → MemSinkState
fresh_sink failing = record { taken = []; failing = failing; next = 0; faults = 0; wants = 0 }

-- what the sink tells: all that it has taken
abbrev pub sink_state : MemSinkState → SinkState
sink_state s = record { taken = Some s.taken; faults = s.faults; wants = s.wants }

-- what the list says of the next put
abbrev pub next_failing : MemSinkState → Option ℕ
next_failing s = failing_at s.failing s.next

-- the same sink after a put that took its number
abbrev pub called : MemSinkState → MemSinkState
called s = record s { next = counted s.next }

-- a put takes the piece; fails where the list says so, which is counted, and takes the first bytes; or wants memory,
-- which is counted, and takes no number
abbrev pub MemPuts : MemSinkState → MemSinkState → List ℕ → Result (Unit {0}) Stop → Type 0
MemPuts old new bytes (Ok done) = (next_failing old ≡ None) × (new ≡ record (called old) { taken = old.taken ++ bytes })
MemPuts old new bytes (Err Failed) =
    IsSomeAnd (next_failing old)
    (λ most. new ≡ record (called old) { taken = old.taken ++ take most bytes; faults = counted old.faults })
MemPuts old new bytes (Err Memory) = new ≡ record old { wants = counted old.wants }
