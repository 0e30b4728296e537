-- The exact rules of the files in memory.
use Rattle.std.specs.Prelude.{◌≡◌, ℕ, List, [], ◌∷◌, ◌++◌, map, take, Option, Some, None, IsSomeAnd, MatchOption}
use Rattle.std.specs.Prelude.{Result, Ok, Err, Vec, String, string_bytes, refl}
use Rattle.std.specs.BTreeMap.{BTreeMap}
use Rattle.std.specs.Coded.{Coded, code_by, coded×, coded_ℕ, coded_list}
use Rattle.std.specs.FinMap.{get, insert, from_entries}
use Rattle.std.specs.declared.alloc.Global.{Global}
use Rattle.io_core.specs.declared.outside.Stop.{Stop}
use Rattle.io_core.specs.declared.outside.Stop.TheVariants.{Memory, Failed}
use Rattle.io_core.specs.declared.calls.MadeCall.{MadeCall}
use Rattle.io_core.specs.declared.calls.MadeCall.TheVariants.{Read, Write}
use Rattle.io_core.specs.Outside.{FileMap, FilesState, Call, Reading, Writing, file_map_code, call_code}
use Rattle.io_core.specs.Failing.{failing_at, counted}

-- an ordered map of texts and contents, as the finite map of their bytes
abbrev pub file_map : BTreeMap (String Global) (Vec ℕ Global) → FileMap
file_map files = from_entries (map (λ e. (string_bytes e.0, e.1.items)) files.entries)

-- the call that was noted
abbrev pub noted_call : MadeCall → Call
noted_call (Read name) = Reading (string_bytes name)
noted_call (Write name bytes) = Writing (string_bytes name) bytes.items

-- the files, the calls that fail, the number of the next call, how often a read and a write have failed, and the calls
-- made so far
pub record MemFilesState : Type 0 where
  pub files : FileMap
  pub failing : List (ℕ × ℕ)
  pub next : ℕ
  pub reads : ℕ
  pub writes : ℕ
  pub calls : List Call

abbrev pub mem_files_code : Coded MemFilesState
mem_files_code =
    code_by (FileMap × (List (ℕ × ℕ) × (ℕ × (ℕ × (ℕ × List Call)))))
    (coded× file_map_code (coded× (coded_list (coded× coded_ℕ coded_ℕ))
    (coded× coded_ℕ (coded× coded_ℕ (coded× coded_ℕ (coded_list call_code))))))
    (λ m. (m.files, (m.failing, (m.next, (m.reads, (m.writes, m.calls))))))
    (λ p. record {
      files = p.0;
      failing = p.1.0;
      next = p.1.1.0;
      reads = p.1.1.1.0;
      writes = p.1.1.1.1.0;
      calls = p.1.1.1.1.1;
    }) (λ _. refl)

-- files of which no call was made
abbrev pub fresh_files : FileMap → List (ℕ × ℕ) → MemFilesState
fresh_files files failing =
    record { files = files; failing = failing; next = 0; reads = 0; writes = 0; calls = [] }

-- what the files tell: all of their content, and all calls
abbrev pub files_state : MemFilesState → FilesState
files_state m = record { told = Some m.files; reads = m.reads; writes = m.writes; calls = Some m.calls }

-- what the list says of the next call
abbrev pub next_failing : MemFilesState → Option ℕ
next_failing m = failing_at m.failing m.next

-- the same files after a call that took its number, and was noted
abbrev pub called : Call → MemFilesState → MemFilesState
called call m = record m { next = counted m.next; calls = m.calls ++ (call ∷ []) }

-- a read gives the content; fails where the list says so, which is counted, or the name is absent; or takes no number
abbrev pub MemReads : MemFilesState → MemFilesState → List ℕ → Result (Vec ℕ Global) Stop → Type 0
MemReads old new name (Ok bytes) =
    (next_failing old ≡ None) × (get old.files name ≡ Some bytes.items) × (new ≡ called (Reading name) old)
MemReads old new name (Err Failed) =
    MatchOption (next_failing old) ((get old.files name ≡ None) × (new ≡ called (Reading name) old))
    (λ _. new ≡ record (called (Reading name) old) { reads = counted old.reads })
MemReads old new name (Err Memory) = new ≡ old

-- a write sets the name; fails where the list says so, which is counted, and leaves the first bytes; or takes no number
abbrev pub MemWrites : MemFilesState → MemFilesState → List ℕ → List ℕ → Result (Unit {0}) Stop → Type 0
MemWrites old new name bytes (Ok done) =
    (next_failing old ≡ None) × (new ≡ record (called (Writing name bytes) old) { files = insert old.files name bytes })
MemWrites old new name bytes (Err Failed) =
    IsSomeAnd (next_failing old)
    (λ most. new ≡ record (called (Writing name bytes) old) {
      files = insert old.files name (take most bytes);
      writes = counted old.writes;
    })
MemWrites old new name bytes (Err Memory) = new ≡ old
