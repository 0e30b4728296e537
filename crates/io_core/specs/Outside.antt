-- What the calls of files and of a sink do.
use Rattle.std.specs.Prelude.{◌≡◌, ◌≢◌, ◌⊎◌, ℕ, ◌<◌, ◌≤◌, List, [], ◌∷◌, ◌++◌, Option, Some, None, IfSome, refl}
use Rattle.std.proofs.Common.{inl, inr}
use Rattle.std.specs.Prelude.{Result, Ok, Err, Vec}
use Rattle.std.specs.Option.{option_map}
use Rattle.std.specs.Ordering.{nat_cmp}
use Rattle.std.specs.Cmp.Lexicographic.{slice_cmp}
use Rattle.std.specs.Coded.{Coded, code_by, coded×, coded⊎, coded_ℕ, coded_list, coded_option}
use Rattle.std.specs.FinMap as map
use Rattle.std.specs.FinMap.{FinMap, get, insert}
use Rattle.std.specs.declared.alloc.Global.{Global}
use Rattle.io_core.specs.declared.outside.Stop.{Stop}
use Rattle.io_core.specs.declared.outside.Stop.TheVariants.{Memory, Failed}

-- a finite map from names to contents, both as bytes
abbrev pub FileMap : Type 0
FileMap = FinMap (slice_cmp nat_cmp) (List ℕ)

-- a call of files: the content of a name was asked for, or the name was to be set to these bytes
pub data Call : Type 0 where
  Reading : (name : List ℕ) → Call
  Writing : (name bytes : List ℕ) → Call

-- the map, where it is told; how often a read and a write have failed; and the calls made so far, the first one first,
-- where they are told: all but those that wanted memory
pub record FilesState : Type 0 where
  pub told : Option FileMap
  pub reads : ℕ
  pub writes : ℕ
  pub calls : Option (List Call)

-- the bytes taken, where they are told, how often a put has failed, and how often one has wanted memory
pub record SinkState : Type 0 where
  pub taken : Option (List ℕ)
  pub faults : ℕ
  pub wants : ℕ

-- how a proof tells two file maps, and two states of files, apart
abbrev pub file_map_code : Coded FileMap
file_map_code = map.code (coded_list coded_ℕ) (coded_list coded_ℕ)

abbrev pub call_parts : Call → List ℕ ⊎ (List ℕ × List ℕ)
call_parts (Reading name) = inl name
call_parts (Writing name bytes) = inr (name, bytes)

abbrev pub call_of_parts : List ℕ ⊎ (List ℕ × List ℕ) → Call
call_of_parts (inl name) = Reading name
call_of_parts (inr both) = Writing both.0 both.1

abbrev pub call_again : (c : Call) → call_of_parts (call_parts c) ≡ c
call_again (Reading name) = refl
call_again (Writing name bytes) = refl

abbrev pub call_code : Coded Call
call_code =
    code_by (List ℕ ⊎ (List ℕ × List ℕ))
    (coded⊎ (coded_list coded_ℕ) (coded× (coded_list coded_ℕ) (coded_list coded_ℕ))) call_parts call_of_parts call_again

abbrev pub files_code : Coded FilesState
files_code =
    code_by (Option FileMap × (ℕ × (ℕ × Option (List Call))))
    (coded× (coded_option file_map_code) (coded× coded_ℕ (coded× coded_ℕ (coded_option (coded_list call_code)))))
    (λ s. (s.told, (s.reads, (s.writes, s.calls))))
    (λ p. record { told = p.0; reads = p.1.0; writes = p.1.1.0; calls = p.1.1.1 }) (λ _. refl)

-- the last value of a counter of 64 bits
abbrev pub last_count : ℕ
last_count = 18446744073709551615

-- the counter rose, or it stands at its last value
abbrev pub Rose : ℕ → ℕ → Type 0
Rose before after = (before < after) ⊎ (after ≡ last_count)

-- a fault was counted
abbrev pub Faulted : ℕ → ℕ → Type 0
Faulted before after = Rose before after

-- the told map has no such name
abbrev pub IsAbsent : Option FileMap → List ℕ → Type 0
IsAbsent None name = ⊥
IsAbsent (Some files) name = get files name ≡ None

-- where a map is told, it has this content at the name
abbrev pub Holds : Option FileMap → List ℕ → List ℕ → Type 0
Holds told name bytes = IfSome told (λ files. get files name ≡ Some bytes)

-- the new map is the old one with the name set to the bytes; none is told where none was
abbrev pub with_file : Option FileMap → List ℕ → List ℕ → Option FileMap
with_file told name bytes = option_map (λ files. insert files name bytes) told

-- one call more, where they are told
abbrev pub with_call : Option (List Call) → Call → Option (List Call)
with_call calls call = option_map (λ before. before ++ (call ∷ [])) calls

-- both maps are told, or none, and every other name is as before
abbrev pub SameBut : List ℕ → Option FileMap → Option FileMap → Type 0
SameBut name None new = new ≡ None
SameBut name (Some files) new =
    (changed : FileMap) × (new ≡ Some changed)
    × ((other : List ℕ) → other ≢ name → get changed other ≡ get files other)

-- a read gives the whole content, or fails by a counted fault or since the name is absent, and is one call more; or it
-- wants memory and changes nothing
abbrev pub IsRead : FilesState → FilesState → List ℕ → Result (Vec ℕ Global) Stop → Type 0
IsRead old new name (Ok bytes) =
    Holds old.told name bytes.items × (new.told ≡ old.told) × (old.reads ≤ new.reads) × (new.writes ≡ old.writes)
    × (new.calls ≡ with_call old.calls (Reading name))
IsRead old new name (Err Failed) =
    (Faulted old.reads new.reads ⊎ IsAbsent old.told name)
    × (new.told ≡ old.told) × (old.reads ≤ new.reads) × (new.writes ≡ old.writes)
    × (new.calls ≡ with_call old.calls (Reading name))
IsRead old new name (Err Memory) = new ≡ old

-- a write sets that name alone, or fails by a counted fault and leaves every other name, and is one call more; or it
-- wants memory and changes nothing
abbrev pub IsWrite : FilesState → FilesState → List ℕ → List ℕ → Result (Unit {0}) Stop → Type 0
IsWrite old new name bytes (Ok done) =
    (new.told ≡ with_file old.told name bytes) × (old.writes ≤ new.writes) × (new.reads ≡ old.reads)
    × (new.calls ≡ with_call old.calls (Writing name bytes))
IsWrite old new name bytes (Err Failed) =
    Faulted old.writes new.writes × SameBut name old.told new.told
    × (old.writes ≤ new.writes) × (new.reads ≡ old.reads)
    × (new.calls ≡ with_call old.calls (Writing name bytes))
IsWrite old new name bytes (Err Memory) = new ≡ old

-- these bytes went onto what was told
abbrev pub gained : Option (List ℕ) → List ℕ → Option (List ℕ)
gained taken bytes = option_map (λ before. before ++ bytes) taken

-- some first bytes of these went onto what was told
abbrev pub GainedPart : Option (List ℕ) → List ℕ → Option (List ℕ) → Type 0
GainedPart old bytes new = (part rest : List ℕ) × (part ++ rest ≡ bytes) × (new ≡ gained old part)

-- the sink has taken no more, and no fault was counted
abbrev pub IsUnput : SinkState → SinkState → Type 0
IsUnput old new = (new.taken ≡ old.taken) × (new.faults ≡ old.faults)

-- a put wanted memory, which was counted, and nothing else has changed
abbrev pub WantedMemory : SinkState → SinkState → Type 0
WantedMemory old new = Rose old.wants new.wants × IsUnput old new

-- a put takes the whole piece, or fails by a counted fault and takes a first part, or wants memory
abbrev pub IsPut : SinkState → SinkState → List ℕ → Result (Unit {0}) Stop → Type 0
IsPut old new bytes (Ok done) =
    (new.taken ≡ gained old.taken bytes) × (old.faults ≤ new.faults) × (new.wants ≡ old.wants)
IsPut old new bytes (Err Failed) =
    Faulted old.faults new.faults × GainedPart old.taken bytes new.taken × (old.faults ≤ new.faults)
    × (new.wants ≡ old.wants)
IsPut old new bytes (Err Memory) = WantedMemory old new
