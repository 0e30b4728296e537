-- What a call of the compiler does, by its status.
use Rattle.std.specs.Prelude.{◌≡◌, ◌⊎◌, ℕ, List, MatchOption}
use Rattle.io_core.specs.Outside.{FilesState, SinkState, Faulted, IsAbsent, Holds, SameBut, Reading, Writing}
use Rattle.io_core.specs.Outside.{with_file, with_call, gained, GainedPart, IsUnput, WantedMemory}
use Rattle.talc_core.specs.declared.status.Status.{Status}
use Rattle.talc_core.specs.declared.status.Status.TheVariants.{Done, Refused, Usage, Limit}
use Rattle.talc_core.specs.declared.status.Status.TheVariants.{Budget, ReadFault, WriteFault, Memory}
use Rattle.talc_core.specs.declared.fault.Fault.{Fault}
use Rattle.talc_core.specs.Fault.{status_of}
use Rattle.talc_core.specs.FirstFault.{Need, AnyText, AnyTerm, AProgram, CellFree, AnAssembly, FirstFault}
use Rattle.talc_core.specs.CompiledText.{CompiledText, CompiledTextWithin}
use Rattle.talc_core.specs.Upgraded.{IsUpgraded}
use Rattle.talc_core.specs.NativeText.{IsNativeText}
use Rattle.talc_core.specs.NativeListing.{ShowsNativeListing}
use Rattle.f_seeds.specs.Source.{source}
use Rattle.talc_core.specs.Shown.{Showing, ShowsType, ShowsValue, ShowsAccepted, ShowsRun, ShowsTrace, ShowsCost}
use Rattle.talc_core.specs.Shown.{SeedShown}
use Rattle.talc_core.specs.FormShown.{ShowsForm}
use Rattle.talc_core.specs.Explained.{ShowsExplained}
use Rattle.talc_core.specs.Listed.{ListingShown, FaultListed, ShowsListed}
use Rattle.talc_core.specs.Binding.{ShowsTypes}
use Rattle.talc_core.specs.OnTexts.{Making}
use Rattle.talc_core.specs.Command.{Asked, Compiles, CompilesWithin, Types, Evaluates, Checks, Runs, Generates}
use Rattle.talc_core.specs.Command.{Upgrades, Traces, Shows, Explains, Lists, Costs, TypesNames, Builds}
use Rattle.talc_core.specs.Command.{Disassembles, command_of}
use Rattle.talc_core.specs.Lines.{fault_line, read_line, write_line, memory_line}

-- what the call reaches: the files, the output and the error output
pub record Outside : Type 0 where
  pub files : FilesState
  pub out : SinkState
  pub err : SinkState

-- the sink took the line; a first part of it where its count rose or stands at its last value
abbrev pub TakesLine : SinkState → SinkState → List ℕ → Type 0
TakesLine old new line =
    (new.taken ≡ gained old.taken line) ⊎ (Faulted old.faults new.faults × GainedPart old.taken line new.taken)

-- the same; or the put wanted memory, which the sink has counted, and it took nothing
abbrev pub TakesLineOrNot : SinkState → SinkState → List ℕ → Type 0
TakesLineOrNot old new line = WantedMemory old new ⊎ TakesLine old new line

-- no file is written: what is told of the files is as before, and so is the count of writes that failed, which any
-- write might raise, also where no content is told
abbrev pub Unwritten : FilesState → FilesState → Type 0
Unwritten old new = (new.told ≡ old.told) × (new.writes ≡ old.writes)

-- no file is read: the count of reads that failed, which any read might raise, is as before
abbrev pub Unread : FilesState → FilesState → Type 0
Unread old new = new.reads ≡ old.reads

-- The calls of the files, where they are told. The input was read, once, and no other call was made.
abbrev pub ReadAlone : (input : List ℕ) → FilesState → FilesState → Type 0
ReadAlone input old new = new.calls ≡ with_call old.calls (Reading input)

-- this text was written to the output, once, and no other call was made
abbrev pub WrittenAlone : (output text : List ℕ) → FilesState → FilesState → Type 0
WrittenAlone output text old new = new.calls ≡ with_call old.calls (Writing output text)

-- the input was read, then this text was written to the output, and no other call was made
abbrev pub ReadThenWritten : (input output text : List ℕ) → FilesState → FilesState → Type 0
ReadThenWritten input output text old new =
    new.calls ≡ with_call (with_call old.calls (Reading input)) (Writing output text)

-- no call was made, or the input was read and no other call was made
abbrev pub AtMostRead : (input : List ℕ) → FilesState → FilesState → Type 0
AtMostRead input old new = (new.calls ≡ old.calls) ⊎ ReadAlone input old new

-- ---- what several commands do

-- 1 and 3: the input's text has this first fault, which leads to this status; the line names it, and no file is written
pub record TextRefused (status : Status) (need : Need) (input : List ℕ) (old new : Outside) : Type 0 where
  pub source : List ℕ
  pub fault : Fault
  pub read : Holds old.files.told input source
  pub first : FirstFault need source fault
  pub leads : status_of fault ≡ status
  pub line : TakesLine old.err new.err (fault_line fault)
  pub out : new.out ≡ old.out
  pub files : Unwritten old.files new.files
  pub calls : ReadAlone input old.files new.files

-- 5: the count of reads rose or stands at its last value, or there is no such file; no file is written
pub record NotRead (input : List ℕ) (old new : Outside) : Type 0 where
  pub cause : Faulted old.files.reads new.files.reads ⊎ IsAbsent old.files.told input
  pub line : TakesLine old.err new.err read_line
  pub out : new.out ≡ old.out
  pub files : Unwritten old.files new.files
  pub calls : ReadAlone input old.files new.files

-- 7: no file is written
pub record OutOfMemory (input : List ℕ) (old new : Outside) : Type 0 where
  pub line : TakesLineOrNot old.err new.err memory_line
  pub out : IsUnput old.out new.out
  pub files : Unwritten old.files new.files
  pub calls : AtMostRead input old.files new.files

-- ---- the commands that write a text made of another

-- 0: the output's file is set to what the command makes of the input's text, and nothing else is done
pub record TextWritten (Makes : Making) (input output : List ℕ) (old new : Outside) : Type 0 where
  pub source : List ℕ
  pub target : List ℕ
  pub read : Holds old.files.told input source
  pub made : Makes source target
  pub written : new.files.told ≡ with_file old.files.told output target
  pub out : new.out ≡ old.out
  pub err : new.err ≡ old.err
  pub calls : ReadThenWritten input output target old.files new.files

-- 6: the text was made, and the count of writes rose or stands at its last value; every other file is as before
pub record TextNotWritten (Makes : Making) (input output : List ℕ) (old new : Outside) : Type 0 where
  pub source : List ℕ
  pub target : List ℕ
  pub read : Holds old.files.told input source
  pub made : Makes source target
  pub cause : Faulted old.files.writes new.files.writes
  pub line : TakesLineOrNot old.err new.err write_line
  pub out : new.out ≡ old.out
  pub files : SameBut output old.files.told new.files.told
  pub calls : ReadThenWritten input output target old.files new.files

-- what such a command does, which needs this of the text; other statuses never come
abbrev pub TextAnswer : Making → Need → List ℕ → List ℕ → Outside → Outside → Status → Type 0
TextAnswer Makes need input output old new Done = TextWritten Makes input output old new
TextAnswer Makes need input output old new Refused = TextRefused Refused need input old new
TextAnswer Makes need input output old new Limit = TextRefused Limit need input old new
TextAnswer Makes need input output old new ReadFault = NotRead input old new
TextAnswer Makes need input output old new WriteFault = TextNotWritten Makes input output old new
TextAnswer Makes need input output old new Memory = OutOfMemory input old new
TextAnswer Makes need input output old new other = ⊥

-- ---- the commands that show a line

-- 0 and 4: the line, or the lines, are on the output, and nothing else is done: no file is written
pub record LineShown (Says : List ℕ → List ℕ → Type 0) (input : List ℕ) (old new : Outside) : Type 0 where
  pub source : List ℕ
  pub line : List ℕ
  pub read : Holds old.files.told input source
  pub says : Says source line
  pub out : new.out.taken ≡ gained old.out.taken line
  pub err : new.err ≡ old.err
  pub files : Unwritten old.files new.files
  pub calls : ReadAlone input old.files new.files

-- 6: the output's count rose or stands at its last value, and it has taken a first part of the line
pub record LineNotShown (Says : Showing) (input : List ℕ) (old new : Outside) : Type 0 where
  pub source : List ℕ
  pub shown : List ℕ
  pub ending : Status
  pub read : Holds old.files.told input source
  pub says : Says ending source shown
  pub cause : Faulted old.out.faults new.out.faults
  pub line : TakesLineOrNot old.err new.err write_line
  pub out : GainedPart old.out.taken shown new.out.taken
  pub files : Unwritten old.files new.files
  pub calls : ReadAlone input old.files new.files

-- what such a command does, which needs this of the text and may show these lines
abbrev pub LineAnswer : Showing → Need → List ℕ → Outside → Outside → Status → Type 0
LineAnswer Says need input old new Done = LineShown (Says Done) input old new
LineAnswer Says need input old new Budget = LineShown (Says Budget) input old new
LineAnswer Says need input old new Refused = TextRefused Refused need input old new
LineAnswer Says need input old new Limit = TextRefused Limit need input old new
LineAnswer Says need input old new ReadFault = NotRead input old new
LineAnswer Says need input old new WriteFault = LineNotShown Says input old new
LineAnswer Says need input old new Memory = OutOfMemory input old new
LineAnswer Says need input old new Usage = ⊥

-- ---- the command `listing`

-- 1 and 3: as for any command, but that the listing up to the fault, with its page, is on the output
pub record ListedRefused (status : Status) (input : List ℕ) (old new : Outside) : Type 0 where
  pub source : List ℕ
  pub fault : Fault
  pub shown : List ℕ
  pub read : Holds old.files.told input source
  pub listed : FaultListed input source fault shown
  pub leads : status_of fault ≡ status
  pub line : TakesLine old.err new.err (fault_line fault)
  pub out : new.out.taken ≡ gained old.out.taken shown
  pub files : Unwritten old.files new.files
  pub calls : ReadAlone input old.files new.files

-- the listing up to the first fault of the input's text, with its page, is on the output
pub record FaultPut (input : List ℕ) (old new : Outside) : Type 0 where
  pub source : List ℕ
  pub fault : Fault
  pub shown : List ℕ
  pub read : Holds old.files.told input source
  pub listed : FaultListed input source fault shown
  pub out : new.out.taken ≡ gained old.out.taken shown

-- 7: nothing is shown; or the listing up to a fault is, and then the line that names the fault found no memory
pub record ListedOutOfMemory (input : List ℕ) (old new : Outside) : Type 0 where
  pub line : TakesLineOrNot old.err new.err memory_line
  pub out : IsUnput old.out new.out ⊎ FaultPut input old new
  pub files : Unwritten old.files new.files
  pub calls : AtMostRead input old.files new.files

-- what `listing` does; other statuses never come
abbrev pub ListAnswer : List ℕ → Outside → Outside → Status → Type 0
ListAnswer input old new Done = LineShown ListingShown input old new
ListAnswer input old new Refused = ListedRefused Refused input old new
ListAnswer input old new Limit = ListedRefused Limit input old new
ListAnswer input old new ReadFault = NotRead input old new
ListAnswer input old new WriteFault = LineNotShown (ShowsListed input) input old new
ListAnswer input old new Memory = ListedOutOfMemory input old new
ListAnswer input old new other = ⊥

-- ---- the command `gen`

-- the output's file is set to the source of the seed
abbrev pub SeedWritten : ℕ → List ℕ → Outside → Outside → Type 0
SeedWritten seed output old new = new.files.told ≡ with_file old.files.told output (source seed)

-- 0: the output's file is set to the source of the seed, and the four lines are on the output; no file is read
pub record SeedDone (seed : ℕ) (output : List ℕ) (old new : Outside) : Type 0 where
  pub lines : List ℕ
  pub says : SeedShown seed lines
  pub written : SeedWritten seed output old new
  pub out : new.out.taken ≡ gained old.out.taken lines
  pub err : new.err ≡ old.err
  pub unread : Unread old.files new.files
  pub calls : WrittenAlone output (source seed) old.files new.files

-- 6 from the write: the count of writes rose or stands at its last value; every other file is as before. There are
-- lines to be shown, and they say what is so
pub record SeedNotWritten (seed : ℕ) (output : List ℕ) (old new : Outside) : Type 0 where
  pub lines : List ℕ
  pub says : SeedShown seed lines
  pub cause : Faulted old.files.writes new.files.writes
  pub line : TakesLineOrNot old.err new.err write_line
  pub out : new.out ≡ old.out
  pub files : SameBut output old.files.told new.files.told
  pub unread : Unread old.files new.files
  pub calls : WrittenAlone output (source seed) old.files new.files

-- 6 from the output: its count rose or stands at its last value, and it has taken a first part of the lines
pub record SeedNotShown (seed : ℕ) (output : List ℕ) (old new : Outside) : Type 0 where
  pub lines : List ℕ
  pub says : SeedShown seed lines
  pub written : SeedWritten seed output old new
  pub cause : Faulted old.out.faults new.out.faults
  pub line : TakesLineOrNot old.err new.err write_line
  pub out : GainedPart old.out.taken lines new.out.taken
  pub unread : Unread old.files new.files
  pub calls : WrittenAlone output (source seed) old.files new.files

-- the output's file is set to the source of the seed, and there are lines to be shown, which say what is so
pub record SeedWrittenAlone (seed : ℕ) (output : List ℕ) (old new : Outside) : Type 0 where
  pub lines : List ℕ
  pub says : SeedShown seed lines
  pub written : SeedWritten seed output old new
  pub calls : WrittenAlone output (source seed) old.files new.files

-- 7: no file is written; or the file is, and then the put found no memory
pub record SeedOutOfMemory (seed : ℕ) (output : List ℕ) (old new : Outside) : Type 0 where
  pub line : TakesLineOrNot old.err new.err memory_line
  pub out : IsUnput old.out new.out
  pub unread : Unread old.files new.files
  pub files : (Unwritten old.files new.files × (new.files.calls ≡ old.files.calls)) ⊎ SeedWrittenAlone seed output old
      new

-- what `gen` does; other statuses never come
abbrev pub SeedAnswer : ℕ → List ℕ → Outside → Outside → Status → Type 0
SeedAnswer seed output old new Done = SeedDone seed output old new
SeedAnswer seed output old new WriteFault = SeedNotWritten seed output old new ⊎ SeedNotShown seed output old new
SeedAnswer seed output old new Memory = SeedOutOfMemory seed output old new
SeedAnswer seed output old new other = ⊥

-- ---- the whole

-- 2: the words are no command; some text for the user is shown, and the files are left alone
pub record UsageShown (old new : Outside) : Type 0 where
  pub text : List ℕ
  pub line : TakesLine old.err new.err text
  pub out : new.out ≡ old.out
  pub files : new.files ≡ old.files

-- 7 where the words are no command: there was no memory to say so
pub record UsageNotShown (old new : Outside) : Type 0 where
  pub line : TakesLineOrNot old.err new.err memory_line
  pub out : new.out ≡ old.out
  pub files : new.files ≡ old.files

abbrev pub UsageAnswer : Outside → Outside → Status → Type 0
UsageAnswer old new Usage = UsageShown old new
UsageAnswer old new Memory = UsageNotShown old new
UsageAnswer old new other = ⊥

-- what the command does
abbrev pub Does : Outside → Outside → Status → Asked → Type 0
Does old new status (Compiles input output) = TextAnswer CompiledText AProgram input output old new status
Does old new status (CompilesWithin input output k) =
    TextAnswer (CompiledTextWithin k) AProgram input output old new status
Does old new status (Types input) = LineAnswer ShowsType AnyTerm input old new status
Does old new status (Evaluates input turns) = LineAnswer (ShowsValue turns) CellFree input old new status
Does old new status (Checks input) = LineAnswer ShowsAccepted AnAssembly input old new status
Does old new status (Runs input fuel) = LineAnswer (ShowsRun fuel) AnAssembly input old new status
Does old new status (Costs input fuel) = LineAnswer (ShowsCost fuel) AnAssembly input old new status
Does old new status (Generates seed output) = SeedAnswer seed output old new status
Does old new status (Upgrades input output) = TextAnswer IsUpgraded AnAssembly input output old new status
Does old new status (Builds input output heap) =
    TextAnswer (IsNativeText heap) AnAssembly input output old new status
Does old new status (Disassembles input heap) =
    LineAnswer (ShowsNativeListing heap) AnAssembly input old new status
Does old new status (Traces input from to) = LineAnswer (ShowsTrace from to) AnAssembly input old new status
Does old new status (Shows input form) = LineAnswer (ShowsForm form) AProgram input old new status
Does old new status (Explains input) = LineAnswer (ShowsExplained input) AnyText input old new status
Does old new status (Lists input) = ListAnswer input old new status
Does old new status (TypesNames input) = LineAnswer ShowsTypes AnyTerm input old new status

-- The whole of it: what the words ask for is done, or the user is told that they are no command.
abbrev pub Headline : List (List ℕ) → Outside → Outside → Status → Type 0
Headline words old new status = MatchOption (command_of words) (UsageAnswer old new status) (Does old new status)
