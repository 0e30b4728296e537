-- What the steps of a call do: the contracts of private functions. Nothing that is promised rests on this file.
use Rattle.std.specs.Prelude.{◌≡◌, ◌≤◌, ◌⊎◌, ◌+◌, ◌*◌, ℕ, ℤ, List, Result, Ok, Err, Vec, false}
use Rattle.std.specs.Prelude.{Option, Some, None, MatchOption}
use Rattle.std.specs.declared.alloc.Global.{Global}
use Rattle.io_core.specs.Outside.{FilesState, SinkState, Faulted, IsAbsent, Holds, SameBut}
use Rattle.io_core.specs.Outside.{with_file, gained, GainedPart, IsUnput, WantedMemory}
use Rattle.f_terms.specs.Ty.{TInt}
use Rattle.f_terms.specs.Tm.{Tm, plain}
use Rattle.f_terms.specs.Cells.{has_cells}
use Rattle.f_terms.specs.Eval.{EvaluatesLeaving}
use Rattle.f_terms.specs.Read.{tree}
use Rattle.f_terms.specs.ReadTerm.{spanned, term_of}
use Rattle.f_check.specs.Typed.{typed_term, typed_type, program_term}
use Rattle.f_check.specs.declared.typed.Typed.{Typed}
use Rattle.f_check.specs.declared.typed.Program.{Program}
use Rattle.t_terms.specs.ReadProgram.{spanned_program}
use Rattle.t_terms.specs.Tree.{TProg}
use Rattle.t_rules.specs.Machine.{GoesOnAfter}
use Rattle.t_rules.specs.Times.{program_size}
use Rattle.t_check.specs.Checked.{checked_program}
use Rattle.t_check.specs.declared.checked.Checked.{Checked}
use Rattle.talc_core.specs.declared.status.Status.{Status}
use Rattle.talc_core.specs.declared.status.Status.TheVariants as status
use Rattle.talc_core.specs.declared.report.Failure.{Failure}
use Rattle.talc_core.specs.declared.report.Failure.TheVariants.{Refused, Read, Write, Memory}
use Rattle.talc_core.specs.declared.refusal.Refusal.{Refusal}
use Rattle.talc_core.specs.declared.refusal.Refusal.TheVariants as refusal
use Rattle.talc_core.specs.declared.finding.Finding.{Finding}
use Rattle.talc_core.specs.declared.finding.Told.{Told}
use Rattle.talc_core.specs.declared.finding.Finding.TheVariants as finding
use Rattle.talc_core.specs.declared.finding.Finding.TheVariants.{NoFault}
use Rattle.talc_core.specs.declared.fault.Fault.{Fault}
use Rattle.talc_core.specs.declared.reply.TextListing.{TextListing}
use Rattle.talc_core.specs.declared.reply.RowsMade.{RowsMade}
use Rattle.talc_core.specs.declared.reply.RowsMade.TheVariants as rows
use Rattle.talc_core.specs.declared.reply.Ending.{Ending}
use Rattle.talc_core.specs.declared.reply.Ending.TheVariants.{Ends, GoesOn}
use Rattle.talc_core.specs.declared.reply.Reply.{Reply}
use Rattle.talc_core.specs.Fault.{status_of}
use Rattle.talc_core.specs.Command.{Asked, Compiles, CompilesWithin, Types, Evaluates, Checks, Runs, Generates}
use Rattle.talc_core.specs.Command.{Upgrades, Traces, Shows, Explains, Lists, Costs, TypesNames, Builds}
use Rattle.talc_core.specs.Command.{Disassembles}
use Rattle.talc_core.specs.FirstFault.{Need, AnyText, AnyTerm, AProgram, CellFree, AnAssembly}
use Rattle.talc_core.specs.FirstFault.{IsChecked, IsAcceptedText, IsTaken, FirstFault}
use Rattle.talc_core.specs.CompiledText.{CompiledText, CompiledTextWithin}
use Rattle.talc_core.specs.Upgraded.{IsUpgraded}
use Rattle.talc_core.specs.NativeText.{IsNativeText}
use Rattle.talc_core.specs.NativeListing.{ShowsNativeListing}
use Rattle.f_seeds.specs.Source.{source as source_of}
use Rattle.talc_core.specs.Shown.{Showing, ShowsType, ShowsValue, ShowsAccepted, ShowsRun, ShowsTrace, ShowsCost}
use Rattle.talc_core.specs.Shown.{SeedShown, seed_turns}
use Rattle.talc_core.specs.FormShown.{ShowsForm}
use Rattle.talc_core.specs.AtOdds as odds
use Rattle.talc_core.specs.AtOdds.{AtOdds, unread_told}
use Rattle.talc_core.specs.Wanted.{CouldStand}
use Rattle.talc_core.specs.Explained.{ShowsExplained, explained}
use Rattle.talc_core.specs.Listed.{ListingShown, RowsTo, FaultListed, ShowsListed}
use Rattle.talc_core.specs.Binding.{ShowsTypes}
use Rattle.talc_core.specs.OnTexts.{Making, RefusedBy, status_at}
use Rattle.talc_core.specs.Headline.{TakesLine, TakesLineOrNot, Unwritten, Unread}
use Rattle.talc_core.specs.Headline.{ReadAlone, WrittenAlone, ReadThenWritten, AtMostRead}
use Rattle.talc_core.specs.Lines.{fault_line, read_line, write_line, memory_line}

-- ---- from a text to what a command needs of it

-- the term of a source text with its type, or its first fault
abbrev pub ChecksSource : List ℕ → Result Typed Refusal → Type 0
ChecksSource source (Ok typed) = IsChecked source (spanned (typed_term typed)) (tree (typed_type typed))
ChecksSource source (Err why) = RefusedBy AnyTerm source why

-- the program of a source text, or its first fault
abbrev pub ReadsProgram : List ℕ → Result Program Refusal → Type 0
ReadsProgram source (Ok program) = IsChecked source (spanned (program_term program)) TInt
ReadsProgram source (Err why) = RefusedBy AProgram source why

-- the program of a source text, which has no cells, or its first fault
abbrev pub ReadsCellFree : List ℕ → Result Program Refusal → Type 0
ReadsCellFree source (Ok program) =
    IsChecked source (spanned (program_term program)) TInt × (has_cells (term_of (program_term program)) ≡ false)
ReadsCellFree source (Err why) = RefusedBy CellFree source why

-- the accepted program of an assembly text, or its first fault
abbrev pub ChecksAssembly : List ℕ → Result Checked Refusal → Type 0
ChecksAssembly text (Ok checked) = IsAcceptedText text (spanned_program (checked_program checked))
ChecksAssembly text (Err why) = RefusedBy AnAssembly text why

-- what is told of a fault, as the code holds it
abbrev pub told_of : Told → odds.Told
told_of t = record { lines = t.lines.items; form = t.form; value = t.value }

-- the text is what is needed, or its first fault, with what is told of it
abbrev pub IsFinding : Need → List ℕ → Finding → Type 0
IsFinding need text NoFault = IsTaken need text
IsFinding need text (finding.Fault fault told) = FirstFault need text fault × AtOdds text fault (told_of told)

-- the fault of a text that is not read, of which no more is told than what could stand at its place
abbrev pub IsBare : List ℕ → Refusal → Finding → Type 0
IsBare text (refusal.Fault why) NoFault = ⊥
IsBare text (refusal.Fault why) (finding.Fault fault told) =
    (fault ≡ why) × CouldStand text why told.lines.items × (told_of told ≡ unread_told told.lines.items)
IsBare text refusal.Memory found = ⊥

-- ---- the calls of the outside

-- the input's content, or why there is none
abbrev pub ReadsInput : List ℕ → FilesState → FilesState → Result (Vec ℕ Global) Failure → Type 0
ReadsInput input old new (Ok bytes) =
    Holds old.told input bytes.items × Unwritten old new × ReadAlone input old new
ReadsInput input old new (Err Read) =
    (Faulted old.reads new.reads ⊎ IsAbsent old.told input) × Unwritten old new × ReadAlone input old new
ReadsInput input old new (Err Memory) = new ≡ old
ReadsInput input old new (Err other) = ⊥

-- the output set to a text, or why not
abbrev pub WritesOutput : List ℕ → List ℕ → FilesState → FilesState → Result (Unit {0}) Failure → Type 0
WritesOutput output text old new (Ok done) =
    (new.told ≡ with_file old.told output text) × Unread old new × WrittenAlone output text old new
WritesOutput output text old new (Err Write) =
    Faulted old.writes new.writes × SameBut output old.told new.told × Unread old new
    × WrittenAlone output text old new
WritesOutput output text old new (Err Memory) = new ≡ old
WritesOutput output text old new (Err other) = ⊥

-- a line put on the output, or why not
abbrev pub PutsLine : List ℕ → SinkState → SinkState → Result (Unit {0}) Failure → Type 0
PutsLine line old new (Ok done) = new.taken ≡ gained old.taken line
PutsLine line old new (Err Write) = Faulted old.faults new.faults × GainedPart old.taken line new.taken
PutsLine line old new (Err Memory) = IsUnput old new
PutsLine line old new (Err other) = ⊥

-- a reply's line put on the output, and how the command then ends, or why not
abbrev pub PutsReply : Reply → SinkState → SinkState → Result Ending Failure → Type 0
PutsReply reply old new (Ok ending) = (ending ≡ reply.ending) × (new.taken ≡ gained old.taken reply.line.items)
PutsReply reply old new (Err Write) = Faulted old.faults new.faults × GainedPart old.taken reply.line.items new.taken
PutsReply reply old new (Err Memory) = IsUnput old new
PutsReply reply old new (Err other) = ⊥

-- ---- the commands

-- a file set to what is made of another's text, or why not
abbrev pub MakesFile :
    Making → Need → List ℕ → List ℕ → FilesState → FilesState → Result Ending Failure → Type 0
MakesFile Makes need input output old new (Ok Ends) =
    (source target : List ℕ) × Holds old.told input source × Makes source target
    × (new.told ≡ with_file old.told output target) × ReadThenWritten input output target old new
MakesFile Makes need input output old new (Ok GoesOn) = ⊥
MakesFile Makes need input output old new (Err (Refused fault)) =
    (source : List ℕ) × Holds old.told input source × FirstFault need source fault × Unwritten old new
    × ReadAlone input old new
MakesFile Makes need input output old new (Err Read) =
    (Faulted old.reads new.reads ⊎ IsAbsent old.told input) × Unwritten old new × ReadAlone input old new
MakesFile Makes need input output old new (Err Write) =
    (source target : List ℕ) × Holds old.told input source × Makes source target
    × Faulted old.writes new.writes × SameBut output old.told new.told
    × ReadThenWritten input output target old new
MakesFile Makes need input output old new (Err Memory) = Unwritten old new × AtMostRead input old new

-- a line of a file put on the output, or why not
abbrev pub ShowsFile :
    Showing → Need → List ℕ → FilesState → FilesState → SinkState → SinkState → Result Ending Failure → Type 0
ShowsFile Says need input old new out out' (Ok ending) =
    (text line : List ℕ) × Holds old.told input text × Says (status_at ending) text line
    × (out'.taken ≡ gained out.taken line) × Unwritten old new × ReadAlone input old new
ShowsFile Says need input old new out out' (Err (Refused fault)) =
    (text : List ℕ) × Holds old.told input text × FirstFault need text fault
    × Unwritten old new × (out' ≡ out) × ReadAlone input old new
ShowsFile Says need input old new out out' (Err Read) =
    (Faulted old.reads new.reads ⊎ IsAbsent old.told input) × Unwritten old new × (out' ≡ out)
    × ReadAlone input old new
ShowsFile Says need input old new out out' (Err Write) =
    (text line : List ℕ) × (ending : Ending) × Holds old.told input text × Says (status_at ending) text line
    × Faulted out.faults out'.faults × GainedPart out.taken line out'.taken × Unwritten old new
    × ReadAlone input old new
ShowsFile Says need input old new out out' (Err Memory) =
    Unwritten old new × IsUnput out out' × AtMostRead input old new

-- the listing of a file's text, or up to its first fault, put on the output, or why not
abbrev pub ListsFile :
    List ℕ → FilesState → FilesState → SinkState → SinkState → Result Ending Failure → Type 0
ListsFile input old new out out' (Ok Ends) =
    (text shown : List ℕ) × Holds old.told input text × ListingShown text shown
    × (out'.taken ≡ gained out.taken shown) × Unwritten old new × ReadAlone input old new
ListsFile input old new out out' (Ok GoesOn) = ⊥
ListsFile input old new out out' (Err (Refused fault)) =
    (text shown : List ℕ) × Holds old.told input text × FaultListed input text fault shown
    × (out'.taken ≡ gained out.taken shown) × Unwritten old new × ReadAlone input old new
ListsFile input old new out out' (Err Read) =
    (Faulted old.reads new.reads ⊎ IsAbsent old.told input) × Unwritten old new × (out' ≡ out)
    × ReadAlone input old new
ListsFile input old new out out' (Err Write) =
    (text shown : List ℕ) × (ending : Status) × Holds old.told input text × ShowsListed input ending text shown
    × Faulted out.faults out'.faults × GainedPart out.taken shown out'.taken × Unwritten old new
    × ReadAlone input old new
ListsFile input old new out out' (Err Memory) =
    Unwritten old new × IsUnput out out' × AtMostRead input old new

-- the rows of a text, or up to its first fault
abbrev pub AreRows : List ℕ → RowsMade → Type 0
AreRows text (rows.Whole listing) = ListingShown text listing.items
AreRows text (rows.UpTo fault listing) = FirstFault AnAssembly text fault × RowsTo text fault listing.items

-- the page of the first fault of an assembly text
pub record IsFaultPage (name text page : List ℕ) : Type 0 where
  pub fault : Fault
  pub told : odds.Told
  pub first : FirstFault AnAssembly text fault
  pub at_odds : AtOdds text fault told
  pub is : page ≡ explained name text fault told

-- the listing of a text of this name, or up to its first fault, with its page
abbrev pub IsListed : (name text : List ℕ) → TextListing → Type 0
IsListed name text listed =
    MatchOption listed.fault (ListingShown text listed.shown.items)
    (λ fault. FaultListed name text fault listed.shown.items)

-- how `listing` ends, once it has shown what it shows of a text with this first fault, or with none
abbrev pub ended_by : Option Fault → Result Ending Failure
ended_by None = Ok Ends
ended_by (Some fault) = Err (Refused fault)

-- memory was wanted
abbrev pub WantsMemory : Refusal → Type 0
WantsMemory (refusal.Fault fault) = ⊥
WantsMemory refusal.Memory = Unit {0}

-- the fact, or want of memory
abbrev pub OrMemory : {X : Type 0} → (X → Type 0) → Result X Refusal → Type 0
OrMemory P (Ok x) = P x
OrMemory P (Err why) = WantsMemory why

-- the source of the seed evaluates to this integer, with so many turns used of those within which `gen` evaluates
pub record Evaluated (seed : ℕ) (value : ℤ) (used : ℕ) : Type 0 where
  pub term : Tm
  pub left : ℕ
  pub checked : IsChecked (source_of seed) term TInt
  pub evaluates : EvaluatesLeaving (plain term) seed_turns value left
  pub turns_used : used + left ≡ seed_turns

-- the program doesn't go on after as many instructions as one may make that is compiled from a source of so few turns
abbrev pub HaltsSoonEnough : TProg → Type 0
HaltsSoonEnough P = (fuel : ℕ) → (seed_turns + 1) * program_size P ≤ fuel → ¬ GoesOnAfter P fuel

-- the source of a seed written, and what is shown of it put on the output, with no file read; or why not
abbrev pub ShowsSeed :
    ℕ → List ℕ → FilesState → FilesState → SinkState → SinkState → Result Ending Failure → Type 0
ShowsSeed seed output old new out out' (Ok Ends) =
    (lines : List ℕ) × SeedShown seed lines × (new.told ≡ with_file old.told output (source_of seed))
    × (out'.taken ≡ gained out.taken lines) × Unread old new × WrittenAlone output (source_of seed) old new
ShowsSeed seed output old new out out' (Err Write) =
    ((lines : List ℕ) × SeedShown seed lines × Faulted old.writes new.writes × SameBut output old.told new.told
    × (out' ≡ out) × Unread old new × WrittenAlone output (source_of seed) old new)
    ⊎ ((lines : List ℕ) × SeedShown seed lines × (new.told ≡ with_file old.told output (source_of seed))
    × Faulted out.faults out'.faults × GainedPart out.taken lines out'.taken × Unread old new
    × WrittenAlone output (source_of seed) old new)
ShowsSeed seed output old new out out' (Err Memory) =
    IsUnput out out' × Unread old new
    × ((Unwritten old new × (new.calls ≡ old.calls))
    ⊎ ((lines : List ℕ) × SeedShown seed lines × (new.told ≡ with_file old.told output (source_of seed))
    × WrittenAlone output (source_of seed) old new))
ShowsSeed seed output old new out out' other = ⊥

-- what a command does on the files and the output, or why not
abbrev pub Performs :
    Asked → FilesState → FilesState → SinkState → SinkState → Result Ending Failure → Type 0
Performs (Compiles input output) old new out out' result =
    MakesFile CompiledText AProgram input output old new result × (out' ≡ out)
Performs (CompilesWithin input output k) old new out out' result =
    MakesFile (CompiledTextWithin k) AProgram input output old new result × (out' ≡ out)
Performs (Types input) old new out out' result = ShowsFile ShowsType AnyTerm input old new out out' result
Performs (Evaluates input turns) old new out out' result =
    ShowsFile (ShowsValue turns) CellFree input old new out out' result
Performs (Checks input) old new out out' result = ShowsFile ShowsAccepted AnAssembly input old new out out' result
Performs (Runs input fuel) old new out out' result =
    ShowsFile (ShowsRun fuel) AnAssembly input old new out out' result
Performs (Costs input fuel) old new out out' result =
    ShowsFile (ShowsCost fuel) AnAssembly input old new out out' result
Performs (Generates seed output) old new out out' result = ShowsSeed seed output old new out out' result
Performs (Upgrades input output) old new out out' result =
    MakesFile IsUpgraded AnAssembly input output old new result × (out' ≡ out)
Performs (Builds input output heap) old new out out' result =
    MakesFile (IsNativeText heap) AnAssembly input output old new result × (out' ≡ out)
Performs (Disassembles input heap) old new out out' result =
    ShowsFile (ShowsNativeListing heap) AnAssembly input old new out out' result
Performs (Traces input from to) old new out out' result =
    ShowsFile (ShowsTrace from to) AnAssembly input old new out out' result
Performs (Shows input form) old new out out' result =
    ShowsFile (ShowsForm form) AProgram input old new out out' result
Performs (Explains input) old new out out' result =
    ShowsFile (ShowsExplained input) AnyText input old new out out' result
Performs (Lists input) old new out out' result = ListsFile input old new out out' result
Performs (TypesNames input) old new out out' result = ShowsFile ShowsTypes AnyTerm input old new out out' result

-- ---- the lines for the user

-- the line is shown and the status is this; or the put wanted memory
abbrev pub ShowsFor : List ℕ → Status → SinkState → SinkState → Status → Type 0
ShowsFor line wanted old new answer =
    ((answer ≡ wanted) × TakesLine old new line) ⊎ ((answer ≡ status.Memory) × WantedMemory old new)

-- the line of a failure, and the status that it leads to
abbrev pub Reports : Failure → SinkState → SinkState → Status → Type 0
Reports (Refused fault) old new status.Refused =
    (status_of fault ≡ status.Refused) × TakesLine old new (fault_line fault)
Reports (Refused fault) old new status.Limit = (status_of fault ≡ status.Limit) × TakesLine old new (fault_line fault)
Reports Read old new status.ReadFault = TakesLine old new read_line
Reports Write old new status.WriteFault = TakesLineOrNot old new write_line
Reports Write old new other = ⊥
Reports failure old new status.Memory = TakesLineOrNot old new memory_line
Reports failure old new other = ⊥
