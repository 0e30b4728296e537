-- When each status comes, exactly.
use Rattle.std.specs.Prelude.{◌≡◌, ◌⊎◌, ◌↔◌, ℕ, List, Option, Some, None, IsSome, IsNone, MatchOption, false}
use Rattle.std.specs.FinMap.{get}
use Rattle.io_core.specs.Outside.{FileMap, Faulted, IsAbsent}
use Rattle.talc_core.specs.declared.status.Status.{Status}
use Rattle.talc_core.specs.declared.status.Status.TheVariants.{Done, Refused, Usage, Limit}
use Rattle.talc_core.specs.declared.status.Status.TheVariants.{Budget, ReadFault, WriteFault, Memory}
use Rattle.talc_core.specs.declared.fault.Fault.{Fault}
use Rattle.talc_core.specs.Fault.{status_of}
use Rattle.f_terms.specs.Ty.{TInt}
use Rattle.f_terms.specs.Tm.{Tm, plain}
use Rattle.f_terms.specs.Cells.{has_cells}
use Rattle.f_terms.specs.Eval.{IsSpent}
use Rattle.t_terms.specs.Spanned.{SProg, plain_program}
use Rattle.t_rules.specs.Machine.{GoesOnAfter}
use Rattle.f_seeds.specs.Source.{source}
use Rattle.talc_core.specs.FirstFault.{Need, FirstFault, IsChecked, IsAcceptedText, IsTaken}
use Rattle.talc_core.specs.Command.{Asked, Evaluates, Generates, Explains}
use Rattle.talc_core.specs.Command.{command_of, need_of, input_of, output_of, budget_of}
use Rattle.talc_core.specs.Headline.{Outside, Headline}

-- no fault of the outside, and no want of memory
abbrev pub IsSettled : Status → Type 0
IsSettled ReadFault = ⊥
IsSettled WriteFault = ⊥
IsSettled Memory = ⊥
IsSettled other = Unit {0}

-- a map is told, and it has this content at the name
abbrev pub Tells : Option FileMap → List ℕ → List ℕ → Type 0
Tells None name bytes = ⊥
Tells (Some files) name bytes = get files name ≡ Some bytes

-- the command works on this text: the content of the file that it reads, or the source of its seed
abbrev pub WorksOn : Asked → Outside → List ℕ → Type 0
WorksOn (Generates seed output) old text = text ≡ source seed
WorksOn other old text = MatchOption (input_of other) ⊥ (λ input. Tells old.files.told input text)

-- the words ask for this to be done with this text
abbrev pub Asking : List (List ℕ) → Outside → Asked → List ℕ → Type 0
Asking words old asked text = (command_of words ≡ Some asked) × WorksOn asked old text

-- the command reads a file, and the told map has none of its name
abbrev pub IsMissing : Asked → Outside → Type 0
IsMissing asked old = MatchOption (input_of asked) ⊥ (IsAbsent old.files.told)

-- the command reads a file, and a read may have failed, or there is no such file
abbrev pub CannotRead : Asked → Outside → Outside → Type 0
CannotRead asked old new =
    MatchOption (input_of asked) ⊥ (λ input. Faulted old.files.reads new.files.reads ⊎ IsAbsent old.files.told input)

-- the first fault of the text leads to this status
abbrev pub LeadsTo : Need → List ℕ → Status → Type 0
LeadsTo need source status = (fault : Fault) × FirstFault need source fault × (status_of fault ≡ status)

-- the command shows lines: all do but those that make one file of another
abbrev pub ShowsLines : Asked → Type 0
ShowsLines (Generates seed output) = Unit {0}
ShowsLines other = IsNone (output_of other)

-- the command writes a file, and a write may have failed; or it shows lines, and a put may have
abbrev pub CannotWrite : Asked → Outside → Outside → Type 0
CannotWrite asked old new =
    (IsSome (output_of asked) × Faulted old.files.writes new.files.writes)
    ⊎ (ShowsLines asked × Faulted old.out.faults new.out.faults)

-- the command has a budget
abbrev pub HasBudget : Asked → Type 0
HasBudget asked = IsSome (budget_of asked)

-- the text is what the command needs, and the end isn't reached within the budget
abbrev pub GoesOn : Asked → List ℕ → Type 0
GoesOn (Evaluates input turns) source =
    (term : Tm) × IsChecked source term TInt × (has_cells (plain term) ≡ false) × IsSpent (plain term) turns
GoesOn other source =
    MatchOption (budget_of other) ⊥
    (λ budget. (program : SProg) × IsAcceptedText source program × GoesOnAfter (plain_program program) budget)

-- no count of faults of the files or of the output rises in the call or stands at its last value
pub record NoFaults (old new : Outside) : Type 0 where
  pub reads : Faulted old.files.reads new.files.reads → ⊥
  pub writes : Faulted old.files.writes new.files.writes → ⊥
  pub puts : Faulted old.out.faults new.out.faults → ⊥

-- the work is done, or its budget is used up
abbrev pub Works : Asked → Status → Type 0
Works asked status = (status ≡ Done) ⊎ (HasBudget asked × (status ≡ Budget))

-- the cause of each status, exactly; the causes of want of memory are left open
pub record Exactly (words : List (List ℕ)) (old new : Outside) (status : Status) : Type 0 where
  -- usage exactly where the words are no command
  pub usage : IsSettled status → (status ≡ Usage) ↔ (command_of words ≡ None)
  pub no_command : command_of words ≡ None → (status ≡ Usage) ⊎ (status ≡ Memory)
  -- refused exactly where the first fault is no limit, and at a limit exactly where it is one
  pub refused : (asked : Asked) (source : List ℕ) → Asking words old asked source → IsSettled status →
      (status ≡ Refused) ↔ LeadsTo (need_of asked) source Refused
  pub limit : (asked : Asked) (source : List ℕ) → Asking words old asked source → IsSettled status →
      (status ≡ Limit) ↔ LeadsTo (need_of asked) source Limit
  -- the budget is used up exactly where the text goes on after it, and only in a command that has one
  pub budget : (asked : Asked) (source : List ℕ) → Asking words old asked source → IsSettled status →
      (status ≡ Budget) ↔ GoesOn asked source
  pub has_budget : status ≡ Budget → (asked : Asked) × (command_of words ≡ Some asked) × HasBudget asked
  -- a fault of reading only by its cause, and where the file is absent nothing else but want of memory
  pub read_fault : (asked : Asked) → command_of words ≡ Some asked → status ≡ ReadFault →
      CannotRead asked old new
  pub absent : (asked : Asked) → command_of words ≡ Some asked → IsMissing asked old →
      (status ≡ ReadFault) ⊎ (status ≡ Memory)
  -- a fault of writing only by the count of what the command writes to
  pub write_fault : (asked : Asked) → command_of words ≡ Some asked → status ≡ WriteFault → CannotWrite asked old new
  -- the work is done on a text that is what the command needs, as far as the budget goes
  pub complete : (asked : Asked) (source : List ℕ) → Asking words old asked source →
      IsTaken (need_of asked) source → NoFaults old new → Works asked status ⊎ (status ≡ Memory)
  -- `gen` ends with no other status than these, since every source of a seed is a program
  pub generates : (seed : ℕ) (output : List ℕ) → command_of words ≡ Some (Generates seed output) →
      (status ≡ Done) ⊎ ((status ≡ WriteFault) ⊎ (status ≡ Memory))
  -- `explain` ends with no other status than these, whatever the text is
  pub explains : (input : List ℕ) → command_of words ≡ Some (Explains input) →
      (status ≡ Done) ⊎ ((status ≡ ReadFault) ⊎ ((status ≡ WriteFault) ⊎ (status ≡ Memory)))

-- The law: what a call does by its status tells when each status comes.
abbrev pub HeadlineIsExact : Type 0
HeadlineIsExact =
    (words : List (List ℕ)) (old new : Outside) (status : Status) → Headline words old new status →
    Exactly words old new status
