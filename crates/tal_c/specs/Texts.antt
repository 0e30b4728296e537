-- What is told of a text.
use Rattle.std.specs.Prelude.{◌≡◌, ◌⊎◌, ℕ, List, Result, Ok, Err}
use Rattle.idx_core.specs.declared.span.Span.{Span}
use Rattle.t_terms.specs.declared.fault.TCode.{TCode}
use Rattle.t_terms.specs.declared.fault.TFault.{TFault}
use Rattle.t_terms.specs.declared.fault.TFault.TheVariants.{Memory, Refused}
use Rattle.t_terms.specs.Spanned.{SProg, plain_program}
use Rattle.t_terms.specs.ReadProgram.{spanned_program}
use Rattle.t_text.specs.Text as reading
use Rattle.t_terms.specs.Whole.{WellFormedProgram}
use Rattle.t_rules.specs.Rules.{Accepted}
use Rattle.t_rules.specs.Faults as checking
use Rattle.t_rules.specs.Machine.{NeverSticks}
use Rattle.t_check.specs.Checked.{checked_program}
use Rattle.t_check.specs.declared.checked.Checked.{Checked}
use Rattle.t_machine.specs.declared.machine.Machine.{Machine}
use Rattle.t_machine.specs.declared.machine.Ran.{Ran}
use Rattle.t_machine.specs.Room.{IsUncapped}
use Rattle.t_machine.specs.Runs.{RanFrom, Stands}
use Rattle.tal_c.specs.declared.answer.Answer.{Answer}
use Rattle.tal_c.specs.Answers.{bare, done, of_fault, of_run}

-- the text stands for the program, and the typing rules accept it
abbrev pub IsAcceptedText : List ℕ → SProg → Type 0
IsAcceptedText text program = reading.ReadsAs text program × Accepted (plain_program program)

-- the text is read, and this is its program's first fault in checking order
pub record AcceptingFault (text : List ℕ) (code : TCode) (span : Span) : Type 0 where
  pub program : SProg
  pub read : reading.ReadsAs text program
  pub fault : checking.ProgramFault program code span

-- the first fault of the text: of reading, then of checking; or want of memory
abbrev pub IsFaultOf : List ℕ → TFault → Type 0
IsFaultOf text Memory = Unit {0}
IsFaultOf text (Refused code span) = reading.FirstFault text code span ⊎ AcceptingFault text code span

-- the accepted program of the text, or its first fault
abbrev pub ChecksText : List ℕ → Result Checked TFault → Type 0
ChecksText text (Ok checked) = IsAcceptedText text (spanned_program (checked_program checked))
ChecksText text (Err fault) = IsFaultOf text fault

-- a machine at the start of the accepted program of the text, with no cap on what it may keep
pub record IsLoaded (text : List ℕ) (machine : Machine) : Type 0 where
  pub program : SProg
  pub accepted : IsAcceptedText text program
  pub whole : WellFormedProgram (plain_program program)
  pub stands : Stands (plain_program program) 0 machine
  pub uncapped : IsUncapped machine.heap

-- ---- what is told

-- the text has this first fault, or memory was wanted
pub record FaultTold (text : List ℕ) (answer : Answer) : Type 0 where
  pub fault : TFault
  pub says : IsFaultOf text fault
  pub is : answer ≡ of_fault fault

-- the text stands for an accepted program, which never gets stuck
pub record AcceptedTold (text : List ℕ) (answer : Answer) : Type 0 where
  pub program : SProg
  pub accepted : IsAcceptedText text program
  pub never_sticks : NeverSticks (plain_program program)
  pub is : answer ≡ bare done

-- the text stands for an accepted program, and a run from its start went so
pub record RunTold (fuel : ℕ) (text : List ℕ) (answer : Answer) : Type 0 where
  pub program : SProg
  pub ran : Ran
  pub accepted : IsAcceptedText text program
  pub run : RanFrom (plain_program program) 0 fuel ran
  pub is : answer ≡ of_run fuel ran

abbrev pub CheckTold : List ℕ → Answer → Type 0
CheckTold text answer = AcceptedTold text answer ⊎ FaultTold text answer

abbrev pub TextRunTold : ℕ → List ℕ → Answer → Type 0
TextRunTold fuel text answer = RunTold fuel text answer ⊎ FaultTold text answer
