-- What is known of a text by the calls on it.
use Rattle.std.proofs.Common.{◌≡◌, ℕ, List, inl, inr}
use Rattle.t_terms.specs.ReadProgram.{program, spanned_program}
use Rattle.t_terms.specs.Spanned.{plain_program}
use Rattle.t_text.specs.Text.{ReadsAs, IsFirstFault}
use Rattle.t_terms.specs.Whole.{WellFormedProgram}
use Rattle.t_terms.specs.declared.program.TProgram.{TProgram}
use Rattle.t_terms.specs.declared.fault.TFault.{TFault}
use Rattle.t_terms.specs.declared.fault.TFault.TheVariants.{Memory, Refused}
use Rattle.t_rules.specs.Faults.{ProgramFault}
use Rattle.t_rules.specs.LawsSound.{NothingSticks}
use Rattle.t_check.specs.Verdict.{Says}
use Rattle.t_machine.specs.declared.machine.Machine.{Machine}
use Rattle.t_machine.specs.declared.machine.Ran.{Ran}
use Rattle.t_machine.specs.Room.{IsUncapped}
use Rattle.t_machine.specs.Runs.{Stands, RanFrom}
use Rattle.tal_c.specs.declared.answer.Answer.{Answer}
use Rattle.tal_c.specs.Answers.{bare, done, of_fault, of_run}
use Rattle.tal_c.specs.Texts.{IsAcceptedText, IsFaultOf, IsLoaded, CheckTold, FaultTold, TextRunTold}

pub unread : (text : List ℕ) (fault : TFault) → IsFirstFault text fault → IsFaultOf text fault
unread text Memory says = tt
unread text (Refused code span) says = inl says

pub unaccepted : (text : List ℕ) (p : TProgram) (fault : TFault) → ReadsAs text (spanned_program p) →
    Says fault (ProgramFault (spanned_program p)) → IsFaultOf text fault
unaccepted text p Memory read says = tt
unaccepted text p (Refused code span) read says =
    inr (record { program = spanned_program p; read = read; fault = says })

pub loaded : (text : List ℕ) (p : TProgram) (machine : Machine) → IsAcceptedText text (spanned_program p) →
    WellFormedProgram (program p) → Stands (program p) 0 machine → IsUncapped machine.heap → IsLoaded text machine
loaded text p machine accepted whole stands uncapped = record {
  program = spanned_program p;
  accepted = accepted;
  whole = whole;
  stands = stands;
  uncapped = uncapped;
}

pub accepted_told : NothingSticks → (text : List ℕ) (p : TProgram) (answer : Answer) →
    IsAcceptedText text (spanned_program p) → WellFormedProgram (program p) → answer ≡ bare done → CheckTold text answer
accepted_told sticks text p answer accepted whole is = inl (record {
  program = spanned_program p;
  accepted = accepted;
  never_sticks = sticks (program p) whole accepted.1;
  is = is;
})

pub fault_told : (text : List ℕ) (fault : TFault) (answer : Answer) → IsFaultOf text fault →
    answer ≡ of_fault fault → FaultTold text answer
fault_told text fault answer says is = record { fault = fault; says = says; is = is }

pub run_told : (fuel : ℕ) (text : List ℕ) (machine : Machine) (ran : Ran) (answer : Answer) →
    (l : IsLoaded text machine) → RanFrom (plain_program l.program) 0 fuel ran → answer ≡ of_run fuel ran →
    TextRunTold fuel text answer
run_told fuel text machine ran answer l runs is = inl (record {
  program = l.program;
  ran = ran;
  accepted = l.accepted;
  run = runs;
  is = is;
})
