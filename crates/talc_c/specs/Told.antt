-- What the calls tell of a text, and what then stands in the memory of the host.
use Rattle.std.specs.Prelude.{◌≡◌, ◌==◌, ◌<◌, ◌≤◌, ◌++◌, if◌then◌else◌, false, ℕ, List, length, drop}
use Rattle.std.specs.Prelude.{Option, Some, None, Result, Ok, Err, Vec}
use Rattle.std.specs.declared.alloc.Global.{Global}
use Rattle.talc_words.specs.declared.form.Form.{Form}
use Rattle.talc_words.specs.declared.form.Form.TheVariants as form
use Rattle.talc_core.specs.declared.status.Status.TheVariants.{Done}
use Rattle.talc_core.specs.declared.refusal.Refusal.{Refusal}
use Rattle.talc_core.specs.declared.refusal.Refusal.TheVariants as refusal
use Rattle.talc_core.specs.declared.reply.Ending.TheVariants.{Ends}
use Rattle.talc_core.specs.declared.reply.Reply.{Reply}
use Rattle.talc_core.specs.Status.{number_of}
use Rattle.talc_core.specs.FirstFault.{Need, AProgram}
use Rattle.talc_core.specs.CompiledText.{CompiledText, CompiledTextWithin}
use Rattle.talc_core.specs.FormShown.{ShowsForm}
use Rattle.talc_core.specs.Shown.{Showing}
use Rattle.talc_core.specs.OnTexts.{Making, ShowsText, status_at}
use Rattle.talc_c.specs.declared.answer.Made.{Made}
use Rattle.talc_c.specs.Answers.{usage, memory, small, put, of_fault}

-- What is made stands at the head of the host's memory, and what is behind it is as it was; where there is no room for
-- all of it, all is as it was. Told is how long it is.
abbrev pub IsPut : ℕ → (made old new : List ℕ) → Made → Type 0
IsPut status made old new answer =
    (length made ≤ length old → (new ≡ made ++ drop (length made) old) × (answer ≡ put status (length made)))
    × (length old < length made → (new ≡ old) × (answer ≡ put small (length made)))

-- nothing is made, the host's memory is as it was, and this is told
abbrev pub IsNotMade : (old new : List ℕ) → Made → Made → Type 0
IsNotMade old new answer told = (new ≡ old) × (answer ≡ told)

-- what is told of the outcome of a call on bytes
abbrev pub Tells : Result Reply Refusal → (old new : List ℕ) → Made → Type 0
Tells (Ok reply) old new answer = IsPut (number_of (status_at reply.ending)) reply.line.items old new answer
Tells (Err (refusal.Fault fault)) old new answer = IsNotMade old new answer (of_fault fault)
Tells (Err refusal.Memory) old new answer = IsNotMade old new answer (put memory 0)

-- what is told of a text: the call on bytes has an outcome of it, and that is told
pub record Told (Says : Showing) (need : Need) (text old new : List ℕ) (answer : Made) : Type 0 where
  pub outcome : Result Reply Refusal
  pub says : ShowsText Says need text outcome
  pub tells : Tells outcome old new answer

-- the outcome of a call that makes a text
abbrev pub made_as : Result (Vec ℕ Global) Refusal → Result Reply Refusal
made_as (Ok text) = Ok (record { ending = Ends; line = text })
made_as (Err why) = Err why

-- a text that is made, as one that is shown
abbrev pub Makes : Making → Showing
Makes Says Done source target = Says source target
Makes Says other source target = ⊥

-- `registers` is 0 for any number of them, else at least 8
abbrev pub CompileTold : ℕ → (text old new : List ℕ) → Made → Type 0
CompileTold registers text old new answer =
    (registers ≡ 0 → Told (Makes CompiledText) AProgram text old new answer)
    × (0 < registers → registers < 8 → IsNotMade old new answer (put usage 0))
    × (8 ≤ registers → Told (Makes (CompiledTextWithin registers)) AProgram text old new answer)

-- the forms by number, from the source to the assembly text, without types
abbrev pub form_at : ℕ → Option Form
form_at number =
    if number == 0 then Some form.Source
    else if number == 1 then Some (form.Cps false)
    else if number == 2 then Some (form.Closed false)
    else if number == 3 then Some (form.Hoisted false)
    else if number == 4 then Some (form.Allocated false)
    else if number == 5 then Some form.Assembly
    else None

abbrev pub FormTold : Option Form → (text old new : List ℕ) → Made → Type 0
FormTold (Some form) text old new answer = Told (ShowsForm form) AProgram text old new answer
FormTold None text old new answer = IsNotMade old new answer (put usage 0)

abbrev pub ShowTold : ℕ → (text old new : List ℕ) → Made → Type 0
ShowTold number text old new answer = FormTold (form_at number) text old new answer
