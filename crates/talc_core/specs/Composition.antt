-- What the commands do with a text that `compile` or `upgrade` wrote, or that `show` shows as the source.
use Rattle.std.specs.Prelude.{◌≡◌, ◌↔◌, ◌+◌, ◌*◌, ◌≤◌, ℕ, ℤ, List, false}
use Rattle.talc_core.specs.declared.status.Status.{Status}
use Rattle.f_terms.specs.Ty.{TInt}
use Rattle.f_terms.specs.Tm.{Tm, plain}
use Rattle.f_terms.specs.Cells.{has_cells}
use Rattle.f_terms.specs.Eval.{Evaluates, IsSpent}
use Rattle.t_terms.specs.Spanned.{SProg, plain_program}
use Rattle.t_terms.specs.Tree.{TProg}
use Rattle.t_rules.specs.Machine.{NeverSticks, GoesOnAfter}
use Rattle.t_rules.specs.Times.{program_size}
use Rattle.t_machine.specs.Room.{Covers}
use Rattle.t_machine.specs.Seldom.{mallocs, malloc_fields}
use Rattle.t_spill_laws.specs.Bound.{RegistersUpTo}
use Rattle.pipeline.specs.Meaning.{SameMeaning}
use Rattle.f_grammar.specs.Text.{Source as StandsFor, FewBytes}
use Rattle.talc_words.specs.declared.form.Form.{Form}
use Rattle.talc_words.specs.declared.form.Form.TheVariants.{Source, Assembly}
use Rattle.talc_core.specs.FirstFault.{AProgram, AnAssembly, IsChecked, IsAssembly, IsAcceptedText, IsTaken}
use Rattle.talc_core.specs.Written.{IsWritten}
use Rattle.talc_core.specs.Compiled.{IsCompiled, IsCompiledWithin}
use Rattle.talc_core.specs.Translated.{IsTranslated, IsTranslatedWithin}
use Rattle.talc_core.specs.Made.{IsMadeByPasses, IsMadeByPassesWithin}
use Rattle.talc_core.specs.Upgraded.{IsUpgraded}
use Rattle.talc_core.specs.Lines.{integer_line}
use Rattle.talc_core.specs.Shown.{ValueShown, HaltedShown, ShowsRun, ShowsTrace}
use Rattle.talc_core.specs.FormShown.{FormShown}

-- `check` takes it: it stands for a program that the typing rules accept
abbrev pub CompiledIsTaken : Type 0
CompiledIsTaken = (source target : List ℕ) → IsCompiled source target → IsTaken AnAssembly target

-- the program that `run` reads of it means the same as the term that `eval` reads of the source
abbrev pub CompiledMeansTheSame : Type 0
CompiledMeansTheSame =
    (source target : List ℕ) → IsCompiled source target →
    (term : Tm) → IsChecked source term TInt → (program : SProg) → IsAcceptedText target program →
    ∥ SameMeaning (plain term) (plain_program program) ∥₁

-- so the integer that `run` shows of it is the one that `eval` shows of the source
abbrev pub CompiledShowsTheSame : Type 0
CompiledShowsTheSame =
    (source target evaluated ran : List ℕ) → IsCompiled source target → (turns fuel : ℕ) →
    (value : ValueShown turns source evaluated) → (halted : HaltedShown fuel target ran) →
    value.value ≡ halted.value

-- what `run` shows of it within so many instructions, the source evaluates to within as many turns
abbrev pub CompiledRunsAreEvaluations : Type 0
CompiledRunsAreEvaluations =
    (source target ran : List ℕ) → IsCompiled source target → (fuel : ℕ) → (halted : HaltedShown fuel target ran) →
    (term : Tm) → IsChecked source term TInt → Evaluates (plain term) fuel halted.value

-- and `eval` shows it, where the source has no cells
abbrev pub CompiledRunsAreShown : Type 0
CompiledRunsAreShown =
    (source target ran : List ℕ) → IsCompiled source target → (fuel : ℕ) → (halted : HaltedShown fuel target ran) →
    (term : Tm) → IsChecked source term TInt → has_cells (plain term) ≡ false →
    (evaluated : List ℕ) × (shown : ValueShown fuel source evaluated) × (shown.value ≡ halted.value)

-- what the source evaluates to within so many turns, `run` shows of it within once more than these turns times the
-- number of its instructions and jumps
abbrev pub CompiledEvaluationsRun : Type 0
CompiledEvaluationsRun =
    (source target : List ℕ) → IsCompiled source target →
    (term : Tm) → IsChecked source term TInt → (turns : ℕ) (value : ℤ) → Evaluates (plain term) turns value →
    (program : SProg) → IsAcceptedText target program →
    HaltedShown ((turns + 1) * program_size (plain_program program)) target (integer_line value)

-- so it shows what `eval` shows of the source
abbrev pub CompiledValuesRun : Type 0
CompiledValuesRun =
    (source target evaluated : List ℕ) → IsCompiled source target →
    (turns : ℕ) → (shown : ValueShown turns source evaluated) → (program : SProg) → IsAcceptedText target program →
    HaltedShown ((turns + 1) * program_size (plain_program program)) target (integer_line shown.value)

-- where n turns are enough for the source, n + 1 times its `malloc`s, and as often their fields, are memory enough for
-- any number of its instructions: with so many spare `run` never wants memory
abbrev pub CompiledIsCovered : Type 0
CompiledIsCovered =
    (source target : List ℕ) → IsCompiled source target →
    (term : Tm) → IsChecked source term TInt → (turns : ℕ) (value : ℤ) → Evaluates (plain term) turns value →
    (program : SProg) → IsAcceptedText target program → (tuples fields : ℕ) →
    (turns + 1) * mallocs (plain_program program) ≤ tuples →
    (turns + 1) * malloc_fields (plain_program program) ≤ fields →
    (steps : ℕ) → Covers (plain_program program) 0 steps tuples fields

-- it never sticks
abbrev pub CompiledNeverSticks : Type 0
CompiledNeverSticks =
    (source target : List ℕ) → IsCompiled source target → (program : SProg) → IsAcceptedText target program →
    NeverSticks (plain_program program)

-- it goes on after every number of instructions exactly where the source is spent at every number of turns
abbrev pub CompiledGoesOn : Type 0
CompiledGoesOn =
    (source target : List ℕ) → IsCompiled source target →
    (term : Tm) → IsChecked source term TInt → (program : SProg) → IsAcceptedText target program →
    ((turns : ℕ) → IsSpent (plain term) turns) ↔ ((fuel : ℕ) → GoesOnAfter (plain_program program) fuel)

-- The same of a text within registers 1 to k. It is compiled (`IsCompiledWithin.compiled`), so all laws above hold of
-- it; those that `run` and `check` show stand here once more.
abbrev pub BoundedIsTaken : Type 0
BoundedIsTaken = (k : ℕ) (source target : List ℕ) → IsCompiledWithin k source target → IsTaken AnAssembly target

abbrev pub BoundedMeansTheSame : Type 0
BoundedMeansTheSame =
    (k : ℕ) (source target : List ℕ) → IsCompiledWithin k source target →
    (term : Tm) → IsChecked source term TInt → (program : SProg) → IsAcceptedText target program →
    ∥ SameMeaning (plain term) (plain_program program) ∥₁

abbrev pub BoundedShowsTheSame : Type 0
BoundedShowsTheSame =
    (k : ℕ) (source target evaluated ran : List ℕ) → IsCompiledWithin k source target → (turns fuel : ℕ) →
    (value : ValueShown turns source evaluated) → (halted : HaltedShown fuel target ran) →
    value.value ≡ halted.value

-- and the program that is read of it has no register above k
abbrev pub BoundedHasFewRegisters : Type 0
BoundedHasFewRegisters =
    (k : ℕ) (source target : List ℕ) → IsCompiledWithin k source target →
    (program : SProg) → IsAcceptedText target program → ∥ RegistersUpTo k (plain_program program) ∥₁

-- `check`, `run` and `upgrade` take a text that `upgrade` wrote: it stands for a program that the typing rules accept
abbrev pub UpgradedIsTaken : Type 0
UpgradedIsTaken = (source target : List ℕ) → IsUpgraded source target → IsTaken AnAssembly target

-- it never sticks
abbrev pub UpgradedNeverSticks : Type 0
UpgradedNeverSticks =
    (source target : List ℕ) → IsUpgraded source target → (program : SProg) → IsAcceptedText target program →
    NeverSticks (plain_program program)

-- its program is that of the old text, places aside
abbrev pub UpgradedIsTheSame : Type 0
UpgradedIsTheSame =
    (source target : List ℕ) → IsUpgraded source target →
    (old new : SProg) → IsAcceptedText source old → IsAcceptedText target new →
    plain_program old ≡ plain_program new

-- so `run` shows of it what it shows of the old text, with the same status
abbrev pub UpgradedRunsTheSame : Type 0
UpgradedRunsTheSame =
    (source target : List ℕ) → IsUpgraded source target → (fuel : ℕ) (status : Status) (line : List ℕ) →
    ShowsRun fuel status source line ↔ ShowsRun fuel status target line

-- and `trace` what it shows of the old text
abbrev pub UpgradedTracesTheSame : Type 0
UpgradedTracesTheSame =
    (source target : List ℕ) → IsUpgraded source target → (from to : ℕ) (status : Status) (lines : List ℕ) →
    ShowsTrace from to status source lines ↔ ShowsTrace from to status target lines

-- one text is written for one program: two written texts whose programs are the same, places aside, are the same bytes
abbrev pub OneWrittenText : Type 0
OneWrittenText =
    (P Q : TProg) (a b : List ℕ) → IsWritten P a → IsWritten Q b → (p q : SProg) → IsAssembly a p → IsAssembly b q →
    plain_program p ≡ plain_program q → a ≡ b

-- two source texts of one program, places aside, are compiled to the same bytes; so a text is compiled to one text
abbrev pub OneCompiledText : Type 0
OneCompiledText =
    (s t a b : List ℕ) → IsMadeByPasses s a → IsMadeByPasses t b →
    (e f : Tm) → IsChecked s e TInt → IsChecked t f TInt → plain e ≡ plain f → a ≡ b

-- so too within registers 1 to k
abbrev pub OneBoundedText : Type 0
OneBoundedText =
    (k : ℕ) (s t a b : List ℕ) → IsMadeByPassesWithin k s a → IsMadeByPassesWithin k t b →
    (e f : Tm) → IsChecked s e TInt → IsChecked t f TInt → plain e ≡ plain f → a ≡ b

-- a text is upgraded to one text at most
abbrev pub OneUpgrade : Type 0
OneUpgrade = (source a b : List ℕ) → IsUpgraded source a → IsUpgraded source b → a ≡ b

-- what `upgrade` wrote is upgraded to the same bytes
abbrev pub UpgradedIsKept : Type 0
UpgradedIsKept = (source target again : List ℕ) → IsUpgraded source target → IsUpgraded target again → again ≡ target

-- and so is what `compile` wrote
abbrev pub CompiledIsKept : Type 0
CompiledIsKept = (source target again : List ℕ) → IsTranslated source target → IsUpgraded target again → again ≡ target

-- also within registers 1 to k
abbrev pub BoundedIsKept : Type 0
BoundedIsKept =
    (k : ℕ) (source target again : List ℕ) → IsTranslatedWithin k source target → IsUpgraded target again →
    again ≡ target

-- what `show` shows of a text in a form is one text
abbrev pub OneForm : Type 0
OneForm = (form : Form) (source a b : List ℕ) → FormShown form source a → FormShown form source b → a ≡ b

-- what it shows as `assembly` is what `compile` writes
abbrev pub ShownAssemblyIsCompiled : Type 0
ShownAssemblyIsCompiled =
    (source target text : List ℕ) → IsMadeByPasses source target → FormShown Assembly source text → text ≡ target

-- what it shows as `source` stands for the term of the source text, places aside, and for no other
abbrev pub ShownSourceIsTheSame : Type 0
ShownSourceIsTheSame =
    (source text : List ℕ) → (shown : FormShown Source source text) →
    ((again : Tm) × StandsFor text again)
    × ((again : Tm) → StandsFor text again → plain again ≡ plain shown.term)

-- it is a text of a program, where it has no more bytes than a source may have
abbrev pub ShownSourceIsTaken : Type 0
ShownSourceIsTaken = (source text : List ℕ) → FormShown Source source text → FewBytes text → IsTaken AProgram text

-- each form that is shown of it is the one that is shown of the source text
abbrev pub ShownSourceShowsTheSame : Type 0
ShownSourceShowsTheSame =
    (form : Form) (source text a b : List ℕ) → FormShown Source source text → FormShown form source a →
    FormShown form text b → a ≡ b

-- so it is shown again as the same bytes
abbrev pub ShownSourceIsKept : Type 0
ShownSourceIsKept =
    (source text again : List ℕ) → FormShown Source source text → FormShown Source text again → again ≡ text
