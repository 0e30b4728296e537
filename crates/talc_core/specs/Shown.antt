-- What the commands that write no file show of a text, by the status that they end with.
use Rattle.std.specs.Prelude.{◌≡◌, ◌+◌, ℕ, ℤ, List, length, false}
use Rattle.f_terms.specs.Ty.{Ty, TInt}
use Rattle.f_terms.specs.Tm.{Tm, plain}
use Rattle.f_terms.specs.Cells.{has_cells}
use Rattle.f_terms.specs.Eval.{EvaluatesLeaving, IsSpent}
use Rattle.talc_core.specs.declared.status.Status.{Status}
use Rattle.talc_core.specs.declared.status.Status.TheVariants.{Done, Budget}
use Rattle.t_terms.specs.Spanned.{SProg, plain_program}
use Rattle.t_rules.specs.Machine.{HaltsWithin, Halts, GoesOnAfter, NeverSticks}
use Rattle.f_seeds.specs.Source.{source as source_of}
use Rattle.talc_core.specs.FirstFault.{IsChecked, IsAcceptedText}
use Rattle.talc_core.specs.CompiledText.{CompiledText}
use Rattle.talc_core.specs.Costed.{HaltedCost, RunningCost}
use Rattle.talc_core.specs.Traced.{HaltedStates, RunningStates}
use Rattle.talc_core.specs.Lines.{type_line, value_line, more_turns_line}
use Rattle.talc_core.specs.Lines.{accepted_line, integer_line, more_instructions_line, seed_lines}

-- the lines that a command may show of a text, with the status that it then ends with
abbrev pub Showing : Type 1
Showing = Status → List ℕ → List ℕ → Type 0

-- the source text is a text of a term, and the line is the text of its type
pub record TypeShown (source line : List ℕ) : Type 0 where
  pub term : Tm
  pub type : Ty
  pub checked : IsChecked source term type
  pub is : line ≡ type_line type

abbrev pub ShowsType : Showing
ShowsType Done source line = TypeShown source line
ShowsType other source line = ⊥

-- the source text is a text of a program without cells, it evaluates to an integer within so many turns, and the line
-- says that integer and how many of them were used
pub record ValueShown (turns : ℕ) (source line : List ℕ) : Type 0 where
  pub term : Tm
  pub value : ℤ
  pub used : ℕ
  pub left : ℕ
  pub checked : IsChecked source term TInt
  pub cell_free : has_cells (plain term) ≡ false
  pub evaluates : EvaluatesLeaving (plain term) turns value left
  pub turns_used : used + left ≡ turns
  pub is : line ≡ value_line value used

-- the source text is a text of a program without cells that goes on after so many turns, and the line says so
pub record SpentShown (turns : ℕ) (source line : List ℕ) : Type 0 where
  pub term : Tm
  pub checked : IsChecked source term TInt
  pub cell_free : has_cells (plain term) ≡ false
  pub spent : IsSpent (plain term) turns
  pub is : line ≡ more_turns_line turns

abbrev pub ShowsValue : ℕ → Showing
ShowsValue turns Done source line = ValueShown turns source line
ShowsValue turns Budget source line = SpentShown turns source line
ShowsValue turns other source line = ⊥

-- the assembly text stands for a program that the typing rules accept, it never gets stuck, and the line says so
pub record AcceptedShown (text line : List ℕ) : Type 0 where
  pub program : SProg
  pub accepted : IsAcceptedText text program
  pub never_sticks : NeverSticks (plain_program program)
  pub is : line ≡ accepted_line

abbrev pub ShowsAccepted : Showing
ShowsAccepted Done text line = AcceptedShown text line
ShowsAccepted other text line = ⊥

-- the assembly text stands for an accepted program, it halts with an integer within so many instructions, and the line
-- says that integer
pub record HaltedShown (fuel : ℕ) (text line : List ℕ) : Type 0 where
  pub program : SProg
  pub value : ℤ
  pub accepted : IsAcceptedText text program
  pub halts : HaltsWithin (plain_program program) fuel value
  pub is : line ≡ integer_line value

-- the assembly text stands for an accepted program whose state after so many instructions is neither halted nor stuck,
-- and the line says so
pub record RunningShown (fuel : ℕ) (text line : List ℕ) : Type 0 where
  pub program : SProg
  pub accepted : IsAcceptedText text program
  pub goes_on : GoesOnAfter (plain_program program) fuel
  pub is : line ≡ more_instructions_line fuel

abbrev pub ShowsRun : ℕ → Showing
ShowsRun fuel Done text line = HaltedShown fuel text line
ShowsRun fuel Budget text line = RunningShown fuel text line
ShowsRun fuel other text line = ⊥

-- The assembly text stands for an accepted program, and the lines are those of one that halts within so many
-- instructions, or of one that goes on after them.
abbrev pub ShowsOfRun : (Halted Running : List ℕ → SProg → List ℕ → Type 0) → Showing
ShowsOfRun Halted Running Done text lines =
    (program : SProg) × IsAcceptedText text program × Halted text program lines
ShowsOfRun Halted Running Budget text lines =
    (program : SProg) × IsAcceptedText text program × Running text program lines
ShowsOfRun Halted Running other text lines = ⊥

-- The lines are those of the program's states from one number of instructions to another, as far as it comes, and what
-- `run` shows of it.
abbrev pub ShowsTrace : (from to : ℕ) → Showing
ShowsTrace from to =
    ShowsOfRun (λ text program lines. HaltedStates (plain_program program) from to lines)
    (λ text program lines. RunningStates (plain_program program) from to lines)

-- The lines are the page of what its run made within so many instructions, and what `run` shows of it.
abbrev pub ShowsCost : (fuel : ℕ) → Showing
ShowsCost fuel = ShowsOfRun (HaltedCost fuel) (RunningCost fuel)

-- the turns within which `gen` evaluates
abbrev pub seed_turns : ℕ
seed_turns = 1000000

-- The source of the seed is a text of a program, which evaluates to an integer. It is compiled, as by `compile`, to a
-- text of an accepted program, which halts with the same integer. The lines say so, with the number of bytes and that
-- of turns.
pub record SeedShown (seed : ℕ) (lines : List ℕ) : Type 0 where
  pub term : Tm
  pub value : ℤ
  pub used : ℕ
  pub left : ℕ
  pub target : List ℕ
  pub program : SProg
  pub checked : IsChecked (source_of seed) term TInt
  pub evaluates : EvaluatesLeaving (plain term) seed_turns value left
  pub turns_used : used + left ≡ seed_turns
  pub compiled : CompiledText (source_of seed) target
  pub accepted : IsAcceptedText target program
  pub halts : Halts (plain_program program) value
  pub is : lines ≡ seed_lines (length (source_of seed)) value used value
