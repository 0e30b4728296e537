-- The first fault of a text, in the one order: reading, checking, and what a command needs beyond that.
use Rattle.std.specs.Prelude.{◌≡◌, ◌≢◌, ◌≤◌, ◌⊎◌, ℕ, List, length, true, false}
use Rattle.idx_core.specs.declared.span.Span.{Span}
use Rattle.f_terms.specs.declared.fault.Code.{Code}
use Rattle.f_terms.specs.declared.fault.Code.TheVariants.{E15, E19}
use Rattle.f_terms.specs.Ty.{Ty, TInt, NoTys}
use Rattle.f_terms.specs.Tm.{Tm, plain, span_of}
use Rattle.f_terms.specs.Cells.{has_cells}
use Rattle.f_terms.specs.Read.{place}
use Rattle.f_terms.specs.Accepted.{IsAccepted}
use Rattle.f_terms.specs.Faults as typing
use Rattle.f_grammar.specs.Text as parser
use Rattle.t_types.specs.WellFormed.{max_number}
use Rattle.t_terms.specs.declared.fault.TCode.{TCode}
use Rattle.t_terms.specs.Spanned.{SProg, plain_program}
use Rattle.t_text.specs.Text as assembly
use Rattle.t_rules.specs.Rules.{Accepted}
use Rattle.t_rules.specs.Faults as checking
use Rattle.talc_core.specs.declared.fault.Fault.{Fault}
use Rattle.talc_core.specs.declared.fault.Fault.TheVariants.{Source, Tal}

-- what a command needs of a text: nothing, a term of any type, a program, a program without cells, or an assembly
-- program that the typing rules accept
pub data Need : Type 0 where
  AnyText : Need
  AnyTerm : Need
  AProgram : Need
  CellFree : Need
  AnAssembly : Need

-- the text is read: it stands for the term, within the limits of reading
abbrev pub IsParsed : List ℕ → Tm → Type 0
IsParsed text term = parser.SourceWithin text term

-- the text is read, and its term has the type and keeps the limits on types
abbrev pub IsChecked : List ℕ → Tm → Ty → Type 0
IsChecked text term type = IsParsed text term × IsAccepted (plain term) type

-- the text is not read, by the first fault of reading
abbrev pub ReadingFault : List ℕ → Code → Span → Type 0
ReadingFault text code span = parser.FirstFault text code span

-- the text is read, and this is its term's first fault in checking order
pub record CheckingFault (text : List ℕ) (code : Code) (span : Span) : Type 0 where
  pub term : Tm
  pub read : IsParsed text term
  pub fault : typing.Fault term 0 NoTys code (place span)

-- E15, at the whole term: the type is not int
pub record NotAProgram (text : List ℕ) (code : Code) (span : Span) : Type 0 where
  pub term : Tm
  pub type : Ty
  pub checked : IsChecked text term type
  pub other : type ≢ TInt
  pub is_code : code ≡ E15
  pub whole : place span ≡ span_of term

-- E19, at the whole term: the program has cells, which are not evaluated
pub record OfCells (text : List ℕ) (code : Code) (span : Span) : Type 0 where
  pub term : Tm
  pub checked : IsChecked text term TInt
  pub cells : has_cells (plain term) ≡ true
  pub is_code : code ≡ E19
  pub whole : place span ≡ span_of term

-- of a text that is to be a term: the first fault of reading, then of checking
abbrev pub TermFault : List ℕ → Code → Span → Type 0
TermFault text code span = ReadingFault text code span ⊎ CheckingFault text code span

-- of a text that is to be a program: then E15
abbrev pub ProgramFault : List ℕ → Code → Span → Type 0
ProgramFault text code span = TermFault text code span ⊎ NotAProgram text code span

-- of a text that is to be evaluated: then E19
abbrev pub CellFault : List ℕ → Code → Span → Type 0
CellFault text code span = ProgramFault text code span ⊎ OfCells text code span

-- the assembly text is read: it stands for the program, within the limit on open constructs
abbrev pub IsAssembly : List ℕ → SProg → Type 0
IsAssembly text program = assembly.ReadsAs text program

-- the assembly text is read, and the typing rules accept its program
abbrev pub IsAcceptedText : List ℕ → SProg → Type 0
IsAcceptedText text program = IsAssembly text program × Accepted (plain_program program)

-- the assembly text is read, and this is its program's first fault in checking order
pub record AcceptingFault (text : List ℕ) (code : TCode) (span : Span) : Type 0 where
  pub program : SProg
  pub read : IsAssembly text program
  pub fault : checking.ProgramFault program code span

-- of an assembly text: the first fault of reading, then of checking
abbrev pub AssemblyFault : List ℕ → TCode → Span → Type 0
AssemblyFault text code span = assembly.FirstFault text code span ⊎ AcceptingFault text code span

-- the first fault of a text of which this is needed
abbrev pub FirstFault : Need → List ℕ → Fault → Type 0
FirstFault AnyTerm text (Source code span) = TermFault text code span
FirstFault AProgram text (Source code span) = ProgramFault text code span
FirstFault CellFree text (Source code span) = CellFault text code span
FirstFault AnAssembly text (Tal code span) = AssemblyFault text code span
FirstFault _ text _ = ⊥

-- the text is one of which this is needed
abbrev pub IsTaken : Need → List ℕ → Type 0
IsTaken AnyText text = Unit {0}
IsTaken AnyTerm text = (term : Tm) × (type : Ty) × IsChecked text term type
IsTaken AProgram text = (term : Tm) × IsChecked text term TInt
IsTaken CellFree text = (term : Tm) × IsChecked text term TInt × (has_cells (plain term) ≡ false)
IsTaken AnAssembly text = (program : SProg) × IsAcceptedText text program

-- The laws.

-- two first faults of a text are equal
abbrev pub OneFault : Type 0
OneFault = (need : Need) (text : List ℕ) (a b : Fault) → FirstFault need text a → FirstFault need text b → a ≡ b

-- a text that is what is needed has no fault
abbrev pub NoFaultWhereTaken : Type 0
NoFaultWhereTaken = (need : Need) (text : List ℕ) (a : Fault) → IsTaken need text → FirstFault need text a → ⊥

-- an assembly text has no more bytes than a slice of memory may have, so that its names and labels can be counted; a
-- source that is longer than it may be has a fault of its own
abbrev pub FitsMemory : Need → List ℕ → Type 0
FitsMemory AnAssembly text = length text ≤ max_number
FitsMemory other text = Unit {0}

-- each text is what is needed, or has a first fault
abbrev pub TakenOrFault : Type 0
TakenOrFault = (need : Need) (text : List ℕ) → FitsMemory need text →
    IsTaken need text ⊎ ((a : Fault) × FirstFault need text a)
