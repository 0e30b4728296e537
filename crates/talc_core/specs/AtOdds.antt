-- What is told of the first fault of a text besides its code and its place: of the types that are at odds, where the
-- text is read; and else of what could stand at the place, where that is by the grammar.
use Rattle.std.specs.Prelude.{◌≡◌, ◌≢◌, ◌⊎◌, ℕ, List, [], Option, None, option_map}
use Rattle.idx_core.specs.declared.span.Span.{Span}
use Rattle.f_terms.specs.declared.fault.Code.{Code}
use Rattle.f_terms.specs.Ty.{Ty, TInt, NoTys}
use Rattle.f_terms.specs.Tm.{Tm}
use Rattle.f_terms.specs.Read.{place}
use Rattle.f_terms.specs.Mismatch.{Mismatch as SourceMismatch}
use Rattle.f_terms.specs.Faults.{FaultWith}
use Rattle.t_terms.specs.declared.fault.TCode.{TCode}
use Rattle.t_terms.specs.Spanned.{SProg}
use Rattle.t_text.specs.Text as assembly
use Rattle.t_rules.specs.Mismatch.{Mismatch}
use Rattle.t_rules.specs.Faults.{ProgramFaultWith}
use Rattle.talc_faults.specs.Line.{not_int_line}
use Rattle.talc_faults.specs.Apart.{source_lines, assembly_lines}
use Rattle.talc_faults.specs.Form.{form_of, found_form}
use Rattle.talc_faults.specs.Value.{of_spn, value_place}
use Rattle.talc_faults.specs.declared.type_form.Form.{Form}
use Rattle.talc_faults.specs.declared.type_form.Form.TheVariants.{Untold}
use Rattle.talc_core.specs.declared.fault.Fault.{Fault}
use Rattle.talc_core.specs.declared.fault.Fault.TheVariants.{Source, Tal}
use Rattle.talc_core.specs.FirstFault.{IsParsed, IsChecked, IsAssembly, ReadingFault}
use Rattle.talc_core.specs.Wanted.{CouldStand}

-- what is told of a fault: the lines on what is at odds, the form of the type that is found, and the place of the value
-- of the whole, where that is no program
pub record Told : Type 0 where
  pub lines : List ℕ
  pub form : Form
  pub value : Option Span

abbrev pub with_no_value : List ℕ → Form → Told
with_no_value lines form = record { lines = lines; form = form; value = None }

-- of a text that is not read: the line on what could stand at the place, or nothing
abbrev pub unread_told : List ℕ → Told
unread_told wanted = with_no_value wanted Untold

abbrev pub untold : Told
untold = unread_told []

-- of types of a source that are at odds
abbrev pub source_told : Option SourceMismatch → Told
source_told m = with_no_value (source_lines m) (found_form m)

-- of a term that is no program, since it has this type
abbrev pub whole_told : Tm → Ty → Told
whole_told e t = record { lines = not_int_line t; form = form_of t; value = option_map of_spn (value_place e) }

-- of types of an assembly text that are at odds
abbrev pub assembly_told : Option Mismatch → Told
assembly_told m = with_no_value (assembly_lines m) Untold

-- the source text is not read: what could stand at the place is told
abbrev pub UnreadSource : List ℕ → Code → Span → Told → Type 0
UnreadSource text code span told =
    ReadingFault text code span × CouldStand text (Source code span) told.lines × (told ≡ unread_told told.lines)

-- it is read, and the rule that is broken says what is at odds
pub record SourceAtOdds (text : List ℕ) (code : Code) (span : Span) (told : Told) : Type 0 where
  pub term : Tm
  pub read : IsParsed text term
  pub mismatch : Option SourceMismatch
  pub fault : FaultWith term 0 NoTys code (place span) mismatch
  pub is : told ≡ source_told mismatch

-- the term has a type, which is not int
pub record NotInt (text : List ℕ) (told : Told) : Type 0 where
  pub term : Tm
  pub type : Ty
  pub checked : IsChecked text term type
  pub other : type ≢ TInt
  pub is : told ≡ whole_told term type

-- the assembly text is not read: what could stand at the place is told
abbrev pub UnreadAssembly : List ℕ → TCode → Span → Told → Type 0
UnreadAssembly text code span told =
    assembly.FirstFault text code span × CouldStand text (Tal code span) told.lines × (told ≡ unread_told told.lines)

-- it is read, and the rule that is broken says what is at odds
pub record AssemblyAtOdds (text : List ℕ) (code : TCode) (span : Span) (told : Told) : Type 0 where
  pub program : SProg
  pub read : IsAssembly text program
  pub mismatch : Option Mismatch
  pub fault : ProgramFaultWith program code span mismatch
  pub is : told ≡ assembly_told mismatch

-- what is told of a fault of the text
abbrev pub AtOdds : List ℕ → Fault → Told → Type 0
AtOdds text (Source code span) told =
    UnreadSource text code span told ⊎ SourceAtOdds text code span told ⊎ NotInt text told
AtOdds text (Tal code span) told = UnreadAssembly text code span told ⊎ AssemblyAtOdds text code span told
