-- What `explain` shows of a text.
use Rattle.std.specs.Prelude.{◌≡◌, ◌⊎◌, ◌↔◌, ℕ, List, true, if◌then◌else◌, codes}
use Rattle.page_core.specs.Page.{page}
use Rattle.t_text.specs.Kind.{begins_with_tal}
use Rattle.talc_core.specs.declared.fault.Fault.{Fault}
use Rattle.talc_core.specs.declared.fault.Fault.TheVariants.{Source, Tal}
use Rattle.talc_core.specs.declared.status.Status.TheVariants.{Done}
use Rattle.talc_core.specs.Lines.{source_code, source_words, tal_code, tal_words}
use Rattle.talc_faults.specs.Hints.{source_hint_at, tal_hint_at}
use Rattle.talc_core.specs.FirstFault.{Need, AProgram, AnAssembly, FirstFault, IsTaken}
use Rattle.talc_core.specs.AtOdds.{Told, AtOdds}
use Rattle.talc_core.specs.Shown.{Showing}

-- the page of a fault of the text of this name, with what is told of it
abbrev pub explained : (name text : List ℕ) → Fault → Told → List ℕ
explained name text (Source code span) told =
    page name text (source_code code) (source_words code) span.start span.end told.value told.lines
    (source_hint_at text code span told.lines told.form)
explained name text (Tal code span) told =
    page name text (tal_code code) (tal_words code) span.start span.end told.value told.lines
    (tal_hint_at text code span told.lines)

abbrev pub no_fault : List ℕ
no_fault = codes "no fault\n"

-- what is looked for in a text: where its first token is the word `tal`, an assembly program that the typing rules
-- accept, as by `check`, and else a program of the source, as by `compile`
abbrev pub looked_for : List ℕ → Need
looked_for text = if begins_with_tal text then AnAssembly else AProgram

-- the text has this first fault, and the page of the fault is shown, with what is at odds
pub record FaultExplained (name text shown : List ℕ) : Type 0 where
  pub fault : Fault
  pub first : FirstFault (looked_for text) text fault
  pub told : Told
  pub at_odds : AtOdds text fault told
  pub is : shown ≡ explained name text fault told

-- the text is what is looked for
pub record NoFaultFound (text shown : List ℕ) : Type 0 where
  pub taken : IsTaken (looked_for text) text
  pub is : shown ≡ no_fault

abbrev pub ExplainShown : (name text shown : List ℕ) → Type 0
ExplainShown name text shown = FaultExplained name text shown ⊎ NoFaultFound text shown

-- what is shown of the text of a file of this name
abbrev pub ShowsExplained : List ℕ → Showing
ShowsExplained name Done text shown = ExplainShown name text shown
ShowsExplained name other text shown = ⊥

-- The laws.

-- of each text that `check` takes, `no fault` is shown
abbrev pub TakenIsExplained : Type 0
TakenIsExplained = (name text : List ℕ) → IsTaken AnAssembly text → ExplainShown name text no_fault

-- a page on this fault is shown of the text of this name
abbrev pub IsExplainedBy : (name text : List ℕ) → Fault → Type 0
IsExplainedBy name text fault = (shown : List ℕ) × (page : FaultExplained name text shown) × (page.fault ≡ fault)

-- of a text that begins as an assembly text, `no fault` is shown where `check` takes it, and a page on the fault for
-- which `check` refuses it, and of no other text and on no other fault
pub record IsExplainedAsChecked (name text : List ℕ) : Type 0 where
  pub taken : IsTaken AnAssembly text ↔ NoFaultFound text no_fault
  pub refused : (fault : Fault) → FirstFault AnAssembly text fault ↔ IsExplainedBy name text fault

abbrev pub CheckedIsExplained : Type 0
CheckedIsExplained = (name text : List ℕ) → begins_with_tal text ≡ true → IsExplainedAsChecked name text

-- one page is shown of a text of a name
abbrev pub OneExplanation : Type 0
OneExplanation = (name text a b : List ℕ) → ExplainShown name text a → ExplainShown name text b → a ≡ b
