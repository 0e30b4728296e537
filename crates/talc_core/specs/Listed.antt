-- What `listing` shows of an assembly text.
use Rattle.std.specs.Prelude.{◌≡◌, ◌⊎◌, ◌++◌, List, [], ℕ}
use Rattle.idx_core.specs.declared.span.Span.{Span}
use Rattle.t_terms.specs.declared.fault.TCode.{TCode}
use Rattle.t_terms.specs.Spanned.{SProg}
use Rattle.t_text.specs.Text as assembly
use Rattle.t_rules.specs.Faults as checking
use Rattle.listing.specs.Listing.{IsListing}
use Rattle.listing.specs.Begun.{IsListingTo}
use Rattle.talc_core.specs.declared.fault.Fault.{Fault}
use Rattle.talc_core.specs.declared.fault.Fault.TheVariants.{Source, Tal}
use Rattle.talc_core.specs.declared.status.Status.TheVariants.{Done, Refused, Limit}
use Rattle.talc_core.specs.Fault.{status_of}
use Rattle.talc_core.specs.FirstFault.{AnAssembly, FirstFault, IsAssembly, IsAcceptedText}
use Rattle.talc_core.specs.AtOdds.{Told, AtOdds}
use Rattle.talc_core.specs.Explained.{explained}
use Rattle.talc_core.specs.Shown.{Showing}

-- the assembly text stands for an accepted program, and its listing is shown
pub record ListingShown (text shown : List ℕ) : Type 0 where
  pub program : SProg
  pub accepted : IsAcceptedText text program
  pub listed : IsListing text program shown

abbrev pub ShowsListing : Showing
ShowsListing Done text shown = ListingShown text shown
ShowsListing other text shown = ⊥

-- ---- of a text that has a first fault

-- the text is read, this is the first fault of its program, and the rows are those of the program's listing up to the
-- place of the fault
pub record ProgramListed (text : List ℕ) (code : TCode) (span : Span) (rows : List ℕ) : Type 0 where
  pub program : SProg
  pub read : IsAssembly text program
  pub fault : checking.ProgramFault program code span
  pub listed : IsListingTo text program span rows

-- the rows of a text up to its first fault; none where it is not read, since it then stands for no program
abbrev pub RowsTo : List ℕ → Fault → List ℕ → Type 0
RowsTo text (Source code span) rows = ⊥
RowsTo text (Tal code span) rows =
    (assembly.FirstFault text code span × (rows ≡ [])) ⊎ ProgramListed text code span rows

-- the text of this name has this first fault, and what is shown is its listing up to the fault, and then its page
pub record FaultListed (name text : List ℕ) (fault : Fault) (shown : List ℕ) : Type 0 where
  pub rows : List ℕ
  pub told : Told
  pub first : FirstFault AnAssembly text fault
  pub listed : RowsTo text fault rows
  pub at_odds : AtOdds text fault told
  pub is : shown ≡ rows ++ explained name text fault told

-- what is shown of the text of a file of this name, by the status that it leads to
abbrev pub ShowsListed : List ℕ → Showing
ShowsListed name Done text shown = ListingShown text shown
ShowsListed name Refused text shown = (fault : Fault) × (status_of fault ≡ Refused) × FaultListed name text fault shown
ShowsListed name Limit text shown = (fault : Fault) × (status_of fault ≡ Limit) × FaultListed name text fault shown
ShowsListed name other text shown = ⊥

-- ---- the laws

-- one listing is shown of a text
abbrev pub OneListing : Type 0
OneListing = (text a b : List ℕ) → ListingShown text a → ListingShown text b → a ≡ b

-- and one up to a fault, with its page, of a text of a name
abbrev pub OneFaultListed : Type 0
OneFaultListed =
    (name text a b : List ℕ) (f g : Fault) → FaultListed name text f a → FaultListed name text g b →
    (f ≡ g) × (a ≡ b)
