-- What `types` shows of a source text.
use Rattle.std.specs.Prelude.{◌≡◌, ◌++◌, List, ℕ}
use Rattle.f_terms.specs.Ty.{Ty}
use Rattle.f_terms.specs.Tm.{Tm}
use Rattle.types_page.specs.Page.{IsPage}
use Rattle.talc_core.specs.declared.status.Status.TheVariants.{Done}
use Rattle.talc_core.specs.FirstFault.{IsChecked}
use Rattle.talc_core.specs.Shown.{Showing, TypeShown}

-- the source text is a text of a term, and the page of what its forms bind, with the types, is shown
pub record TypesShown (text shown : List ℕ) : Type 0 where
  pub term : Tm
  pub type : Ty
  pub checked : IsChecked text term type
  pub page : IsPage text term type shown

abbrev pub ShowsTypes : Showing
ShowsTypes Done text shown = TypesShown text shown
ShowsTypes other text shown = ⊥

-- The laws.

-- one such page is shown of a text
abbrev pub OneTypesPage : Type 0
OneTypesPage = (text a b : List ℕ) → TypesShown text a → TypesShown text b → a ≡ b

-- its last line is the one that `typeof` shows of the text
abbrev pub TypesEndAsTypeof : Type 0
TypesEndAsTypeof = (text lines : List ℕ) → TypesShown text lines →
    (shown last : List ℕ) × TypeShown text last × (lines ≡ shown ++ last)
