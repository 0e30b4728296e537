-- What `show` shows of a source text: a form of its program.
use Rattle.std.specs.Prelude.{◌≡◌, ℕ, List}
use Rattle.f_terms.specs.Ty.{TInt}
use Rattle.f_terms.specs.Tm.{Tm, plain}
use Rattle.talc_words.specs.declared.form.Form.{Form}
use Rattle.pipeline.specs.Forms.{form_text}
use Rattle.pipeline.specs.Translated.{IsFormOf}
use Rattle.talc_core.specs.declared.status.Status.TheVariants.{Done}
use Rattle.talc_core.specs.FirstFault.{IsChecked}
use Rattle.talc_core.specs.Shown.{Showing}

-- The source text is a text of a program, and the text shown is the notation of that form of it: of the program of
-- that form on the way of a translation by the rules of the passes in turn. A text stands for one term at most, so
-- both parts speak of the same.
pub record FormShown (form : Form) (source text : List ℕ) : Type 0 where
  pub term : Tm
  pub checked : IsChecked source term TInt
  pub is : text ≡ form_text form (plain term)
  pub by_rules : IsFormOf form (plain term) text

abbrev pub ShowsForm : Form → Showing
ShowsForm form Done source text = FormShown form source text
ShowsForm form other source text = ⊥
