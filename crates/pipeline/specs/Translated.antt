-- When a text is the notation of a form of a term by the rules of the passes.
use Rattle.std.specs.Prelude.{◌≡◌, ℕ, List}
use Rattle.talc_words.specs.declared.form.Form.{Form}
use Rattle.talc_words.specs.declared.form.Form.TheVariants.{Source, Cps, Closed, Hoisted, Allocated, Assembly}
use Rattle.f_terms.specs.Tm.{Term}
use Rattle.f_terms.specs.Typing.{IsProgram}
use Rattle.f_writer.specs.Notation.{term_text}
use Rattle.kc_notation.specs.Notation.{c_text, k_text}
use Rattle.h_notation.specs.Notation.{h_text}
use Rattle.a_notation.specs.Notation.{a_text}
use Rattle.t_terms.specs.Tree.{TProg}
use Rattle.pipeline.specs.Compilation.{IsTranslation}
use Rattle.pipeline.specs.Made.{IsMade}
use Rattle.pipeline.specs.OneProgram.{AsMade}
use Rattle.pipeline.specs.Forms.{assembly_text, form_text}

-- the notation of the program of a form in a translation
abbrev pub text_in : Form → (e : Term) (P : TProg) → IsTranslation e P → List ℕ
text_in Source e P t = term_text e
text_in (Cps typed) e P t = k_text typed t.converted
text_in (Closed typed) e P t = c_text typed t.closed
text_in (Hoisted typed) e P t = h_text typed t.blocks t.main
text_in (Allocated typed) e P t = a_text typed t.allocated t.start
text_in Assembly e P t = assembly_text P

-- There is a translation of the term by the rules of the passes in turn, the one that the passes make, with the forms
-- on the way that they make, and the text is the notation of its program of that form.
pub record IsFormOf (form : Form) (e : Term) (text : List ℕ) : Type 0 where
  pub program : TProg
  pub translation : IsTranslation e program
  pub made : IsMade e program
  pub as_made : AsMade e program translation
  pub is : text ≡ text_in form e program translation

-- the law: the text of each form of a program is that of a translation
abbrev pub FormsAreOfTranslations : Type 0
FormsAreOfTranslations = (form : Form) (e : Term) → IsProgram e → IsFormOf form e (form_text form e)
