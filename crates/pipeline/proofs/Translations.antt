-- The forms of the program that the passes make are those of a translation.
use Rattle.std.proofs.Common.{◌≡◌, ◌∙◌, refl, sym, ap, ap₂}
use Rattle.talc_words.specs.declared.form.Form.{Form}
use Rattle.talc_words.specs.declared.form.Form.TheVariants.{Source, Cps, Closed, Hoisted, Allocated, Assembly}
use Rattle.f_terms.specs.Tm.{Term}
use Rattle.c_rules.specs.Close.{close_of}
use Rattle.h_pass.specs.Hoist.{blocks_of, main_of}
use Rattle.a_laws.specs.Allocate.{alloc_prog, alloc_main}
use Rattle.kc_notation.specs.Notation.{c_text, k_text}
use Rattle.h_notation.specs.Notation.{h_text}
use Rattle.a_notation.specs.Notation.{a_text}
use Rattle.t_terms.specs.Tree.{TProg}
use Rattle.pipeline.specs.Compilation.{IsTranslation}
use Rattle.pipeline.specs.Made.{IsMade, compiled_program}
use Rattle.pipeline.specs.OneProgram.{AsMade, MadeIsTranslated}
use Rattle.pipeline.specs.Forms.{assembly_text, closed_term, form_text}
use Rattle.pipeline.specs.Translated.{FormsAreOfTranslations, IsFormOf, text_in}

module _ (e : Term) (P : TProg) (made : IsMade e P) (t : IsTranslation e P) (as_made : AsMade e P t) where
  closed_is : closed_term e ≡ t.closed
  closed_is = ap close_of (sym as_made.converted) ∙ sym as_made.closed

  blocks_are : blocks_of (closed_term e) ≡ t.blocks
  blocks_are = ap blocks_of closed_is ∙ sym as_made.blocks

  main_is : main_of (closed_term e) ≡ t.main
  main_is = ap main_of closed_is ∙ sym as_made.main

  same : (form : Form) → form_text form e ≡ text_in form e P t
  same Source = refl
  same (Cps typed) = ap (k_text typed) (sym as_made.converted)
  same (Closed typed) = ap (c_text typed) closed_is
  same (Hoisted typed) = ap₂ (h_text typed) blocks_are main_is
  same (Allocated typed) =
      ap₂ (a_text typed) (ap₂ alloc_prog blocks_are main_is ∙ sym as_made.allocated)
      (ap₂ alloc_main blocks_are main_is ∙ sym as_made.start)
  same Assembly = ap assembly_text (sym made.is)

  pub is_form : (form : Form) → IsFormOf form e (form_text form e)
  is_form form = record { program = P; translation = t; made = made; as_made = as_made; is = same form }

pub forms_are_of_translations : MadeIsTranslated → FormsAreOfTranslations
forms_are_of_translations translated form e program =
    let P : TProg = compiled_program e in
    let made : IsMade e P = record { is = refl } in
    let found = translated e P program made in
    is_form e P made found.0 found.1 form
