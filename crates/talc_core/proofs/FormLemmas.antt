-- What `show` shows: one text of each form, for `assembly` the one that `compile` writes, and for `source` a text of
-- the same term.
use Rattle.std.proofs.Common.{◌≡◌, ◌∙◌, ℕ, Bool, true, false, List, refl, sym, ap, subst, true≢false}
use Rattle.std.proofs.Math.Logic.{∥∥₁_elim}
use Rattle.std.proofs.lemmas.Slice.Eq.{bytes_eq-Decides}
use Rattle.std.specs.Str.{bytes_eq}
use Rattle.f_terms.specs.Ty.{TInt}
use Rattle.f_terms.specs.Tm.{Term, Tm, plain}
use Rattle.f_terms.specs.Accepted.{IsAccepted}
use Rattle.f_grammar.specs.Text.{Source as StandsFor, FewBytes}
use Rattle.f_writer.specs.Laws.{WrittenTwiceIsWrittenOnce, WrittenTextsAreWithin}
use Rattle.talc_words.specs.declared.form.Form.{Form}
use Rattle.talc_words.specs.declared.form.Form.TheVariants.{Source, Assembly}
use Rattle.t_terms.specs.Tree.{TProg}
use Rattle.t_spill_laws.specs.Bound.{RegistersUpTo}
use Rattle.t_spill_rules.specs.Spill.{spilled}
use Rattle.pipeline.specs.Made.{compiled_program}
use Rattle.pipeline.specs.Forms.{assembly_text, form_text}
use Rattle.pipeline.specs.Translated.{FormsAreOfTranslations, IsFormOf}
use Rattle.talc_core.specs.FirstFault.{AProgram, IsChecked, IsTaken}
use Rattle.talc_core.specs.FormShown.{FormShown}
use Rattle.talc_core.specs.Made.{IsMadeWithin}
use Rattle.talc_core.specs.Composition.{OneCompiledText, OneBoundedText, OneForm, ShownAssemblyIsCompiled}
use Rattle.talc_core.specs.Composition.{ShownSourceIsTheSame, ShownSourceIsTaken}
use Rattle.talc_core.specs.Composition.{ShownSourceShowsTheSame, ShownSourceIsKept}
use Rattle.talc_core.specs.TextLaws.{TextLaws}
use Rattle.talc_core.proofs.FaultLemmas.{same_term}

-- what is shown of a text, from the text of its program's form
pub form_shown : FormsAreOfTranslations → (form : Form) (source text : List ℕ) (term : Tm) →
    IsChecked source term TInt →
    text ≡ form_text form (plain term) → FormShown form source text
form_shown laws form source text term checked is = record {
  term = term;
  checked = checked;
  is = is;
  by_rules = subst (IsFormOf form (plain term)) (sym is) (laws form (plain term) checked.1.0);
}

-- bytes are equal where they cannot differ
equal_bytes : (a b : List ℕ) → ¬ (¬ (a ≡ b)) → a ≡ b
equal_bytes a b never = go (bytes_eq a b) refl
  where
    go : (r : Bool) → bytes_eq a b ≡ r → a ≡ b
    go true e = (bytes_eq-Decides a b).0 e
    go false e = absurd (never (λ same. true≢false (sym ((bytes_eq-Decides a b).1 same) ∙ e)))

-- programs that are made of one term within registers 1 to k cannot differ
made_alike : (k : ℕ) (e f : Term) (P Q : TProg) → IsMadeWithin k e P → IsMadeWithin k f Q → e ≡ f → ¬ (¬ (P ≡ Q))
made_alike k e f P Q m n terms differ =
    let T = m.by_rules.translated in
    let U = n.by_rules.translated in
    let same : T ≡ U = m.made.is ∙ (ap compiled_program terms ∙ sym n.made.is) in
    let many : RegistersUpTo k T → ⊥ =
    λ few. differ (m.by_rules.stays few ∙ (same ∙ sym (n.by_rules.stays (subst (RegistersUpTo k) same few)))) in
    let more : RegistersUpTo k U → ⊥ = λ few. many (subst (RegistersUpTo k) (sym same) few) in
    differ (m.by_rules.framed many ∙ (ap (spilled k) same ∙ sym (n.by_rules.framed more)))

module _ (laws : TextLaws) where
  -- one term for all that is shown of a text
  one_term : (f g : Form) (source a b : List ℕ) (x : FormShown f source a) (y : FormShown g source b) → x.term ≡ y.term
  one_term f g source a b x y = same_term laws source x.term y.term x.checked.0 y.checked.0

  pub one_form : OneForm
  one_form form source a b x y =
      x.is ∙ (ap (λ t. form_text form (plain t)) (one_term form form source a b x y) ∙ sym y.is)

  pub assembly_is_compiled : ShownAssemblyIsCompiled
  assembly_is_compiled source target text made shown =
      let same : shown.term ≡ made.term = same_term laws source shown.term made.term shown.checked.0 made.checked.0 in
      let is : text ≡ form_text Assembly (plain made.term) =
      shown.is ∙ ap (λ t. form_text Assembly (plain t)) same in
      is ∙ (ap assembly_text (sym made.made.is) ∙ sym made.written.is)

  -- terms that are read of two texts, which are the same, places aside
  same_plain : (s t : List ℕ) (x y e f : Tm) → IsChecked s x TInt → IsChecked t y TInt → IsChecked s e TInt →
      IsChecked t f TInt → plain e ≡ plain f → plain x ≡ plain y
  same_plain s t x y e f of_x of_y of_e of_f same =
      let xe : plain x ≡ plain e = ap plain (same_term laws s x e of_x.0 of_e.0) in
      let yf : plain y ≡ plain f = ap plain (same_term laws t y f of_y.0 of_f.0) in
      xe ∙ (same ∙ sym yf)

  pub one_compiled_text : OneCompiledText
  one_compiled_text s t a b x y e f of_e of_f same =
      let terms : plain x.term ≡ plain y.term =
      same_plain s t x.term y.term e f x.checked y.checked of_e of_f same in
      let programs : x.program ≡ y.program = x.made.is ∙ (ap compiled_program terms ∙ sym y.made.is) in
      x.written.is ∙ (ap assembly_text programs ∙ sym y.written.is)

  pub one_bounded_text : OneBoundedText
  one_bounded_text k s t a b x y e f of_e of_f same =
      let terms : plain x.term ≡ plain y.term =
      same_plain s t x.term y.term e f x.checked y.checked of_e of_f same in
      equal_bytes a b (λ differ.
      ∥∥₁_elim x.made (λ u v. absurd u) (λ (m : IsMadeWithin k (plain x.term) x.program).
      ∥∥₁_elim y.made (λ u v. absurd u) (λ (n : IsMadeWithin k (plain y.term) y.program).
      made_alike k (plain x.term) (plain y.term) x.program y.program m n terms
      (λ programs. differ (x.written.is ∙ (ap assembly_text programs ∙ sym y.written.is))))))

pub source_is_the_same : WrittenTwiceIsWrittenOnce → ShownSourceIsTheSame
source_is_the_same once source text shown =
    let written = once source shown.term shown.checked.0.few_bytes shown.checked.0.source in (
      (written.0.0, subst (λ t. StandsFor t written.0.0) (sym shown.is) written.0.1),
      λ again stands. (written.1 again (subst (λ t. StandsFor t again) shown.is stands)).0,
    )

pub source_is_taken : WrittenTextsAreWithin → ShownSourceIsTaken
source_is_taken within source text shown few =
    let found = within source shown.term shown.checked.0 (subst FewBytes shown.is few) in
    subst (IsTaken AProgram) (sym shown.is)
    (found.0, (found.1, subst (λ e. IsAccepted e TInt) (sym found.2) shown.checked.1))

pub source_shows_the_same : TextLaws → WrittenTwiceIsWrittenOnce → ShownSourceShowsTheSame
source_shows_the_same laws once form source text a b shown x y =
    let again : plain y.term ≡ plain shown.term =
    (source_is_the_same once source text shown).1 y.term y.checked.0.source in
    let same : x.term ≡ shown.term = one_term laws form Source source a text x shown in
    x.is ∙ (ap (λ t. form_text form (plain t)) same ∙ (ap (form_text form) (sym again) ∙ sym y.is))

pub source_is_kept : TextLaws → WrittenTwiceIsWrittenOnce → ShownSourceIsKept
source_is_kept laws once source text again shown once_more =
    sym (source_shows_the_same laws once Source source text text again shown shown once_more)
