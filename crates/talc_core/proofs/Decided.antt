-- Each text is what is needed of it, or has a first fault.
use Rattle.std.proofs.Common.{◌≡◌, ◌≢◌, ◌⊎◌, inl, inr, ℕ, List, Bool, true, false, refl, subst}
use Rattle.idx_core.specs.declared.span.Span.{Span}
use Rattle.f_terms.specs.declared.fault.Code.{Code}
use Rattle.f_terms.specs.declared.fault.Code.TheVariants.{E15, E19}
use Rattle.f_terms.specs.Ty.{Ty, TInt, TVar, TArrow, TAll, TTuple, TSome, TRef, NoTys}
use Rattle.f_terms.specs.Tm.{Tm, Spn, plain, span_of}
use Rattle.f_terms.specs.Cells.{has_cells}
use Rattle.f_terms.specs.Faults as typing
use Rattle.f_grammar.specs.Text as parser
use Rattle.t_terms.specs.declared.fault.TCode.{TCode}
use Rattle.t_terms.specs.Spanned.{SProg, plain_program}
use Rattle.t_text.specs.Text as assembly
use Rattle.t_rules.specs.Rules.{Accepted}
use Rattle.t_rules.specs.Faults as checking
use Rattle.talc_core.specs.declared.fault.Fault.{Fault}
use Rattle.talc_core.specs.declared.fault.Fault.TheVariants.{Source, Tal}
use Rattle.talc_core.specs.FirstFault.{AnyText, AnyTerm, AProgram, CellFree, AnAssembly, IsParsed, IsChecked}
use Rattle.talc_core.specs.FirstFault.{IsAssembly, TermFault}
use Rattle.talc_core.specs.FirstFault.{IsTaken, FirstFault, FitsMemory, TakenOrFault}
use Rattle.talc_core.specs.TextLaws.{TextLaws}
use Rattle.talc_core.proofs.WholeTexts.{whole_text}

-- a place as a span
abbrev spanned : Spn → Span
spanned p = record { start = p.0; end = p.1 }

module _ (laws : TextLaws) where
  -- a text is checked, or has a first fault of reading or checking
  abbrev Checked : List ℕ → Type 0
  Checked text = ((term : Tm) × (type : Ty) × IsChecked text term type) ⊎ ((c : Code) × (s : Span) × TermFault text c s)

  by_check : (text : List ℕ) (term : Tm) → IsParsed text term →
      ((t : Ty) × typing.Passes term 0 NoTys t) ⊎ ((c : Code) × (p : Spn) × typing.Fault term 0 NoTys c p) →
      Checked text
  by_check text term read (inl (t, passes)) =
      inl (term, t, (read, (laws.passes_where_typed term 0 NoTys t tt).0 passes))
  by_check text term read (inr (c, p, fault)) =
      inr (c, spanned p, inr (record { term = term; read = read; fault = fault }))

  by_reading : (text : List ℕ) →
      ((a : Tm) × parser.SourceWithin text a) ⊎ ((c : Code) × (s : Span) × parser.FirstFault text c s) → Checked text
  by_reading text (inl (term, read)) =
      by_check text term read (laws.pass_or_fault term (laws.closed_terms text term read.source))
  by_reading text (inr (c, s, fault)) = inr (c, s, inl fault)

  any_term : (text : List ℕ) → Checked text → IsTaken AnyTerm text ⊎ ((a : Fault) × FirstFault AnyTerm text a)
  any_term text (inl x) = inl x
  any_term text (inr (c, s, fault)) = inr (Source c s, fault)

  -- a type is int or another
  by_type : (text : List ℕ) (term : Tm) (t : Ty) → IsChecked text term t →
      IsTaken AProgram text ⊎ ((a : Fault) × FirstFault AProgram text a)
  by_type text term t checked = by_form t refl
    where
      other : t ≢ TInt → IsTaken AProgram text ⊎ ((a : Fault) × FirstFault AProgram text a)
      other not_int =
          inr (
            Source E15 (spanned (span_of term)),
            inr (record { term = term; type = t; checked = checked; other = not_int; is_code = refl; whole = refl }),
          )

      by_form : (u : Ty) → t ≡ u → IsTaken AProgram text ⊎ ((a : Fault) × FirstFault AProgram text a)
      by_form TInt e = inl (term, subst (IsChecked text term) e checked)
      by_form (TVar i) e = other (λ x. absurd (cc))
      by_form (TArrow a b) e = other (λ x. absurd (cc))
      by_form (TAll a) e = other (λ x. absurd (cc))
      by_form (TTuple ts) e = other (λ x. absurd (cc))
      by_form (TSome a) e = other (λ x. absurd (cc))
      by_form (TRef a) e = other (λ x. absurd (cc))

  a_program : (text : List ℕ) → Checked text → IsTaken AProgram text ⊎ ((a : Fault) × FirstFault AProgram text a)
  a_program text (inl (term, t, checked)) = by_type text term t checked
  a_program text (inr (c, s, fault)) = inr (Source c s, inl fault)

  -- a program has cells or none
  by_cells : (text : List ℕ) (term : Tm) → IsChecked text term TInt → (b : Bool) → has_cells (plain term) ≡ b →
      IsTaken CellFree text ⊎ ((a : Fault) × FirstFault CellFree text a)
  by_cells text term checked false e = inl (term, checked, e)
  by_cells text term checked true e = inr (
    Source E19 (spanned (span_of term)),
    inr (record { term = term; checked = checked; cells = e; is_code = refl; whole = refl }),
  )

  cell_free : (text : List ℕ) → IsTaken AProgram text ⊎ ((a : Fault) × FirstFault AProgram text a) →
      IsTaken CellFree text ⊎ ((a : Fault) × FirstFault CellFree text a)
  cell_free text (inl (term, checked)) = by_cells text term checked (has_cells (plain term)) refl
  cell_free text (inr (Source c s, fault)) = inr (Source c s, inl fault)
  cell_free text (inr (Tal c s, fault)) = absurd fault

  by_acceptance : (text : List ℕ) (P : SProg) → IsAssembly text P →
      Accepted (plain_program P) ⊎ ((c : TCode) × (s : Span) × checking.ProgramFault P c s) →
      IsTaken AnAssembly text ⊎ ((a : Fault) × FirstFault AnAssembly text a)
  by_acceptance text P read (inl accepted) = inl (P, (read, accepted))
  by_acceptance text P read (inr (c, s, fault)) =
      inr (Tal c s, inr (record { program = P; read = read; fault = fault }))

  an_assembly : (text : List ℕ) → FitsMemory AnAssembly text →
      ((P : SProg) × assembly.ReadsAs text P) ⊎ ((c : TCode) × (s : Span) × assembly.FirstFault text c s) →
      IsTaken AnAssembly text ⊎ ((a : Fault) × FirstFault AnAssembly text a)
  an_assembly text short (inl (P, read)) =
      by_acceptance text P read (laws.accepted_or_fault P (whole_text text P short read.stands))
  an_assembly text short (inr (c, s, fault)) = inr (Tal c s, inl fault)

  pub taken_or_fault : TakenOrFault
  taken_or_fault AnyText text short = inl tt
  taken_or_fault AnyTerm text short = any_term text (by_reading text (laws.term_or_fault text))
  taken_or_fault AProgram text short = a_program text (by_reading text (laws.term_or_fault text))
  taken_or_fault CellFree text short = cell_free text (a_program text (by_reading text (laws.term_or_fault text)))
  taken_or_fault AnAssembly text short = an_assembly text short (laws.program_or_fault text)
