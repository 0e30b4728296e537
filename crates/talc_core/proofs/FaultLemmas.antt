-- First faults of texts.
use Rattle.std.proofs.Common.{◌≡◌, ◌∙◌, ℕ, List, true, false, sym, ap, subst, inl, inr}
use Rattle.idx_core.specs.declared.span.Span.{Span}
use Rattle.text_core.proofs.Places.{same_span}
use Rattle.f_terms.specs.declared.fault.Code.{Code}
use Rattle.f_terms.specs.Ty.{Ty, TInt, NoTys}
use Rattle.f_terms.specs.Tm.{Tm, plain, span_of}
use Rattle.f_terms.specs.Read.{place}
use Rattle.f_terms.specs.Accepted.{IsAccepted}
use Rattle.f_terms.specs.Cells.{has_cells}
use Rattle.f_terms.specs.Faults as typing
use Rattle.talc_core.specs.declared.fault.Fault.TheVariants.{Source, Tal}
use Rattle.t_terms.specs.declared.fault.TCode.{TCode}
use Rattle.t_terms.specs.Spanned.{SProg}
use Rattle.t_rules.specs.Faults as checking
use Rattle.talc_core.specs.FirstFault.{AnyText, AnyTerm, AProgram, CellFree, AnAssembly, IsParsed, IsChecked}
use Rattle.talc_core.specs.FirstFault.{IsAssembly, IsAcceptedText, TermFault, ProgramFault, CellFault, AssemblyFault}
use Rattle.talc_core.specs.FirstFault.{OneFault, NoFaultWhereTaken}
use Rattle.talc_core.specs.TextLaws.{TextLaws}

-- code and place of two faults agree
abbrev Same : Code → Span → Code → Span → Type 0
Same c s d t = (c ≡ d) × (place s ≡ place t)

same_source : (c d : Code) (s t : Span) → Same c s d t → Source c s ≡ Source d t
same_source c d s t same =
    let code : c ≡ d = same.0 in
    let span : s ≡ t = same_span s t (ap (λ (p : ℕ × ℕ). p.0) same.1) (ap (λ (p : ℕ × ℕ). p.1) same.1) in
    cc

same_tal : (c d : TCode) (s t : Span) → (c ≡ d) × (s ≡ t) → Tal c s ≡ Tal d t
same_tal c d s t same = let code : c ≡ d = same.0 in let span : s ≡ t = same.1 in cc

module _ (laws : TextLaws) where
  -- what is accepted passes every check
  passes : (term : Tm) (type : Ty) → IsAccepted (plain term) type → typing.Passes term 0 NoTys type
  passes term type accepted = (laws.passes_where_typed term 0 NoTys type tt).1 accepted

  -- the same text is read as the same term
  pub same_term : (text : List ℕ) (a b : Tm) → IsParsed text a → IsParsed text b → a ≡ b
  same_term text a b x y = laws.one_term text a b x.source y.source

  -- ---- no fault beside a text that is what is needed

  pub no_term_fault : (text : List ℕ) (c : Code) (s : Span) (term : Tm) (type : Ty) → IsChecked text term type →
      TermFault text c s → ⊥
  no_term_fault text c s term type checked (inl reading) = laws.no_fault_of_a_term text term c s checked.0 reading
  no_term_fault text c s term type checked (inr checking) =
      let same : checking.term ≡ term = same_term text checking.term term checking.read checked.0 in
      laws.no_fault_beside_a_pass term 0 NoTys type c (place s) (passes term type checked.1)
      (subst (λ e. typing.Fault e 0 NoTys c (place s)) same checking.fault)

  no_program_fault : (text : List ℕ) (c : Code) (s : Span) (term : Tm) → IsChecked text term TInt →
      ProgramFault text c s → ⊥
  no_program_fault text c s term checked (inl fault) = no_term_fault text c s term TInt checked fault
  no_program_fault text c s term checked (inr other) =
      let same : other.term ≡ term = same_term text other.term term other.checked.0 checked.0 in
      other.other (laws.one_type (plain term) 0 NoTys other.type TInt
      (subst (λ e. IsAccepted (plain e) other.type) same other.checked.1).0 checked.1.0)

  -- a program without cells is no other with cells
  no_cell_fault : (text : List ℕ) (c : Code) (s : Span) (term : Tm) → IsChecked text term TInt →
      has_cells (plain term) ≡ false → CellFault text c s → ⊥
  no_cell_fault text c s term checked free (inl fault) = no_program_fault text c s term checked fault
  no_cell_fault text c s term checked free (inr other) =
      let same : other.term ≡ term = same_term text other.term term other.checked.0 checked.0 in
      let has : has_cells (plain term) ≡ true = subst (λ (e : Tm). has_cells (plain e) ≡ true) same other.cells in
      let e : true ≡ false = sym has ∙ free in
      cc

  -- the same assembly text is read as the same program
  pub same_program : (text : List ℕ) (a b : SProg) → IsAssembly text a → IsAssembly text b → a ≡ b
  same_program text a b x y = laws.one_program text a b x.stands y.stands

  no_assembly_fault : (text : List ℕ) (c : TCode) (s : Span) (program : SProg) → IsAcceptedText text program →
      AssemblyFault text c s → ⊥
  no_assembly_fault text c s program accepted (inl reading) =
      laws.no_fault_of_a_program text program c s accepted.0 reading
  no_assembly_fault text c s program accepted (inr found) =
      let same : found.program ≡ program = same_program text found.program program found.read accepted.0 in
      laws.no_fault_where_accepted program c s accepted.1 (subst (λ P. checking.ProgramFault P c s) same found.fault)

  pub no_fault_where_taken : NoFaultWhereTaken
  no_fault_where_taken AnyText text fault taken found = absurd found
  no_fault_where_taken AnyTerm text (Source c s) taken fault = no_term_fault text c s taken.0 taken.1 taken.2 fault
  no_fault_where_taken AProgram text (Source c s) taken fault = no_program_fault text c s taken.0 taken.1 fault
  no_fault_where_taken CellFree text (Source c s) taken fault = no_cell_fault text c s taken.0 taken.1 taken.2 fault
  no_fault_where_taken AnAssembly text (Tal c s) taken fault = no_assembly_fault text c s taken.0 taken.1 fault
  no_fault_where_taken AnyTerm text (Tal c s) taken fault = absurd fault
  no_fault_where_taken AProgram text (Tal c s) taken fault = absurd fault
  no_fault_where_taken CellFree text (Tal c s) taken fault = absurd fault
  no_fault_where_taken AnAssembly text (Source c s) taken fault = absurd fault

  -- ---- one fault

  one_term_fault : (text : List ℕ) (c d : Code) (s t : Span) → TermFault text c s → TermFault text d t → Same c s d t
  one_term_fault text c d s t (inl x) (inl y) =
      let same = laws.one_reading_fault text c d s t x y in (same.0, ap place same.1)
  one_term_fault text c d s t (inl x) (inr y) = absurd (laws.no_fault_of_a_term text y.term c s y.read x)
  one_term_fault text c d s t (inr x) (inl y) = absurd (laws.no_fault_of_a_term text x.term d t x.read y)
  one_term_fault text c d s t (inr x) (inr y) =
      let same : x.term ≡ y.term = same_term text x.term y.term x.read y.read in
      laws.one_typing_fault y.term 0 NoTys c d (place s) (place t)
      (subst (λ e. typing.Fault e 0 NoTys c (place s)) same x.fault) y.fault

  one_program_fault : (text : List ℕ) (c d : Code) (s t : Span) → ProgramFault text c s → ProgramFault text d t →
      Same c s d t
  one_program_fault text c d s t (inl x) (inl y) = one_term_fault text c d s t x y
  one_program_fault text c d s t (inl x) (inr y) = absurd (no_term_fault text c s y.term y.type y.checked x)
  one_program_fault text c d s t (inr x) (inl y) = absurd (no_term_fault text d t x.term x.type x.checked y)
  one_program_fault text c d s t (inr x) (inr y) =
      let same : x.term ≡ y.term = same_term text x.term y.term x.checked.0 y.checked.0 in
      (x.is_code ∙ sym y.is_code, x.whole ∙ ap span_of same ∙ sym y.whole)

  one_cell_fault : (text : List ℕ) (c d : Code) (s t : Span) → CellFault text c s → CellFault text d t → Same c s d t
  one_cell_fault text c d s t (inl x) (inl y) = one_program_fault text c d s t x y
  one_cell_fault text c d s t (inl x) (inr y) = absurd (no_program_fault text c s y.term y.checked x)
  one_cell_fault text c d s t (inr x) (inl y) = absurd (no_program_fault text d t x.term x.checked y)
  one_cell_fault text c d s t (inr x) (inr y) =
      let same : x.term ≡ y.term = same_term text x.term y.term x.checked.0 y.checked.0 in
      (x.is_code ∙ sym y.is_code, x.whole ∙ ap span_of same ∙ sym y.whole)

  one_assembly_fault : (text : List ℕ) (c d : TCode) (s t : Span) → AssemblyFault text c s → AssemblyFault text d t →
      (c ≡ d) × (s ≡ t)
  one_assembly_fault text c d s t (inl x) (inl y) = laws.one_assembly_fault text c d s t x y
  one_assembly_fault text c d s t (inl x) (inr y) = absurd (laws.no_fault_of_a_program text y.program c s y.read x)
  one_assembly_fault text c d s t (inr x) (inl y) = absurd (laws.no_fault_of_a_program text x.program d t x.read y)
  one_assembly_fault text c d s t (inr x) (inr y) =
      let same : x.program ≡ y.program = same_program text x.program y.program x.read y.read in
      laws.one_accepting_fault y.program c d s t (subst (λ P. checking.ProgramFault P c s) same x.fault) y.fault

  pub one_fault : OneFault
  one_fault AnyText text a b x y = absurd x
  one_fault AnyTerm text (Source c s) (Source d t) x y = same_source c d s t (one_term_fault text c d s t x y)
  one_fault AProgram text (Source c s) (Source d t) x y = same_source c d s t (one_program_fault text c d s t x y)
  one_fault CellFree text (Source c s) (Source d t) x y = same_source c d s t (one_cell_fault text c d s t x y)
  one_fault AnAssembly text (Tal c s) (Tal d t) x y = same_tal c d s t (one_assembly_fault text c d s t x y)
  one_fault AnyTerm text (Source c s) (Tal d t) x y = absurd y
  one_fault AProgram text (Source c s) (Tal d t) x y = absurd y
  one_fault CellFree text (Source c s) (Tal d t) x y = absurd y
  one_fault AnyTerm text (Tal c s) b x y = absurd x
  one_fault AProgram text (Tal c s) b x y = absurd x
  one_fault CellFree text (Tal c s) b x y = absurd x
  one_fault AnAssembly text (Source c s) b x y = absurd x
  one_fault AnAssembly text (Tal c s) (Source d t) x y = absurd y
