-- What `explain` shows.
use Rattle.std.proofs.Common.{◌≡◌, ◌∙◌, ℕ, List, [], Bool, true, false, Option, refl, sym, ap, ap₂, subst, inl, inr}
use Rattle.std.specs.Bool.{MatchBool}
use Rattle.std.specs.Prelude.{Result, Ok, Err, IfOk, if◌then◌else◌}
use Rattle.idx_core.specs.declared.span.Span.{Span}
use Rattle.idx_core.specs.declared.memory.OutOfMemory.{OutOfMemory}
use Rattle.f_terms.specs.declared.fault.Code.{Code}
use Rattle.f_terms.specs.declared.fault.FFault.{FFault}
use Rattle.f_terms.specs.declared.fault.FFault.TheVariants as source
use Rattle.f_terms.specs.Ty.{NoTys}
use Rattle.f_terms.specs.Tm.{plain}
use Rattle.f_terms.specs.Read.{place}
use Rattle.f_terms.specs.Accepted.{IsAccepted}
use Rattle.f_grammar.specs.Text as reading
use Rattle.f_terms.specs.Faults.{FaultWith}
use Rattle.t_terms.specs.declared.fault.TCode.{TCode}
use Rattle.t_terms.specs.declared.fault.TFault.{TFault}
use Rattle.t_terms.specs.declared.fault.TFault.TheVariants as tal
use Rattle.t_terms.specs.Spanned.{SProg}
use Rattle.t_rules.specs.Mismatch.{Mismatch}
use Rattle.t_rules.specs.Faults.{ProgramFaultWith}
use Rattle.talc_core.specs.declared.fault.Fault.{Fault}
use Rattle.talc_core.specs.declared.fault.Fault.TheVariants.{Source, Tal}
use Rattle.talc_core.specs.declared.refusal.Refusal.{Refusal}
use Rattle.talc_core.specs.declared.refusal.Refusal.TheVariants as refusal
use Rattle.talc_core.specs.declared.finding.Finding.{Finding}
use Rattle.talc_core.specs.declared.finding.Finding.TheVariants as finding
use Rattle.talc_core.specs.declared.finding.Finding.TheVariants.{NoFault}
use Rattle.talc_core.specs.Failures.{refusal_of, refusal_of_assembly}
use Rattle.talc_core.specs.FirstFault.{FirstFault, AProgram, AnAssembly, IsAssembly, IsTaken}
use Rattle.t_text.specs.declared.token.Token.{Token}
use Rattle.t_text.specs.Tokens.{IsCut}
use Rattle.t_text.specs.Text as assembly
use Rattle.t_text.specs.Text.{in_tokens, unexpected, cut_short, too_deep, in_names, code_of}
use Rattle.t_text.specs.Cut.{NoTokenFaultWhereCut}
use Rattle.talc_wanted.specs.AssemblyText as assembly_wanted
use Rattle.talc_core.specs.AtOdds.{Told, AtOdds, unread_told, source_told, whole_told, assembly_told}
use Rattle.talc_core.specs.Wanted.{by_grammar, IsWanted, CouldStand}
use Rattle.t_text.specs.Kind.{AssemblyBeginsSo, begins_with_tal}
use Rattle.talc_core.specs.Explained.{looked_for, explained, IsExplainedBy, IsExplainedAsChecked}
use Rattle.talc_core.specs.Explained.{CheckedIsExplained, OneExplanation, TakenIsExplained}
use Rattle.talc_core.specs.Steps.{IsFinding, IsBare, told_of}
use Rattle.talc_core.specs.TextLaws.{TextLaws, MismatchLaws}
use Rattle.talc_core.proofs.FaultLemmas.{one_fault, no_fault_where_taken, no_term_fault, same_term, same_program}

-- what is looked for goes by how the text begins
pub looks : (text : List ℕ) (found : Result Finding OutOfMemory) (b : Bool) → begins_with_tal text ≡ b →
    IfOk found (IsFinding (if b then AnAssembly else AProgram) text) → IfOk found (IsFinding (looked_for text) text)
looks text found b is finds =
    subst (λ (c : Bool). IfOk found (IsFinding (if c then AnAssembly else AProgram) text)) (sym is) finds

-- of a text that `check` takes there is no fault
pub taken_is_explained : AssemblyBeginsSo → TakenIsExplained
taken_is_explained begins name text taken =
    inr (record {
      taken = subst (λ (c : Bool). IsTaken (if c then AnAssembly else AProgram) text)
          (sym (begins text taken.0 taken.1.0.stands)) taken;
      is = refl;
    })

-- and of an assembly program
pub refused_program : (text : List ℕ) (P : SProg) (code : TCode) (span : Span) (found : Option Mismatch)
    (told : Told) → IsAssembly text P → ProgramFaultWith P code span found → told ≡ assembly_told found →
    FirstFault AnAssembly text (Tal code span) × AtOdds text (Tal code span) told
refused_program text P code span found told read noted is = (
  inr (record { program = P; read = read; fault = (found, noted) }),
  inr (record { program = P; read = read; mismatch = found; fault = noted; is = is }),
)

-- want of memory is no finding
no_bare : (text : List ℕ) (found : Finding) → IsBare text refusal.Memory found → ⊥
no_bare text NoFault h = h
no_bare text (finding.Fault fault told) h = h

-- a source text that is not read has the fault, of which no more is told than what could stand there
pub unread_source : (text : List ℕ) (fault : FFault) (why : Refusal) (found : Result Finding OutOfMemory) →
    why ≡ refusal_of fault → reading.IsFault text fault → IfOk found (IsBare text why) →
    IfOk found (IsFinding AProgram text)
unread_source text fault why (Err e) is read bare = tt
unread_source text source.Memory why (Ok found) is read bare =
    let none = subst (λ w. IsBare text w found) is bare in absurd (no_bare text found none)
unread_source text (source.Refused code span) why (Ok NoFault) is read bare =
    absurd (subst (λ w. IsBare text w NoFault) is bare)
unread_source text (source.Refused code span) why (Ok (finding.Fault fault told)) is read bare =
    let b = subst (λ w. IsBare text w (finding.Fault fault told)) is bare in
    subst (λ f. FirstFault AProgram text f × AtOdds text f (told_of told)) (sym b.0)
    (inl (inl read), inl (read, b.1, b.2))

-- and an assembly text
pub unread_assembly : (text : List ℕ) (fault : TFault) (why : Refusal) (found : Result Finding OutOfMemory) →
    why ≡ refusal_of_assembly fault → assembly.IsFirstFault text fault → IfOk found (IsBare text why) →
    IfOk found (IsFinding AnAssembly text)
unread_assembly text fault why (Err e) is read bare = tt
unread_assembly text tal.Memory why (Ok found) is read bare =
    let none = subst (λ w. IsBare text w found) is bare in absurd (no_bare text found none)
unread_assembly text (tal.Refused code span) why (Ok NoFault) is read bare =
    absurd (subst (λ w. IsBare text w NoFault) is bare)
unread_assembly text (tal.Refused code span) why (Ok (finding.Fault fault told)) is read bare =
    let b = subst (λ w. IsBare text w (finding.Fault fault told)) is bare in
    subst (λ f. FirstFault AnAssembly text f × AtOdds text f (told_of told)) (sym b.0)
    (inl read, inl (read, b.1, b.2))

-- ---- what could stand at a place

-- one or nothing, as the test says: there is one where there is one of the first kind
either : (b : Bool) (P : List ℕ → Type 0) → (x : List ℕ) × P x → (x : List ℕ) × MatchBool b (P x) (x ≡ [])
either true P h = h
either false P h = ([], refl)

-- and one at most, where there is one of the first kind at most
one_either : (b : Bool) (P : List ℕ → Type 0) → ((x y : List ℕ) → P x → P y → x ≡ y) → (x y : List ℕ) →
    MatchBool b (P x) (x ≡ []) → MatchBool b (P y) (y ≡ []) → x ≡ y
one_either true P one x y p q = one x y p q
one_either false P one x y p q = p ∙ sym q

line_where_cut : (text : List ℕ) (w : List Token) (s : Span) → IsCut text w →
    (line : List ℕ) × assembly_wanted.IsWanted text s line
line_where_cut text w s cut = (assembly_wanted.wanted_line text s w, inl (w, cut, refl))

-- an assembly text that is not read has a line for the place
has_line : NoTokenFaultWhereCut → (text : List ℕ) (c : TCode) (s : Span) → assembly.FirstFault text c s →
    (line : List ℕ) × assembly_wanted.IsWanted text s line
has_line none text _ _ (in_tokens {span} why wrong) = (
  [],
  inr ((λ w cut. none text w (code_of why) span cut (record { why = why; is_code = refl; wrong = wrong })), refl),
)
has_line none text _ _ (unexpected {w} {u} {c} cut x) = line_where_cut text w c.span cut
has_line none text _ s (cut_short {w} cut x) = line_where_cut text w s cut
has_line none text _ _ (too_deep {w} {u} {c} cut x) = line_where_cut text w c.span cut
has_line none text _ s (in_names {w} cut p n e) = line_where_cut text w s cut

-- of a text that begins so an assembly program is looked for
module _ (text : List ℕ) (begins : begins_with_tal text ≡ true) where
  an_assembly : looked_for text ≡ AnAssembly
  an_assembly = ap (λ (b : Bool). if b then AnAssembly else AProgram) begins

  -- something is told of each fault of it
  is_told : NoTokenFaultWhereCut → (fault : Fault) → FirstFault AnAssembly text fault →
      (told : Told) × AtOdds text fault told
  is_told none (Source c s) h = absurd h
  is_told none (Tal c s) (inl h) =
      let line = either (by_grammar (Tal c s)) (IsWanted text (Tal c s)) (has_line none text c s h) in
      (unread_told line.0, inl (h, line.1, refl))
  is_told none (Tal c s) (inr h) = (
    assembly_told h.fault.0,
    inr (record { program = h.program; read = h.read; mismatch = h.fault.0; fault = h.fault.1; is = refl }),
  )

  explained_as_checked : NoTokenFaultWhereCut → (name : List ℕ) → IsExplainedAsChecked name text
  explained_as_checked none name = record {
    taken = (
      (λ h. record { taken = subst (λ n. IsTaken n text) (sym an_assembly) h; is = refl }),
      λ h. subst (λ n. IsTaken n text) an_assembly h.taken,
    );
    refused = λ fault. (refuses fault, λ h. subst (λ n. FirstFault n text fault) an_assembly (told h));
  }
    where
      told : {fault : Fault} → IsExplainedBy name text fault → FirstFault (looked_for text) text fault
      told h = subst (λ f. FirstFault (looked_for text) text f) h.2 h.1.first

      refuses : (fault : Fault) → FirstFault AnAssembly text fault → IsExplainedBy name text fault
      refuses fault h = let t = is_told none fault h in (
        explained name text fault t.0,
        record {
          fault = fault;
          first = subst (λ n. FirstFault n text fault) (sym an_assembly) h;
          told = t.0;
          at_odds = t.1;
          is = refl;
        },
        refl,
      )

pub checked_is_explained : NoTokenFaultWhereCut → CheckedIsExplained
checked_is_explained none name text begins = explained_as_checked text begins none name

module _ (laws : TextLaws) (odds : MismatchLaws) where
  -- one thing could stand at the place of a fault
  one_wanted : (text : List ℕ) (f : Fault) (a b : List ℕ) → IsWanted text f a → IsWanted text f b → a ≡ b
  one_wanted text (Source c s) a b x y = odds.one_source_line text s a b x y
  one_wanted text (Tal c s) a b x y = odds.one_assembly_line text s a b x y

  one_unread : (text : List ℕ) (f : Fault) (a b : Told) → CouldStand text f a.lines → CouldStand text f b.lines →
      a ≡ unread_told a.lines → b ≡ unread_told b.lines → a ≡ b
  one_unread text f a b x y is_a is_b =
      is_a
      ∙ ap unread_told
      (one_either (by_grammar f) (IsWanted text f) (one_wanted text f) a.lines b.lines x y)
      ∙ sym is_b

  one_of_source : (text : List ℕ) (c : Code) (s : Span) (a b : Told) → AtOdds text (Source c s) a →
      AtOdds text (Source c s) b → a ≡ b
  one_of_source text c s a b (inl x) (inl y) = one_unread text (Source c s) a b x.1 y.1 x.2 y.2
  one_of_source text c s a b (inl x) (inr (inl y)) = absurd (laws.no_fault_of_a_term text y.term c s y.read x.0)
  one_of_source text c s a b (inl x) (inr (inr y)) = absurd (laws.no_fault_of_a_term text y.term c s y.checked.0 x.0)
  one_of_source text c s a b (inr (inl x)) (inl y) = absurd (laws.no_fault_of_a_term text x.term c s x.read y.0)
  one_of_source text c s a b (inr (inr x)) (inl y) = absurd (laws.no_fault_of_a_term text x.term c s x.checked.0 y.0)
  one_of_source text c s a b (inr (inl x)) (inr (inl y)) =
      let same : x.term ≡ y.term = same_term laws text x.term y.term x.read y.read in
      let fault = subst (λ e. FaultWith e 0 NoTys c (place s) x.mismatch) same x.fault in
      x.is ∙ ap source_told
      (odds.one_of_a_source y.term 0 NoTys c c (place s) (place s) x.mismatch y.mismatch fault y.fault)
      ∙ sym y.is
  one_of_source text c s a b (inr (inl x)) (inr (inr y)) =
      absurd (no_term_fault laws text c s y.term y.type y.checked
      (inr (record { term = x.term; read = x.read; fault = (x.mismatch, x.fault) })))
  one_of_source text c s a b (inr (inr x)) (inr (inl y)) =
      absurd (no_term_fault laws text c s x.term x.type x.checked
      (inr (record { term = y.term; read = y.read; fault = (y.mismatch, y.fault) })))
  one_of_source text c s a b (inr (inr x)) (inr (inr y)) =
      let same : x.term ≡ y.term = same_term laws text x.term y.term x.checked.0 y.checked.0 in
      let accepted = subst (λ e. IsAccepted (plain e) x.type) same x.checked.1 in
      x.is
      ∙ ap₂ whole_told same (laws.one_type (plain y.term) 0 NoTys x.type y.type accepted.0 y.checked.1.0) ∙ sym y.is

  one_of_assembly : (text : List ℕ) (c : TCode) (s : Span) (a b : Told) → AtOdds text (Tal c s) a →
      AtOdds text (Tal c s) b → a ≡ b
  one_of_assembly text c s a b (inl x) (inl y) = one_unread text (Tal c s) a b x.1 y.1 x.2 y.2
  one_of_assembly text c s a b (inl x) (inr y) = absurd (laws.no_fault_of_a_program text y.program c s y.read x.0)
  one_of_assembly text c s a b (inr x) (inl y) = absurd (laws.no_fault_of_a_program text x.program c s x.read y.0)
  one_of_assembly text c s a b (inr x) (inr y) =
      let same : x.program ≡ y.program = same_program laws text x.program y.program x.read y.read in
      let fault = subst (λ P. ProgramFaultWith P c s x.mismatch) same x.fault in
      x.is ∙ ap assembly_told (odds.one_of_an_assembly y.program c c s s x.mismatch y.mismatch fault y.fault) ∙ sym y.is

  -- the same is told of one fault
  pub one_told : (text : List ℕ) (f : Fault) (a b : Told) → AtOdds text f a → AtOdds text f b → a ≡ b
  one_told text (Source c s) a b x y = one_of_source text c s a b x y
  one_told text (Tal c s) a b x y = one_of_assembly text c s a b x y

  pub one_explanation : OneExplanation
  one_explanation name text a b (inl x) (inl y) =
      let same = one_fault laws (looked_for text) text x.fault y.fault x.first y.first in
      let at_odds = subst (λ f. AtOdds text f x.told) same x.at_odds in
      let told = one_told text y.fault x.told y.told at_odds y.at_odds in
      x.is ∙ ap (λ f. explained name text f x.told) same ∙ ap (explained name text y.fault) told ∙ sym y.is
  one_explanation name text a b (inl x) (inr y) =
      absurd (no_fault_where_taken laws (looked_for text) text x.fault y.taken x.first)
  one_explanation name text a b (inr x) (inl y) =
      absurd (no_fault_where_taken laws (looked_for text) text y.fault x.taken y.first)
  one_explanation name text a b (inr x) (inr y) = x.is ∙ sym y.is
