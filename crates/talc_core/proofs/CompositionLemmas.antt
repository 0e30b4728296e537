-- What `compile` wrote: its program is the one that is read of it, and its term the one that is read of the source.
-- What `upgrade` wrote: its program is that of the old text.
use Rattle.std.proofs.Common.{◌≡◌, ◌∙◌, ◌+◌, ◌*◌, ◌-◌, ◌≤◌, ℕ, ℤ, List, refl, sym, ap, subst, arith}
use Rattle.std.proofs.Math.Logic.{∥∥₁_map, ∥∥₁_elim}
use Rattle.std.proofs.Math.IntN.{ℤ_set}
use Rattle.f_terms.specs.Ty.{TInt}
use Rattle.f_terms.specs.Tm.{Tm, Term, plain}
use Rattle.f_terms.specs.Eval.{Empty, VInt, Evaluates}
use Rattle.f_terms.specs.Laws.{OneAnswer}
use Rattle.t_terms.specs.Spanned.{SProg, plain_program}
use Rattle.t_terms.specs.Tree.{TProg}
use Rattle.t_terms.specs.Whole.{WellFormedProgram}
use Rattle.t_text.specs.Text.{ReadsBack}
use Rattle.t_rules.specs.Rules.{Accepted}
use Rattle.t_rules.specs.Machine.{HaltsWithin, GoesOnAfter}
use Rattle.t_rules.specs.Times.{program_size}
use Rattle.t_spill_laws.specs.Bound.{RegistersUpTo}
use Rattle.pipeline.specs.Meaning.{SameMeaning, RunsSeldom, HaltsSoon}
use Rattle.t_machine.specs.Seldom.{SeldomRunsAreCovered}
use Rattle.talc_core.specs.FirstFault.{IsChecked, IsAcceptedText}
use Rattle.talc_core.specs.declared.status.Status.{Status}
use Rattle.talc_core.specs.declared.status.Status.TheVariants.{Done, Refused, Usage, Limit, Budget, ReadFault}
use Rattle.talc_core.specs.declared.status.Status.TheVariants.{WriteFault, Memory}
use Rattle.talc_core.specs.Compiled.{IsCompiled}
use Rattle.talc_core.specs.Upgraded.{IsUpgraded}
use Rattle.talc_core.specs.Lines.{value_line}
use Rattle.talc_core.specs.Shown.{ShowsRun, ShowsTrace}
use Rattle.talc_core.specs.Traced.{HaltedStates, RunningStates}
use Rattle.talc_core.specs.Composition.{CompiledIsTaken, CompiledMeansTheSame, CompiledShowsTheSame}
use Rattle.talc_core.specs.Composition.{CompiledRunsAreEvaluations, CompiledRunsAreShown, CompiledEvaluationsRun}
use Rattle.talc_core.specs.Composition.{CompiledValuesRun, CompiledIsCovered, CompiledNeverSticks, CompiledGoesOn}
use Rattle.talc_core.specs.Composition.{BoundedIsTaken, BoundedMeansTheSame, BoundedShowsTheSame}
use Rattle.talc_core.specs.Composition.{BoundedHasFewRegisters}
use Rattle.talc_core.specs.Composition.{UpgradedIsTaken, UpgradedNeverSticks, UpgradedIsTheSame, UpgradedRunsTheSame}
use Rattle.talc_core.specs.Composition.{UpgradedTracesTheSame}
use Rattle.talc_core.specs.TextLaws.{TextLaws}
use Rattle.talc_core.proofs.FaultLemmas.{same_term, same_program}
use Rattle.talc_core.proofs.WrittenLemmas.{reads_same}
use Rattle.talc_core.proofs.BothWays.{evaluates, halts, on_where_spent, spent_where_on}

-- a text that reads as an accepted program is one that `check` takes
accepted_where_read : (P : TProg) (target : List ℕ) (reads : ReadsBack target P) → Accepted P →
    IsAcceptedText target reads.0
accepted_where_read P target reads accepted = (reads.1, subst Accepted (sym reads.2) accepted)

pub compiled_is_taken : CompiledIsTaken
compiled_is_taken source target made =
    (made.reads.0, accepted_where_read made.program target made.reads made.accepted)

module _ (laws : TextLaws) (source target : List ℕ) (made : IsCompiled source target) where
  -- the program that is read is the one that stands in the record, and so is the term
  pub same_assembly : (program : SProg) → IsAcceptedText target program → plain_program program ≡ made.program
  same_assembly program accepted = reads_same laws made.program target made.reads program accepted.0

  pub same_source : (term : Tm) → IsChecked source term TInt → term ≡ made.term
  same_source term checked = same_term laws source term made.term checked.0 made.checked.0

  -- what is said of both holds of what is read of both
  both : (F : Term → TProg → Type 0) → F (plain made.term) made.program → (term : Tm) → IsChecked source term TInt →
      (program : SProg) → IsAcceptedText target program → F (plain term) (plain_program program)
  both F holds term checked program accepted =
      subst (λ P. F (plain term) P) (sym (same_assembly program accepted))
      (subst (λ t. F (plain t) made.program) (sym (same_source term checked)) holds)

  pub means : (term : Tm) → IsChecked source term TInt → (program : SProg) → IsAcceptedText target program →
      ∥ SameMeaning (plain term) (plain_program program) ∥₁
  means = both (λ e P. ∥ SameMeaning e P ∥₁) made.meaning

  pub halts_soon : (term : Tm) → IsChecked source term TInt → (program : SProg) → IsAcceptedText target program →
      ∥ HaltsSoon (plain term) (plain_program program) ∥₁
  halts_soon = both (λ e P. ∥ HaltsSoon e P ∥₁) made.soon

  pub runs_seldom : (term : Tm) → IsChecked source term TInt → (program : SProg) → IsAcceptedText target program →
      RunsSeldom (plain term) (plain_program program)
  runs_seldom = both RunsSeldom made.seldom

  pub whole : (program : SProg) → IsAcceptedText target program → WellFormedProgram (plain_program program)
  whole program accepted = subst WellFormedProgram (sym (same_assembly program accepted)) made.whole.0

pub compiled_means_the_same : TextLaws → CompiledMeansTheSame
compiled_means_the_same laws source target made term checked program accepted =
    means laws source target made term checked program accepted

pub compiled_is_covered : TextLaws → SeldomRunsAreCovered → CompiledIsCovered
compiled_is_covered laws covered source target made term checked turns value evaluates program accepted =
    covered (plain_program program) (turns + 1)
    (λ m s p run block index.
    runs_seldom laws source target made term checked program accepted turns value evaluates m s p run block index)

pub compiled_runs_are_evaluations : TextLaws → CompiledRunsAreEvaluations
compiled_runs_are_evaluations laws source target ran made fuel halted term checked =
    let program = halted.program in
    let accepted = halted.accepted in
    evaluates laws (plain term) (plain_program program) checked.1.0
    (whole laws source target made program accepted) accepted.1
    (means laws source target made term checked program accepted) fuel halted.value halted.halts

pub compiled_runs_are_shown : TextLaws → CompiledRunsAreShown
compiled_runs_are_shown laws source target ran made fuel halted term checked free =
    let found = compiled_runs_are_evaluations laws source target ran made fuel halted term checked in
    let left = found.0 in
    let most : left ≤ fuel =
    laws.leaves_at_most fuel left Empty Empty (plain term) (VInt halted.value) found.1.0 found.1.1 in (
      value_line halted.value (fuel - left),
      record {
        term = term;
        value = halted.value;
        used = fuel - left;
        left = left;
        checked = checked;
        cell_free = free;
        evaluates = found.1;
        turns_used = omega (arith, most);
        is = refl;
      },
      refl,
    )

pub compiled_halts : TextLaws → (source target : List ℕ) → IsCompiled source target →
    (term : Tm) → IsChecked source term TInt → (turns : ℕ) (value : ℤ) → Evaluates (plain term) turns value →
    (program : SProg) → IsAcceptedText target program →
    HaltsWithin (plain_program program) ((turns + 1) * program_size (plain_program program)) value
compiled_halts laws source target made term checked turns value found program accepted =
    halts laws (plain term) (plain_program program) checked.1.0
    (whole laws source target made program accepted) accepted.1
    (means laws source target made term checked program accepted)
    (halts_soon laws source target made term checked program accepted) turns value found

pub compiled_evaluations_run : TextLaws → CompiledEvaluationsRun
compiled_evaluations_run laws source target made term checked turns value found program accepted = record {
  program = program;
  value = value;
  accepted = accepted;
  halts = compiled_halts laws source target made term checked turns value found program accepted;
  is = refl;
}

pub compiled_values_run : TextLaws → CompiledValuesRun
compiled_values_run laws source target evaluated made turns shown program accepted =
    compiled_evaluations_run laws source target made shown.term shown.checked turns shown.value
    (shown.left, shown.evaluates) program accepted

pub compiled_never_sticks : TextLaws → CompiledNeverSticks
compiled_never_sticks laws source target made program accepted =
    laws.nothing_sticks (plain_program program) (whole laws source target made program accepted) accepted.1

pub compiled_goes_on : TextLaws → CompiledGoesOn
compiled_goes_on laws source target made term checked program accepted =
    let kept = whole laws source target made program accepted in
    let same = means laws source target made term checked program accepted in (
      on_where_spent laws (plain term) (plain_program program) checked.1.0 kept accepted.1 same,
      spent_where_on laws (plain term) (plain_program program) checked.1.0 kept accepted.1 same,
    )

-- where the meaning is the same, the integers are
one_integer : OneAnswer → (e : Term) (P : TProg) (n m : ℕ) (i j : ℤ) → SameMeaning e P → Evaluates e n i →
    HaltsWithin P m j → i ≡ j
one_integer one e P n m i j same evaluates halts = one e n m i j evaluates (same.back m j halts)

pub compiled_shows_the_same : TextLaws → OneAnswer → CompiledShowsTheSame
compiled_shows_the_same laws one source target evaluated ran made turns fuel value halted =
    ∥∥₁_elim (compiled_means_the_same laws source target made value.term value.checked halted.program halted.accepted)
    (ℤ_set value.value halted.value) (λ same.
    one_integer one (plain value.term) (plain_program halted.program) turns fuel value.value halted.value same
    (value.left, value.evaluates) halted.halts)

-- the same within registers

pub bounded_is_taken : BoundedIsTaken
bounded_is_taken k source target made = compiled_is_taken source target made.compiled

pub bounded_means_the_same : TextLaws → BoundedMeansTheSame
bounded_means_the_same laws k source target made = compiled_means_the_same laws source target made.compiled

pub bounded_shows_the_same : TextLaws → OneAnswer → BoundedShowsTheSame
bounded_shows_the_same laws one k source target evaluated ran made =
    compiled_shows_the_same laws one source target evaluated ran made.compiled

pub bounded_has_few_registers : TextLaws → BoundedHasFewRegisters
bounded_has_few_registers laws k source target made program accepted =
    let same = same_assembly laws source target made.compiled program accepted in
    ∥∥₁_map made.few (λ few. subst (RegistersUpTo k) (sym same) few)

-- the program that is read of what `upgrade` wrote, accepted
pub upgraded_accepted : (source target : List ℕ) (made : IsUpgraded source target) →
    IsAcceptedText target made.written.reads.0
upgraded_accepted source target made =
    accepted_where_read (plain_program made.program) target made.written.reads made.accepted.1

pub upgraded_is_taken : UpgradedIsTaken
upgraded_is_taken source target made = (made.written.reads.0, upgraded_accepted source target made)

pub upgraded_is_the_same : TextLaws → UpgradedIsTheSame
upgraded_is_the_same laws source target made old new accepted read =
    let olds : old ≡ made.program = same_program laws source old made.program accepted.0 made.accepted.0 in
    ap plain_program olds ∙ sym (reads_same laws (plain_program made.program) target made.written.reads new read.0)

pub upgraded_never_sticks : TextLaws → UpgradedNeverSticks
upgraded_never_sticks laws source target made program accepted =
    let same = reads_same laws (plain_program made.program) target made.written.reads program accepted.0 in
    laws.nothing_sticks (plain_program program) (subst WellFormedProgram (sym same) made.whole.0) accepted.1

-- what is shown of one text is shown of another whose program is the same
shows_the_same : (a b : List ℕ) (there : SProg) → IsAcceptedText b there →
    ((here : SProg) → IsAcceptedText a here → plain_program here ≡ plain_program there) →
    (fuel : ℕ) (status : Status) (line : List ℕ) → ShowsRun fuel status a line → ShowsRun fuel status b line
shows_the_same a b there read same fuel Done line shown = record {
  program = there;
  value = shown.value;
  accepted = read;
  halts = subst (λ P. HaltsWithin P fuel shown.value) (same shown.program shown.accepted) shown.halts;
  is = shown.is;
}
shows_the_same a b there read same fuel Budget line shown = record {
  program = there;
  accepted = read;
  goes_on = subst (λ P. GoesOnAfter P fuel) (same shown.program shown.accepted) shown.goes_on;
  is = shown.is;
}
shows_the_same a b there read same fuel Refused line shown = shown
shows_the_same a b there read same fuel Usage line shown = shown
shows_the_same a b there read same fuel Limit line shown = shown
shows_the_same a b there read same fuel ReadFault line shown = shown
shows_the_same a b there read same fuel WriteFault line shown = shown
shows_the_same a b there read same fuel Memory line shown = shown

traces_the_same : (a b : List ℕ) (there : SProg) → IsAcceptedText b there →
    ((here : SProg) → IsAcceptedText a here → plain_program here ≡ plain_program there) →
    (from to : ℕ) (status : Status) (lines : List ℕ) → ShowsTrace from to status a lines →
    ShowsTrace from to status b lines
traces_the_same a b there read same from to Done lines shown =
    (there, read, subst (λ P. HaltedStates P from to lines) (same shown.0 shown.1) shown.2)
traces_the_same a b there read same from to Budget lines shown =
    (there, read, subst (λ P. RunningStates P from to lines) (same shown.0 shown.1) shown.2)
traces_the_same a b there read same from to Refused lines shown = shown
traces_the_same a b there read same from to Usage lines shown = shown
traces_the_same a b there read same from to Limit lines shown = shown
traces_the_same a b there read same from to ReadFault lines shown = shown
traces_the_same a b there read same from to WriteFault lines shown = shown
traces_the_same a b there read same from to Memory lines shown = shown

pub upgraded_runs_the_same : TextLaws → UpgradedRunsTheSame
upgraded_runs_the_same laws source target made fuel status line =
    let accepted : IsAcceptedText target made.written.reads.0 = upgraded_accepted source target made in (
      shows_the_same source target made.written.reads.0 accepted
          (λ old read. upgraded_is_the_same laws source target made old made.written.reads.0 read accepted) fuel status
          line,
      shows_the_same target source made.program made.accepted
          (λ new read. sym (upgraded_is_the_same laws source target made made.program new made.accepted read)) fuel
          status line,
    )

pub upgraded_traces_the_same : TextLaws → UpgradedTracesTheSame
upgraded_traces_the_same laws source target made from to status lines =
    let accepted : IsAcceptedText target made.written.reads.0 = upgraded_accepted source target made in (
      traces_the_same source target made.written.reads.0 accepted
          (λ old read. upgraded_is_the_same laws source target made old made.written.reads.0 read accepted) from to
          status lines,
      traces_the_same target source made.program made.accepted
          (λ new read. sym (upgraded_is_the_same laws source target made made.program new made.accepted read)) from to
          status lines,
    )
