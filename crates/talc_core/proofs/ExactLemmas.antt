-- The cause of each status, from what a call does by its status.
use Rattle.std.proofs.Common.{◌≡◌, ◌⊎◌, ◌↔◌, ℕ, Bool, true, false, cond, List, [], Option, Some, None, MatchOption}
use Rattle.std.proofs.Common.{refl, sym, subst, ap, ◌∙◌, inl, inr}
use Rattle.io_core.specs.Outside.{FileMap, Faulted, IsAbsent, Holds}
use Rattle.talc_core.specs.declared.fault.Fault.{Fault}
use Rattle.talc_core.specs.declared.status.Status.{Status}
use Rattle.talc_core.specs.declared.status.Status.TheVariants.{Done, Refused, Usage, Limit, Budget, ReadFault}
use Rattle.talc_core.specs.declared.status.Status.TheVariants.{WriteFault, Memory}
use Rattle.talc_core.specs.Fault.{is_limit, status_of}
use Rattle.f_terms.specs.Tm.{plain}
use Rattle.f_terms.specs.Eval.{Gives, Spent, EvaluatesLeaving, IsSpent}
use Rattle.t_terms.specs.Spanned.{plain_program}
use Rattle.t_rules.specs.Machine.{GoesOnAfter}
use Rattle.talc_core.specs.FirstFault.{Need, AnyText, AnyTerm, AProgram, CellFree, AnAssembly, IsTaken}
use Rattle.talc_core.specs.Command.{Asked, Compiles, CompilesWithin, Types, Evaluates, Checks, Runs, Generates}
use Rattle.talc_core.specs.Command.{Upgrades, Traces, Shows, Explains, Lists, command_of, need_of, Costs, TypesNames}
use Rattle.talc_core.specs.Command.{Builds, Disassembles}
use Rattle.talc_core.specs.CompiledText.{CompiledText, CompiledTextWithin}
use Rattle.talc_core.specs.Upgraded.{IsUpgraded}
use Rattle.talc_core.specs.NativeText.{IsNativeText}
use Rattle.talc_core.specs.NativeListing.{ShowsNativeListing}
use Rattle.talc_core.specs.Shown.{Showing, ShowsType, ShowsValue, ValueShown, ShowsAccepted, ShowsRun, ShowsTrace}
use Rattle.talc_core.specs.Shown.{HaltedShown, ShowsCost}
use Rattle.talc_words.specs.declared.form.Form.{Form}
use Rattle.talc_core.specs.FormShown.{ShowsForm}
use Rattle.talc_core.specs.Explained.{ShowsExplained}
use Rattle.talc_core.specs.Binding.{ShowsTypes}
use Rattle.talc_core.specs.OnTexts.{Making}
use Rattle.talc_core.specs.Headline.{Outside, Headline, TextRefused, TextAnswer, LineAnswer, SeedAnswer, UsageAnswer}
use Rattle.talc_core.specs.Headline.{Does, ListedRefused, ListAnswer}
use Rattle.talc_core.specs.Exact.{IsSettled, Tells, WorksOn, IsMissing, CannotRead, LeadsTo, CannotWrite, HasBudget}
use Rattle.talc_core.specs.Exact.{GoesOn, NoFaults, Works, HeadlineIsExact}
use Rattle.talc_core.specs.TextLaws.{TextLaws}
use Rattle.talc_core.proofs.FaultLemmas.{one_fault, no_fault_where_taken, same_term, same_program}
use Rattle.talc_core.proofs.RunLemmas.{going_not_halted}

-- ---- files

-- a read gives what the map tells
same_content : (told : Option FileMap) (name a b : List ℕ) → Holds told name a → Tells told name b → a ≡ b
same_content None name a b holds tells = absurd tells
same_content (Some files) name a b holds tells = let e : Some a ≡ Some b = cc in cc

-- a name that was read is not absent
not_absent : (told : Option FileMap) (name a : List ℕ) → Holds told name a → IsAbsent told name → ⊥
not_absent None name a holds absent = absent
not_absent (Some files) name a holds absent = let e : Some a ≡ None = cc in cc

told_not_absent : (told : Option FileMap) (name a : List ℕ) → Tells told name a → IsAbsent told name → ⊥
told_not_absent None name a tells absent = tells
told_not_absent (Some files) name a tells absent = let e : Some a ≡ None = cc in cc

-- ---- a command, or none

at_some : (P : Type 0) (Q : Asked → Type 0) (o : Option Asked) (a : Asked) → MatchOption o P Q → o ≡ Some a → Q a
at_some P Q None a h e = cc
at_some P Q (Some b) a h e = let same : b ≡ a = cc in subst Q same h

at_none : (P : Type 0) (Q : Asked → Type 0) (o : Option Asked) → MatchOption o P Q → o ≡ None → P
at_none P Q None h e = h
at_none P Q (Some b) h e = cc

-- ---- what a settled status says of the text

-- the text is what is needed, it does not go on after the budget, and the work is done
pub record IsDone (asked : Asked) (source : List ℕ) (status : Status) : Type 0 where
  pub taken : IsTaken (need_of asked) source
  pub ends : ¬ GoesOn asked source
  pub done : status ≡ Done

-- the text is what is needed, it goes on after the budget, and the budget is used up
pub record IsOver (asked : Asked) (source : List ℕ) (status : Status) : Type 0 where
  pub taken : IsTaken (need_of asked) source
  pub goes_on : GoesOn asked source
  pub has : HasBudget asked
  pub over : status ≡ Budget

-- or the text has a first fault, and this is the status of it
abbrev Judged : Asked → List ℕ → Status → Type 0
Judged asked source status =
    IsDone asked source status ⊎ (IsOver asked source status ⊎ LeadsTo (need_of asked) source status)

-- what goes on after the budget is what is needed
goes_on_taken : (asked : Asked) (source : List ℕ) → GoesOn asked source → IsTaken (need_of asked) source
goes_on_taken (Compiles input output) source more = absurd more
goes_on_taken (CompilesWithin input output k) source more = absurd more
goes_on_taken (Types input) source more = absurd more
goes_on_taken (Evaluates input turns) source more = (more.0, more.1, more.2)
goes_on_taken (Checks input) source more = absurd more
goes_on_taken (Runs input fuel) source more = (more.0, more.1)
goes_on_taken (Costs input fuel) source more = (more.0, more.1)
goes_on_taken (Traces input from to) source more = (more.0, more.1)
goes_on_taken (Shows input form) source more = absurd more
goes_on_taken (Explains input) source more = absurd more
goes_on_taken (Lists input) source more = absurd more
goes_on_taken (TypesNames input) source more = absurd more
goes_on_taken (Generates seed output) source more = absurd more
goes_on_taken (Upgrades input output) source more = absurd more
goes_on_taken (Builds input output heap) source more = absurd more
goes_on_taken (Disassembles input heap) source more = absurd more

-- a text whose first fault leads to one status has none that leads to another
one_status : TextLaws → (need : Need) (source : List ℕ) (a b : Status) → LeadsTo need source a →
    LeadsTo need source b → a ≡ b
one_status laws need source a b x y = sym x.2 ∙ ap status_of (one_fault laws need source x.0 y.0 x.1 y.1) ∙ y.2

-- a fault leads to no other status than these
leads_there : (s : Status) (fault : Fault) → status_of fault ≡ s → (s ≡ Refused) ⊎ (s ≡ Limit)
leads_there s fault e = go (is_limit fault) e
  where
    go : (b : Bool) → cond b Limit Refused ≡ s → (s ≡ Refused) ⊎ (s ≡ Limit)
    go true h = inr (sym h)
    go false h = inl (sym h)

module _ (laws : TextLaws) (asked : Asked) (source : List ℕ) (status : Status) where
  -- a status that a fault leads to comes exactly where the first fault leads to it
  leads_at : (wanted : Status) → Judged asked source status → (wanted ≡ Done → ⊥) → (wanted ≡ Budget → ⊥) →
      (status ≡ wanted) ↔ LeadsTo (need_of asked) source wanted
  leads_at wanted (inl is) other over = (
    λ e. absurd (other (sym e ∙ is.done)),
    λ fault. absurd (no_fault_where_taken laws (need_of asked) source fault.0 is.taken fault.1),
  )
  leads_at wanted (inr (inl is)) other over = (
    λ e. absurd (over (sym e ∙ is.over)),
    λ fault. absurd (no_fault_where_taken laws (need_of asked) source fault.0 is.taken fault.1),
  )
  leads_at wanted (inr (inr found)) other over = (
    λ e. subst (LeadsTo (need_of asked) source) e found,
    λ fault. one_status laws (need_of asked) source status wanted found fault,
  )

  refused_judged : Judged asked source status → (status ≡ Refused) ↔ LeadsTo (need_of asked) source Refused
  refused_judged judged = leads_at Refused judged (λ e. cc) (λ e. cc)

  limit_judged : Judged asked source status → (status ≡ Limit) ↔ LeadsTo (need_of asked) source Limit
  limit_judged judged = leads_at Limit judged (λ e. cc) (λ e. cc)

  -- a text with a fault leads to another status than the budget's
  no_budget_by_fault : LeadsTo (need_of asked) source status → status ≡ Budget → ⊥
  no_budget_by_fault found e = elim (leads_there status found.0 found.2) [ inl refused ↦ cc | inr limit ↦ cc ]

  budget_judged : Judged asked source status → (status ≡ Budget) ↔ GoesOn asked source
  budget_judged (inl is) = (λ e. let done = is.done in cc, λ more. absurd (is.ends more))
  budget_judged (inr (inl is)) = (λ e. is.goes_on, λ more. is.over)
  budget_judged (inr (inr found)) = (
    λ e. absurd (no_budget_by_fault found e),
    λ more. absurd
        (no_fault_where_taken laws (need_of asked) source found.0 (goes_on_taken asked source more) found.1),
  )

  works_judged : Judged asked source status → IsTaken (need_of asked) source → Works asked status
  works_judged (inl is) taken = inl is.done
  works_judged (inr (inl is)) taken = inr (is.has, is.over)
  works_judged (inr (inr found)) taken = absurd (no_fault_where_taken laws (need_of asked) source found.0 taken found.1)

-- ---- what the lines say

-- a text that stands for a program has no other
value_ends : TextLaws → (turns : ℕ) (source line : List ℕ) → ValueShown turns source line →
    GoesOn (Evaluates [] turns) source → ⊥
value_ends laws turns source line shown more =
    let same : shown.term ≡ more.0 = same_term laws source shown.term more.0 shown.checked.0 more.1.0 in
    let spent : IsSpent (plain shown.term) turns = subst (λ t. IsSpent (plain t) turns) (sym same) more.3 in
    let value : EvaluatesLeaving (plain shown.term) turns shown.value shown.left = shown.evaluates in
    let e : Gives _ _ _ ≡ Spent = sym value.1 ∙ spent in
    cc

run_ends : TextLaws → (fuel : ℕ) (text line : List ℕ) → HaltedShown fuel text line → GoesOn (Runs [] fuel) text → ⊥
run_ends laws fuel text line shown more =
    let same : shown.program ≡ more.0 = same_program laws text shown.program more.0 shown.accepted.0 more.1.0 in
    let goes_on : GoesOnAfter (plain_program shown.program) fuel =
    subst (λ P. GoesOnAfter (plain_program P) fuel) (sym same) more.2 in
    let halts = shown.halts in
    going_not_halted laws (plain_program shown.program) halts.0 fuel shown.value halts.2 goes_on halts.1

trace_ends : TextLaws → (from to : ℕ) (text lines : List ℕ) → ShowsTrace from to Done text lines →
    GoesOn (Traces [] from to) text → ⊥
trace_ends laws from to text lines shown more =
    let same : shown.0 ≡ more.0 = same_program laws text shown.0 more.0 shown.1.0 more.1.0 in
    let goes_on : GoesOnAfter (plain_program shown.0) to =
    subst (λ P. GoesOnAfter (plain_program P) to) (sym same) more.2 in
    let states = shown.2 in
    going_not_halted laws (plain_program shown.0) states.steps to states.value states.halted goes_on states.within

cost_ends : TextLaws → (fuel : ℕ) (text lines : List ℕ) → ShowsCost fuel Done text lines →
    GoesOn (Costs [] fuel) text → ⊥
cost_ends laws fuel text lines shown more =
    let same : shown.0 ≡ more.0 = same_program laws text shown.0 more.0 shown.1.0 more.1.0 in
    let goes_on : GoesOnAfter (plain_program shown.0) fuel =
    subst (λ P. GoesOnAfter (plain_program P) fuel) (sym same) more.2 in
    let cost = shown.2 in
    going_not_halted laws (plain_program shown.0) cost.steps fuel cost.value cost.halted goes_on cost.within

-- a line with the status 0 is shown of a text that is what is needed and ends within the budget, one with 4 of a text
-- that goes on
pub record IsSound (asked : Asked) (Says : Showing) : Type 0 where
  pub done : (source line : List ℕ) → Says Done source line → IsTaken (need_of asked) source × (¬ GoesOn asked source)
  pub over : (source line : List ℕ) → Says Budget source line → IsTaken (need_of asked) source × GoesOn asked source
      × HasBudget asked

type_sound : (input : List ℕ) → IsSound (Types input) ShowsType
type_sound input = record {
  done = λ source line shown. ((shown.term, shown.type, shown.checked), λ more. more);
  over = λ source line shown. absurd shown;
}

value_sound : TextLaws → (input : List ℕ) (turns : ℕ) → IsSound (Evaluates input turns) (ShowsValue turns)
value_sound laws input turns = record {
  done = λ source line shown. ((shown.term, shown.checked, shown.cell_free), value_ends laws turns source line shown);
  over = λ source line shown.
      ((shown.term, shown.checked, shown.cell_free), (shown.term, shown.checked, shown.cell_free, shown.spent), refl);
}

accepted_sound : (input : List ℕ) → IsSound (Checks input) ShowsAccepted
accepted_sound input = record {
  done = λ text line shown. ((shown.program, shown.accepted), λ more. more);
  over = λ text line shown. absurd shown;
}

run_sound : TextLaws → (input : List ℕ) (fuel : ℕ) → IsSound (Runs input fuel) (ShowsRun fuel)
run_sound laws input fuel = record {
  done = λ text line shown. ((shown.program, shown.accepted), run_ends laws fuel text line shown);
  over = λ text line shown. ((shown.program, shown.accepted), (shown.program, shown.accepted, shown.goes_on), refl);
}

trace_sound : TextLaws → (input : List ℕ) (from to : ℕ) → IsSound (Traces input from to) (ShowsTrace from to)
trace_sound laws input from to = record {
  done = λ text lines shown. ((shown.0, shown.1), trace_ends laws from to text lines shown);
  over = λ text lines shown. ((shown.0, shown.1), (shown.0, shown.1, shown.2.goes_on), refl);
}

cost_sound : TextLaws → (input : List ℕ) (fuel : ℕ) → IsSound (Costs input fuel) (ShowsCost fuel)
cost_sound laws input fuel = record {
  done = λ text lines shown. ((shown.0, shown.1), cost_ends laws fuel text lines shown);
  over = λ text lines shown. ((shown.0, shown.1), (shown.0, shown.1, shown.2.goes_on), refl);
}

form_sound : (input : List ℕ) (form : Form) → IsSound (Shows input form) (ShowsForm form)
form_sound input form = record {
  done = λ source text shown. ((shown.term, shown.checked), λ more. more);
  over = λ source text shown. absurd shown;
}

explain_sound : (input : List ℕ) → IsSound (Explains input) (ShowsExplained input)
explain_sound input = record {
  done = λ text shown says. (tt, λ more. more);
  over = λ text shown says. absurd says;
}

types_sound : (input : List ℕ) → IsSound (TypesNames input) ShowsTypes
types_sound input = record {
  done = λ text shown says. ((says.term, says.type, says.checked), λ more. more);
  over = λ text shown says. absurd says;
}

-- a text is made of one that is what is needed, and no command that makes one has a budget
pub record Makers (asked : Asked) (Makes : Making) : Type 0 where
  pub made : (source target : List ℕ) → Makes source target → IsTaken (need_of asked) source
  pub ends : (source : List ℕ) → ¬ GoesOn asked source

compiled_sound : (input output : List ℕ) → Makers (Compiles input output) CompiledText
compiled_sound input output =
    record { made = λ source target made. (made.compiled.term, made.compiled.checked); ends = λ source more. more }

bounded_sound : (input output : List ℕ) (k : ℕ) → Makers (CompilesWithin input output k) (CompiledTextWithin k)
bounded_sound input output k =
    record {
      made = λ source target made. (made.compiled.compiled.term, made.compiled.compiled.checked);
      ends = λ source more. more;
    }

upgraded_sound : (input output : List ℕ) → Makers (Upgrades input output) IsUpgraded
upgraded_sound input output =
    record { made = λ source target made. (made.program, made.accepted); ends = λ source more. more }

native_sound : (input output : List ℕ) (heap : ℕ) → Makers (Builds input output heap) (IsNativeText heap)
native_sound input output heap =
    record { made = λ source file made. (made.program, made.accepted); ends = λ source more. more }

native_listing_sound : (input : List ℕ) (heap : ℕ) → IsSound (Disassembles input heap) (ShowsNativeListing heap)
native_listing_sound input heap = record {
  done = λ source text shown. ((shown.program, shown.accepted), λ more. more);
  over = λ source text shown. absurd shown;
}

-- ---- by the command and the status

module _ (laws : TextLaws) (old new : Outside) where
  leads : (asked : Asked) (input source : List ℕ) (status : Status) →
      TextRefused status (need_of asked) input old new → Tells old.files.told input source → Judged asked source status
  leads asked input source status refused tells =
      let same : refused.source ≡ source = same_content old.files.told input refused.source source refused.read tells in
      inr (inr (subst (λ text. LeadsTo (need_of asked) text status) same (refused.fault, refused.first, refused.leads)))

  -- of the commands that show a line
  line_judged : (asked : Asked) (input : List ℕ) (Says : Showing) → IsSound asked Says →
      (source : List ℕ) (status : Status) → LineAnswer Says (need_of asked) input old new status →
      Tells old.files.told input source → IsSettled status → Judged asked source status
  line_judged asked input Says sound source Done answer tells settled =
      let same : answer.source ≡ source = same_content old.files.told input answer.source source answer.read tells in
      let shown = sound.done answer.source answer.line answer.says in
      inl (record {
        taken = subst (IsTaken (need_of asked)) same shown.0;
        ends = subst (λ text. ¬ GoesOn asked text) same shown.1;
        done = refl;
      })
  line_judged asked input Says sound source Budget answer tells settled =
      let same : answer.source ≡ source = same_content old.files.told input answer.source source answer.read tells in
      let shown = sound.over answer.source answer.line answer.says in
      inr
      (inl (record {
        taken = subst (IsTaken (need_of asked)) same shown.0;
        goes_on = subst (GoesOn asked) same shown.1;
        has = shown.2;
        over = refl;
      }))
  line_judged asked input Says sound source Refused answer tells settled = leads asked input source Refused answer tells
  line_judged asked input Says sound source Limit answer tells settled = leads asked input source Limit answer tells
  line_judged asked input Says sound source Usage answer tells settled = absurd answer
  line_judged asked input Says sound source ReadFault answer tells settled = absurd settled
  line_judged asked input Says sound source WriteFault answer tells settled = absurd settled
  line_judged asked input Says sound source Memory answer tells settled = absurd settled

  -- of those that write a text made of another
  text_judged : (asked : Asked) (input output : List ℕ) (Makes : Making) → Makers asked Makes →
      (source : List ℕ) (status : Status) → TextAnswer Makes (need_of asked) input output old new status →
      Tells old.files.told input source → IsSettled status → Judged asked source status
  text_judged asked input output Makes sound source Done answer tells settled =
      let same : answer.source ≡ source = same_content old.files.told input answer.source source answer.read tells in
      inl (record {
        taken = subst (IsTaken (need_of asked)) same (sound.made answer.source answer.target answer.made);
        ends = sound.ends source;
        done = refl;
      })
  text_judged asked input output Makes sound source Refused answer tells settled =
      leads asked input source Refused answer tells
  text_judged asked input output Makes sound source Limit answer tells settled =
      leads asked input source Limit answer tells
  text_judged asked input output Makes sound source Usage answer tells settled = absurd answer
  text_judged asked input output Makes sound source Budget answer tells settled = absurd answer
  text_judged asked input output Makes sound source ReadFault answer tells settled = absurd settled
  text_judged asked input output Makes sound source WriteFault answer tells settled = absurd settled
  text_judged asked input output Makes sound source Memory answer tells settled = absurd settled

  -- of `listing`
  list_leads : (input source : List ℕ) (status : Status) → ListedRefused status input old new →
      Tells old.files.told input source → Judged (Lists input) source status
  list_leads input source status refused tells =
      let same : refused.source ≡ source = same_content old.files.told input refused.source source refused.read tells in
      inr
      (inr (subst (λ text. LeadsTo AnAssembly text status) same (refused.fault, refused.listed.first, refused.leads)))

  list_judged : (input source : List ℕ) (status : Status) → ListAnswer input old new status →
      Tells old.files.told input source → IsSettled status → Judged (Lists input) source status
  list_judged input source Done answer tells settled =
      let same : answer.source ≡ source = same_content old.files.told input answer.source source answer.read tells in
      inl (record {
        taken = subst (IsTaken AnAssembly) same (answer.says.program, answer.says.accepted);
        ends = λ more. more;
        done = refl;
      })
  list_judged input source Refused answer tells settled = list_leads input source Refused answer tells
  list_judged input source Limit answer tells settled = list_leads input source Limit answer tells
  list_judged input source Usage answer tells settled = absurd answer
  list_judged input source Budget answer tells settled = absurd answer
  list_judged input source ReadFault answer tells settled = absurd settled
  list_judged input source WriteFault answer tells settled = absurd settled
  list_judged input source Memory answer tells settled = absurd settled

  judged : (asked : Asked) (source : List ℕ) (status : Status) → Does old new status asked → WorksOn asked old source →
      IsSettled status → Judged asked source status
  judged (Types input) source status answer tells settled =
      line_judged (Types input) input ShowsType (type_sound input) source status answer tells settled
  judged (Evaluates input turns) source status answer tells settled =
      line_judged (Evaluates input turns) input (ShowsValue turns) (value_sound laws input turns) source status answer
      tells settled
  judged (Checks input) source status answer tells settled =
      line_judged (Checks input) input ShowsAccepted (accepted_sound input) source status answer tells settled
  judged (Runs input fuel) source status answer tells settled =
      line_judged (Runs input fuel) input (ShowsRun fuel) (run_sound laws input fuel) source status answer tells
      settled
  judged (Costs input fuel) source status answer tells settled =
      line_judged (Costs input fuel) input (ShowsCost fuel) (cost_sound laws input fuel) source status answer tells
      settled
  judged (Traces input from to) source status answer tells settled =
      line_judged (Traces input from to) input (ShowsTrace from to) (trace_sound laws input from to) source status
      answer tells settled
  judged (Shows input form) source status answer tells settled =
      line_judged (Shows input form) input (ShowsForm form) (form_sound input form) source status answer tells settled
  judged (Explains input) source status answer tells settled =
      line_judged (Explains input) input (ShowsExplained input) (explain_sound input) source status answer tells settled
  judged (Lists input) source status answer tells settled = list_judged input source status answer tells settled
  judged (TypesNames input) source status answer tells settled =
      line_judged (TypesNames input) input ShowsTypes (types_sound input) source status answer tells settled
  judged (Compiles input output) source status answer tells settled =
      text_judged (Compiles input output) input output CompiledText (compiled_sound input output) source status answer
      tells settled
  judged (CompilesWithin input output k) source status answer tells settled =
      text_judged (CompilesWithin input output k) input output (CompiledTextWithin k) (bounded_sound input output k)
      source status answer tells settled
  judged (Upgrades input output) source status answer tells settled =
      text_judged (Upgrades input output) input output IsUpgraded (upgraded_sound input output) source status answer
      tells settled
  judged (Builds input output heap) source status answer tells settled =
      text_judged (Builds input output heap) input output (IsNativeText heap) (native_sound input output heap) source
      status answer tells settled
  judged (Disassembles input heap) source status answer tells settled =
      line_judged (Disassembles input heap) input (ShowsNativeListing heap) (native_listing_sound input heap) source
      status answer tells settled
  judged (Generates seed output) source Done answer is settled =
      let done = answer.says in
      inl (record {
        taken = subst (IsTaken AProgram) (sym is) (done.term, done.checked);
        ends = λ more. more;
        done = refl;
      })
  judged (Generates seed output) source Refused answer is settled = absurd answer
  judged (Generates seed output) source Limit answer is settled = absurd answer
  judged (Generates seed output) source Usage answer is settled = absurd answer
  judged (Generates seed output) source Budget answer is settled = absurd answer
  judged (Generates seed output) source ReadFault answer is settled = absurd settled
  judged (Generates seed output) source WriteFault answer is settled = absurd settled
  judged (Generates seed output) source Memory answer is settled = absurd settled

  -- only these statuses come where the file is absent
  line_absent : (Says : Showing) (need : Need) (input : List ℕ) (status : Status) →
      LineAnswer Says need input old new status → IsAbsent old.files.told input →
      (status ≡ ReadFault) ⊎ (status ≡ Memory)
  line_absent Says need input Done answer absent =
      absurd (not_absent old.files.told input answer.source answer.read absent)
  line_absent Says need input Budget answer absent =
      absurd (not_absent old.files.told input answer.source answer.read absent)
  line_absent Says need input Refused answer absent =
      absurd (not_absent old.files.told input answer.source answer.read absent)
  line_absent Says need input Limit answer absent =
      absurd (not_absent old.files.told input answer.source answer.read absent)
  line_absent Says need input WriteFault answer absent =
      absurd (not_absent old.files.told input answer.source answer.read absent)
  line_absent Says need input Usage answer absent = absurd answer
  line_absent Says need input ReadFault answer absent = inl refl
  line_absent Says need input Memory answer absent = inr refl

  text_absent : (Makes : Making) (need : Need) (input output : List ℕ) (status : Status) →
      TextAnswer Makes need input output old new status → IsAbsent old.files.told input →
      (status ≡ ReadFault) ⊎ (status ≡ Memory)
  text_absent Makes need input output Done answer absent =
      absurd (not_absent old.files.told input answer.source answer.read absent)
  text_absent Makes need input output Refused answer absent =
      absurd (not_absent old.files.told input answer.source answer.read absent)
  text_absent Makes need input output Limit answer absent =
      absurd (not_absent old.files.told input answer.source answer.read absent)
  text_absent Makes need input output WriteFault answer absent =
      absurd (not_absent old.files.told input answer.source answer.read absent)
  text_absent Makes need input output Usage answer absent = absurd answer
  text_absent Makes need input output Budget answer absent = absurd answer
  text_absent Makes need input output ReadFault answer absent = inl refl
  text_absent Makes need input output Memory answer absent = inr refl

  list_absent : (input : List ℕ) (status : Status) → ListAnswer input old new status → IsAbsent old.files.told input →
      (status ≡ ReadFault) ⊎ (status ≡ Memory)
  list_absent input Done answer absent =
      absurd (not_absent old.files.told input answer.source answer.read absent)
  list_absent input Refused answer absent =
      absurd (not_absent old.files.told input answer.source answer.read absent)
  list_absent input Limit answer absent =
      absurd (not_absent old.files.told input answer.source answer.read absent)
  list_absent input WriteFault answer absent =
      absurd (not_absent old.files.told input answer.source answer.read absent)
  list_absent input Usage answer absent = absurd answer
  list_absent input Budget answer absent = absurd answer
  list_absent input ReadFault answer absent = inl refl
  list_absent input Memory answer absent = inr refl

  absent_at : (asked : Asked) (status : Status) → Does old new status asked → IsMissing asked old →
      (status ≡ ReadFault) ⊎ (status ≡ Memory)
  absent_at (Types input) status answer absent = line_absent ShowsType AnyTerm input status answer absent
  absent_at (Evaluates input turns) status answer absent =
      line_absent (ShowsValue turns) CellFree input status answer absent
  absent_at (Checks input) status answer absent = line_absent ShowsAccepted AnAssembly input status answer absent
  absent_at (Runs input fuel) status answer absent = line_absent (ShowsRun fuel) AnAssembly input status answer absent
  absent_at (Costs input fuel) status answer absent = line_absent (ShowsCost fuel) AnAssembly input status answer absent
  absent_at (Traces input from to) status answer absent =
      line_absent (ShowsTrace from to) AnAssembly input status answer absent
  absent_at (Shows input form) status answer absent = line_absent (ShowsForm form) AProgram input status answer absent
  absent_at (Explains input) status answer absent = line_absent (ShowsExplained input) AnyText input status answer
      absent
  absent_at (Lists input) status answer absent = list_absent input status answer absent
  absent_at (TypesNames input) status answer absent = line_absent ShowsTypes AnyTerm input status answer absent
  absent_at (Compiles input output) status answer absent =
      text_absent CompiledText AProgram input output status answer absent
  absent_at (CompilesWithin input output k) status answer absent =
      text_absent (CompiledTextWithin k) AProgram input output status answer absent
  absent_at (Upgrades input output) status answer absent =
      text_absent IsUpgraded AnAssembly input output status answer absent
  absent_at (Builds input output heap) status answer absent =
      text_absent (IsNativeText heap) AnAssembly input output status answer absent
  absent_at (Disassembles input heap) status answer absent =
      line_absent (ShowsNativeListing heap) AnAssembly input status answer absent
  absent_at (Generates seed output) status answer absent = absurd absent

  read_fault_at : (asked : Asked) → Does old new ReadFault asked → CannotRead asked old new
  read_fault_at (Compiles input output) answer = answer.cause
  read_fault_at (CompilesWithin input output k) answer = answer.cause
  read_fault_at (Types input) answer = answer.cause
  read_fault_at (Evaluates input turns) answer = answer.cause
  read_fault_at (Checks input) answer = answer.cause
  read_fault_at (Runs input fuel) answer = answer.cause
  read_fault_at (Costs input fuel) answer = answer.cause
  read_fault_at (Traces input from to) answer = answer.cause
  read_fault_at (Shows input form) answer = answer.cause
  read_fault_at (Explains input) answer = answer.cause
  read_fault_at (Lists input) answer = answer.cause
  read_fault_at (TypesNames input) answer = answer.cause
  read_fault_at (Generates seed output) answer = answer
  read_fault_at (Upgrades input output) answer = answer.cause
  read_fault_at (Builds input output heap) answer = answer.cause
  read_fault_at (Disassembles input heap) answer = answer.cause

  write_fault_at : (asked : Asked) → Does old new WriteFault asked → CannotWrite asked old new
  write_fault_at (Compiles input output) answer = inl (refl, answer.cause)
  write_fault_at (CompilesWithin input output k) answer = inl (refl, answer.cause)
  write_fault_at (Upgrades input output) answer = inl (refl, answer.cause)
  write_fault_at (Builds input output heap) answer = inl (refl, answer.cause)
  write_fault_at (Disassembles input heap) answer = inr (refl, answer.cause)
  write_fault_at (Types input) answer = inr (refl, answer.cause)
  write_fault_at (Evaluates input turns) answer = inr (refl, answer.cause)
  write_fault_at (Checks input) answer = inr (refl, answer.cause)
  write_fault_at (Runs input fuel) answer = inr (refl, answer.cause)
  write_fault_at (Costs input fuel) answer = inr (refl, answer.cause)
  write_fault_at (Traces input from to) answer = inr (refl, answer.cause)
  write_fault_at (Shows input form) answer = inr (refl, answer.cause)
  write_fault_at (Explains input) answer = inr (refl, answer.cause)
  write_fault_at (Lists input) answer = inr (refl, answer.cause)
  write_fault_at (TypesNames input) answer = inr (refl, answer.cause)
  write_fault_at (Generates seed output) (inl unwritten) = inl (refl, unwritten.cause)
  write_fault_at (Generates seed output) (inr unshown) = inr (tt, unshown.cause)

  cannot : (asked : Asked) → NoFaults old new → CannotWrite asked old new → ⊥
  cannot asked none (inl unwritten) = none.writes unwritten.1
  cannot asked none (inr unshown) = none.puts unshown.1

  -- a file that is told is read, where no count rises
  told_is_read : (input source : List ℕ) → NoFaults old new → Tells old.files.told input source →
      Faulted old.files.reads new.files.reads ⊎ IsAbsent old.files.told input → ⊥
  told_is_read input source none tells (inl rose) = none.reads rose
  told_is_read input source none tells (inr absent) = told_not_absent old.files.told input source tells absent

  cannot_read : (asked : Asked) (source : List ℕ) → NoFaults old new → WorksOn asked old source →
      CannotRead asked old new → ⊥
  cannot_read (Compiles input output) source none tells why = told_is_read input source none tells why
  cannot_read (CompilesWithin input output k) source none tells why = told_is_read input source none tells why
  cannot_read (Upgrades input output) source none tells why = told_is_read input source none tells why
  cannot_read (Builds input output heap) source none tells why = told_is_read input source none tells why
  cannot_read (Disassembles input heap) source none tells why = told_is_read input source none tells why
  cannot_read (Types input) source none tells why = told_is_read input source none tells why
  cannot_read (Evaluates input turns) source none tells why = told_is_read input source none tells why
  cannot_read (Checks input) source none tells why = told_is_read input source none tells why
  cannot_read (Runs input fuel) source none tells why = told_is_read input source none tells why
  cannot_read (Costs input fuel) source none tells why = told_is_read input source none tells why
  cannot_read (Traces input from to) source none tells why = told_is_read input source none tells why
  cannot_read (Shows input form) source none tells why = told_is_read input source none tells why
  cannot_read (Explains input) source none tells why = told_is_read input source none tells why
  cannot_read (Lists input) source none tells why = told_is_read input source none tells why
  cannot_read (TypesNames input) source none tells why = told_is_read input source none tells why
  cannot_read (Generates seed output) source none is why = why

  no_usage : (asked : Asked) → Does old new Usage asked → ⊥
  no_usage (Compiles input output) answer = answer
  no_usage (CompilesWithin input output k) answer = answer
  no_usage (Upgrades input output) answer = answer
  no_usage (Builds input output heap) answer = answer
  no_usage (Disassembles input heap) answer = answer
  no_usage (Types input) answer = answer
  no_usage (Evaluates input turns) answer = answer
  no_usage (Checks input) answer = answer
  no_usage (Runs input fuel) answer = answer
  no_usage (Costs input fuel) answer = answer
  no_usage (Traces input from to) answer = answer
  no_usage (Shows input form) answer = answer
  no_usage (Explains input) answer = answer
  no_usage (Lists input) answer = answer
  no_usage (TypesNames input) answer = answer
  no_usage (Generates seed output) answer = answer

  budget_has : (asked : Asked) → Does old new Budget asked → HasBudget asked
  budget_has (Compiles input output) answer = absurd answer
  budget_has (CompilesWithin input output k) answer = absurd answer
  budget_has (Upgrades input output) answer = absurd answer
  budget_has (Builds input output heap) answer = absurd answer
  budget_has (Disassembles input heap) answer = absurd answer.says
  budget_has (Types input) answer = absurd answer.says
  budget_has (Evaluates input turns) answer = refl
  budget_has (Checks input) answer = absurd answer.says
  budget_has (Runs input fuel) answer = refl
  budget_has (Costs input fuel) answer = refl
  budget_has (Traces input from to) answer = refl
  budget_has (Shows input form) answer = absurd answer.says
  budget_has (Explains input) answer = absurd answer.says
  budget_has (Lists input) answer = absurd answer
  budget_has (TypesNames input) answer = absurd answer.says
  budget_has (Generates seed output) answer = absurd answer

  generates_at : (seed : ℕ) (output : List ℕ) (status : Status) → SeedAnswer seed output old new status →
      (status ≡ Done) ⊎ ((status ≡ WriteFault) ⊎ (status ≡ Memory))
  generates_at seed output Done answer = inl refl
  generates_at seed output WriteFault answer = inr (inl refl)
  generates_at seed output Memory answer = inr (inr refl)
  generates_at seed output Refused answer = absurd answer
  generates_at seed output Limit answer = absurd answer
  generates_at seed output Usage answer = absurd answer
  generates_at seed output Budget answer = absurd answer
  generates_at seed output ReadFault answer = absurd answer

  explains_at : (input : List ℕ) (status : Status) → LineAnswer (ShowsExplained input) AnyText input old new status →
      (status ≡ Done) ⊎ ((status ≡ ReadFault) ⊎ ((status ≡ WriteFault) ⊎ (status ≡ Memory)))
  explains_at input Done answer = inl refl
  explains_at input ReadFault answer = inr (inl refl)
  explains_at input WriteFault answer = inr (inr (inl refl))
  explains_at input Memory answer = inr (inr (inr refl))
  explains_at input Refused answer = absurd answer.first
  explains_at input Limit answer = absurd answer.first
  explains_at input Budget answer = absurd answer.says
  explains_at input Usage answer = absurd answer

  -- a settled status is that of the text, any other has its cause
  complete_at : (asked : Asked) (source : List ℕ) (status : Status) → Does old new status asked →
      WorksOn asked old source → IsTaken (need_of asked) source → NoFaults old new →
      Works asked status ⊎ (status ≡ Memory)
  complete_at asked source ReadFault answer tells taken none =
      absurd (cannot_read asked source none tells (read_fault_at asked answer))
  complete_at asked source WriteFault answer tells taken none = absurd (cannot asked none (write_fault_at asked answer))
  complete_at asked source Memory answer tells taken none = inr refl
  complete_at asked source Done answer tells taken none =
      inl (works_judged laws asked source Done (judged asked source Done answer tells tt) taken)
  complete_at asked source Refused answer tells taken none =
      inl (works_judged laws asked source Refused (judged asked source Refused answer tells tt) taken)
  complete_at asked source Limit answer tells taken none =
      inl (works_judged laws asked source Limit (judged asked source Limit answer tells tt) taken)
  complete_at asked source Usage answer tells taken none = absurd (no_usage asked answer)
  complete_at asked source Budget answer tells taken none =
      inl (works_judged laws asked source Budget (judged asked source Budget answer tells tt) taken)

  -- ---- where the words are none

  no_command_at : (status : Status) → UsageAnswer old new status → (status ≡ Usage) ⊎ (status ≡ Memory)
  no_command_at Usage answer = inl refl
  no_command_at Memory answer = inr refl
  no_command_at Done answer = absurd answer
  no_command_at Refused answer = absurd answer
  no_command_at Limit answer = absurd answer
  no_command_at Budget answer = absurd answer
  no_command_at ReadFault answer = absurd answer
  no_command_at WriteFault answer = absurd answer

  settled_usage : (status : Status) → (status ≡ Usage) ⊎ (status ≡ Memory) → IsSettled status → status ≡ Usage
  settled_usage status (inl usage) settled = usage
  settled_usage status (inr memory) settled = absurd (subst IsSettled memory settled)

  usage_at : (o : Option Asked) (status : Status) → MatchOption o (UsageAnswer old new status) (Does old new status) →
      IsSettled status → (status ≡ Usage) ↔ (o ≡ None)
  usage_at None status answer settled = (λ _. refl, λ _. settled_usage status (no_command_at status answer) settled)
  usage_at (Some asked) status answer settled =
      (λ e. absurd (no_usage asked (subst (λ s. Does old new s asked) e answer)), λ e. cc)

  has_budget_at : (o : Option Asked) → MatchOption o (UsageAnswer old new Budget) (Does old new Budget) →
      (asked : Asked) × (o ≡ Some asked) × HasBudget asked
  has_budget_at None answer = absurd answer
  has_budget_at (Some asked) answer = (asked, refl, budget_has asked answer)

pub exactly : TextLaws → HeadlineIsExact
exactly laws words old new status headline = record {
  usage = usage_at laws old new (command_of words) status headline;
  no_command = λ none. no_command_at laws old new status (at_none _ _ _ headline none);
  refused = λ asked source asks settled. refused_judged laws asked source status
      (judged laws old new asked source status (at_some _ _ _ _ headline asks.0) asks.1 settled);
  limit = λ asked source asks settled. limit_judged laws asked source status
      (judged laws old new asked source status (at_some _ _ _ _ headline asks.0) asks.1 settled);
  budget = λ asked source asks settled. budget_judged laws asked source status
      (judged laws old new asked source status (at_some _ _ _ _ headline asks.0) asks.1 settled);
  has_budget = λ e. has_budget_at laws old new (command_of words) (subst (Headline words old new) e headline);
  read_fault =
      λ asked asks e. read_fault_at laws old new asked
      (subst (λ s. Does old new s asked) e (at_some _ _ _ _ headline asks));
  absent = λ asked asks absent. absent_at laws old new asked status (at_some _ _ _ _ headline asks) absent;
  write_fault =
      λ asked asks e. write_fault_at laws old new asked
      (subst (λ s. Does old new s asked) e (at_some _ _ _ _ headline asks));
  generates = λ seed output asks. generates_at laws old new seed output status (at_some _ _ _ _ headline asks);
  explains = λ input asks. explains_at laws old new input status (at_some _ _ _ _ headline asks);
  complete = λ asked source asks taken none. complete_at laws old new asked source status
      (at_some _ _ _ _ headline asks.0) asks.1 taken none;
}
