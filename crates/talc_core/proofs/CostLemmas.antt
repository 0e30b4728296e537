-- What `cost` shows of a program of which a first run counted, and that it is one answer, which ends as that of `run`.
use Rattle.std.proofs.Common.{◌≡◌, ◌∙◌, ℕ, ℤ, ◌+◌, ◌≤◌, List, ◌++◌, refl, sym, ap, ap₂, subst, arith}
use Rattle.std.specs.Prelude.{count_by}
use Rattle.t_terms.specs.Tree.{TProg}
use Rattle.t_terms.specs.Spanned.{SProg, plain_program}
use Rattle.t_rules.specs.Machine.{State, Place, Spot, After, HaltedAfter, GoesOnAfter}
use Rattle.t_rules.specs.ErasedRuns.{RunsCountAlike}
use Rattle.t_rules.specs.Times.{is_spot}
use Rattle.t_machine.specs.Runs.{IsPlaceAfter, steps_made}
use Rattle.t_machine.specs.Tables.{table, AreCounts, FirstCounts}
use Rattle.t_machine.specs.declared.machine.Ran.{Ran}
use Rattle.t_machine.specs.declared.machine.Ran.TheVariants as ran
use Rattle.cost_page.specs.Page.{page}
use Rattle.talc_core.specs.declared.status.Status.TheVariants.{Done, Refused, Usage, Limit, Budget, ReadFault}
use Rattle.talc_core.specs.declared.status.Status.TheVariants.{WriteFault, Memory}
use Rattle.talc_core.specs.Costed.{IsCost, HaltedCost, RunningCost}
use Rattle.talc_core.specs.Costing.{IsCounted}
use Rattle.talc_core.specs.CostLaws.{OneCost, CostEndsAsRun}
use Rattle.talc_core.specs.Lines.{integer_line, more_instructions_line}
use Rattle.talc_core.specs.TextLaws.{TextLaws}
use Rattle.talc_core.proofs.RunLemmas.{going_not_halted}
use Rattle.talc_core.proofs.ShownLemmas.{one_shown, same_steps, same_value}

module _ (law : FirstCounts) (text : List ℕ) (program : SProg) (index : ℕ) (counts : List ℕ) where
  abbrev P : TProg
  P = plain_program program

  -- the page of so many steps
  is_cost : (m block : ℕ) (s : State) (p : Place) → After P m s p → IsPlaceAfter P m block index →
      AreCounts P m (0 + m) counts → (lines : List ℕ) → lines ≡ page text program m index counts →
      IsCost text program m lines
  is_cost m block s p run place times lines is =
      let there : After P m s (Spot block index) = subst (After P m s) (place s p run) run in
      record {
        state = s;
        block = block;
        index = index;
        run = there;
        is = is ∙ ap (page text program m index) (law P m counts times s (Spot block index) there);
      }

  pub halted_told : (fuel : ℕ) (x : Ran) (i : ℤ) (k : ℕ) → x ≡ ran.Halted i k → IsCounted P fuel x index counts →
      (steps : ℕ) → steps ≡ steps_made fuel x → (lines : List ℕ) → lines ≡ page text program steps index counts →
      (steps ≤ fuel) × HaltedAfter P steps i × IsCost text program steps lines
  halted_told fuel x i k is counted steps same lines made =
      let c = subst (λ (r : Ran). IsCounted P fuel r index counts) is counted in
      let all : steps ≡ k = same ∙ ap (steps_made fuel) is in
      let none : 0 + k ≡ k = omega arith in
      let halted : HaltedAfter P k i = subst (λ n. HaltedAfter P n i) none c.told.1 in
      let whole : (k ≤ fuel) × HaltedAfter P k i × IsCost text program k lines = (
        c.told.0,
        halted,
        is_cost k c.block halted.0 halted.1 halted.2 (subst (λ n. IsPlaceAfter P n c.block index) none c.place) c.times
            lines (made ∙ ap (λ n. page text program n index counts) all),
      ) in
      subst (λ n. (n ≤ fuel) × HaltedAfter P n i × IsCost text program n lines) (sym all) whole

  pub running_told : (fuel : ℕ) (x : Ran) → x ≡ ran.Spent → IsCounted P fuel x index counts →
      (steps : ℕ) → steps ≡ steps_made fuel x → (lines : List ℕ) → lines ≡ page text program steps index counts →
      GoesOnAfter P fuel × IsCost text program fuel lines
  running_told fuel x is counted steps same lines made =
      let c = subst (λ (r : Ran). IsCounted P fuel r index counts) is counted in
      let all : steps ≡ fuel = same ∙ ap (steps_made fuel) is in
      let none : 0 + fuel ≡ fuel = omega arith in
      let goes_on : GoesOnAfter P fuel = subst (λ n. GoesOnAfter P n) none c.told in (
        goes_on,
        is_cost fuel c.block goes_on.0 goes_on.1 goes_on.2
            (subst (λ n. IsPlaceAfter P n c.block index) none c.place) c.times lines
            (made ∙ ap (λ n. page text program n index counts) all),
      )

-- the page with what is said behind it
pub halted_shown : (text : List ℕ) (program : SProg) (fuel steps : ℕ) (value : ℤ) (old last new : List ℕ) →
    steps ≤ fuel → HaltedAfter (plain_program program) steps value → IsCost text program steps old →
    last ≡ integer_line value → new ≡ old ++ last → HaltedCost fuel text program new
halted_shown text program fuel steps value old last new within halted made says is = record {
  steps = steps;
  value = value;
  shown = old;
  within = within;
  halted = halted;
  made = made;
  is = is ∙ ap (λ (line : List ℕ). old ++ line) says;
}

pub running_shown : (text : List ℕ) (program : SProg) (fuel : ℕ) (old last new : List ℕ) →
    GoesOnAfter (plain_program program) fuel → IsCost text program fuel old → last ≡ more_instructions_line fuel →
    new ≡ old ++ last → RunningCost fuel text program new
running_shown text program fuel old last new goes_on made says is = record {
  shown = old;
  goes_on = goes_on;
  made = made;
  is = is ∙ ap (λ (line : List ℕ). old ++ line) says;
}

-- ---- laws

pub cost_ends_as_run : CostEndsAsRun
cost_ends_as_run fuel Done text lines shown = (
  shown.2.shown,
  integer_line shown.2.value,
  record {
    program = shown.0;
    value = shown.2.value;
    accepted = shown.1;
    halts = (shown.2.steps, shown.2.within, shown.2.halted);
    is = refl;
  },
  shown.2.is,
)
cost_ends_as_run fuel Budget text lines shown = (
  shown.2.shown,
  more_instructions_line fuel,
  record { program = shown.0; accepted = shown.1; goes_on = shown.2.goes_on; is = refl },
  shown.2.is,
)
cost_ends_as_run fuel Refused text lines shown = absurd shown
cost_ends_as_run fuel Usage text lines shown = absurd shown
cost_ends_as_run fuel Limit text lines shown = absurd shown
cost_ends_as_run fuel ReadFault text lines shown = absurd shown
cost_ends_as_run fuel WriteFault text lines shown = absurd shown
cost_ends_as_run fuel Memory text lines shown = absurd shown

-- one page comes of so many steps
same_cost : TextLaws → RunsCountAlike → (text : List ℕ) (program : SProg) (m : ℕ) (a b : List ℕ) →
    IsCost text program m a → IsCost text program m b → a ≡ b
same_cost laws alike text program m a b x y =
    let spot : Spot x.block x.index ≡ Spot y.block y.index = (laws.one_run (plain_program program) m x.state y.state
    (Spot x.block x.index) (Spot y.block y.index) x.run y.run).1 in
    let index : x.index ≡ y.index = cc in
    x.is
    ∙ ap₂ (λ (i : ℕ) (log : List Place). page text program m i
    (table (λ c j. count_by (is_spot c j) log) (plain_program program))) index
    (alike (plain_program program) m x.state y.state (Spot x.block x.index) (Spot y.block y.index) x.run y.run).0
    ∙ sym y.is

module _ (laws : TextLaws) (alike : RunsCountAlike) (fuel : ℕ) where
  same_halted : (text : List ℕ) (program : SProg) (a b : List ℕ) → HaltedCost fuel text program a →
      HaltedCost fuel text program b → a ≡ b
  same_halted text program a b x y =
      let P = plain_program program in
      let steps : y.steps ≡ x.steps = same_steps laws P y.steps x.steps y.value x.value y.halted x.halted in
      let value : x.value ≡ y.value = same_value laws P x.steps x.value y.value x.halted
      (subst (λ n. HaltedAfter P n y.value) steps y.halted) in
      x.is
      ∙ ap₂ (λ (s : List ℕ) (i : ℤ). s ++ integer_line i)
      (same_cost laws alike text program x.steps x.shown y.shown x.made
      (subst (λ n. IsCost text program n y.shown) steps y.made)) value
      ∙ sym y.is

  same_running : (text : List ℕ) (program : SProg) (a b : List ℕ) → RunningCost fuel text program a →
      RunningCost fuel text program b → a ≡ b
  same_running text program a b x y =
      x.is
      ∙ ap (λ (s : List ℕ). s ++ more_instructions_line fuel)
      (same_cost laws alike text program fuel x.shown y.shown x.made y.made)
      ∙ sym y.is

  not_both : (text : List ℕ) (program : SProg) (a b : List ℕ) → HaltedCost fuel text program a →
      RunningCost fuel text program b → ⊥
  not_both text program a b x y =
      going_not_halted laws (plain_program program) x.steps fuel x.value x.halted y.goes_on x.within

pub one_cost : TextLaws → RunsCountAlike → OneCost
one_cost laws alike fuel =
    one_shown laws (HaltedCost fuel) (RunningCost fuel) (same_halted laws alike fuel) (same_running laws alike fuel)
    (not_both laws alike fuel)
