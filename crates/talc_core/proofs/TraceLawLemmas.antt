-- What `trace` shows of a text is one answer, and ends as what `run` shows.
use Rattle.std.proofs.Common.{◌≡◌, ◌∙◌, ℕ, ℤ, zero, suc, List, ◌++◌, inl, inr, refl, sym, ap, ap₂, subst, arith}
use Rattle.t_terms.specs.Tree.{TProg}
use Rattle.t_terms.specs.Spanned.{plain_program}
use Rattle.t_rules.specs.Machine.{HaltedAfter}
use Rattle.talc_core.specs.declared.status.Status.TheVariants.{Done, Refused, Usage, Limit, Budget, ReadFault}
use Rattle.talc_core.specs.declared.status.Status.TheVariants.{WriteFault, Memory}
use Rattle.talc_core.specs.Lines.{integer_line, more_instructions_line}
use Rattle.talc_core.specs.TextLaws.{TextLaws}
use Rattle.talc_core.specs.Traced.{AreLines, HaltedStates, RunningStates, OneLine}
use Rattle.talc_core.specs.TraceLaws.{OneTrace, TraceEndsAsRun}
use Rattle.talc_core.proofs.ShownLemmas.{one_shown, same_steps, same_value}
use Rattle.talc_core.proofs.RunLemmas.{going_not_halted}

pub trace_ends_as_run : TraceEndsAsRun
trace_ends_as_run from to Done text lines shown = (
  shown.2.shown,
  integer_line shown.2.value,
  record {
    program = shown.0;
    value = shown.2.value;
    accepted = shown.1;
    halts = (shown.2.steps, shown.2.within, shown.2.halted);
    is = refl;
  },
  shown.2.is,
)
trace_ends_as_run from to Budget text lines shown = (
  shown.2.shown,
  more_instructions_line to,
  record {
    program = shown.0;
    accepted = shown.1;
    goes_on = shown.2.goes_on;
    is = refl;
  },
  shown.2.is,
)
trace_ends_as_run from to Refused text lines shown = absurd shown
trace_ends_as_run from to Usage text lines shown = absurd shown
trace_ends_as_run from to Limit text lines shown = absurd shown
trace_ends_as_run from to ReadFault text lines shown = absurd shown
trace_ends_as_run from to WriteFault text lines shown = absurd shown
trace_ends_as_run from to Memory text lines shown = absurd shown

-- the lines of states
same_lines : OneLine → (P : TProg) (from end : ℕ) (a b : List ℕ) → AreLines P from end a → AreLines P from end b → a ≡ b
same_lines one P from zero a b x y = x ∙ sym y
same_lines one P from (suc m) a b (inl x) (inl y) = x.1 ∙ sym y.1
same_lines one P from (suc m) a b (inl x) (inr y) = absurd (omega (arith, x.0, y.0))
same_lines one P from (suc m) a b (inr x) (inl y) = absurd (omega (arith, x.0, y.0))
same_lines one P from (suc m) a b (inr x) (inr y) =
    x.5
    ∙ ap₂ (λ (before line : List ℕ). before ++ line) (same_lines one P from m x.1 y.1 x.3 y.3)
    (one P m x.2 y.2 x.4 y.4)
    ∙ sym y.5

module _ (laws : TextLaws) (one : OneLine) where
  same_halted : (P : TProg) (from to : ℕ) (a b : List ℕ) → HaltedStates P from to a → HaltedStates P from to b → a ≡ b
  same_halted P from to a b x y =
      let steps : y.steps ≡ x.steps = same_steps laws P y.steps x.steps y.value x.value y.halted x.halted in
      let value : x.value ≡ y.value =
      same_value laws P x.steps x.value y.value x.halted (subst (λ n. HaltedAfter P n y.value) steps y.halted) in
      let states : AreLines P from (suc x.steps) y.shown =
      subst (λ n. AreLines P from (suc n) y.shown) steps y.states in
      x.is
      ∙ ap₂ (λ (s : List ℕ) (i : ℤ). s ++ integer_line i)
      (same_lines one P from (suc x.steps) x.shown y.shown x.states states) value
      ∙ sym y.is

  same_running : (P : TProg) (from to : ℕ) (a b : List ℕ) → RunningStates P from to a → RunningStates P from to b →
      a ≡ b
  same_running P from to a b x y =
      x.is
      ∙ ap (λ (s : List ℕ). s ++ more_instructions_line to)
      (same_lines one P from (suc to) x.shown y.shown x.states y.states)
      ∙ sym y.is

  -- no program both halts and goes on
  not_both : (P : TProg) (from to : ℕ) (a b : List ℕ) → HaltedStates P from to a → RunningStates P from to b → ⊥
  not_both P from to a b x y = going_not_halted laws P x.steps to x.value x.halted y.goes_on x.within

  pub one_trace : OneTrace
  one_trace from to =
      one_shown laws (λ text program lines. HaltedStates (plain_program program) from to lines)
      (λ text program lines. RunningStates (plain_program program) from to lines)
      (λ text program a b. same_halted (plain_program program) from to a b)
      (λ text program a b. same_running (plain_program program) from to a b)
      (λ text program a b. not_both (plain_program program) from to a b)
