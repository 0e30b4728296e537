use Rattle.std.proofs.Common.{◌≤◌, inl, inr, refl, sym, ◌∙◌, subst, arith, true≢false}
use Rattle.std.proofs.Math.Bridge.{le_prop}
use Rattle.std.proofs.Math.Logic.{∥∥₁_elim, ∥∥₁_map, ∥∥₁_map₂, ∥∥₁_prop}
use Rattle.f_check.specs.Typed.{program_term}
use Rattle.f_terms.specs.ReadTerm as source
use Rattle.t_terms.specs.Nesting.{nesting, most_open}
use Rattle.t_terms.specs.ReadProgram.{program}
use Rattle.t_terms.specs.declared.program.TProgram.{TProgram}
use Rattle.t_rules.specs.Machine.{Place}
use Rattle.t_spill_laws.specs.Bound.{RegistersUpTo}
use Rattle.t_spill_laws.specs.Correct.{origin}
use Rattle.pipeline.specs.Compilation.{IsCompilationWithin}
use Rattle.pipeline.specs.Work.{WorkWithin}
use Rattle.pipeline.proofs.Bounded.{bounded}
use Rattle.pipeline.proofs.Framed.{types_few, reach_within}
use Rattle.pipeline.proofs.Shallow.{shallow}
use Rattle.pipeline.proofs.Weighing.{framed}
use Rattle.pipeline.proofs.compiling.compile_within.Goals as goal

pub seal-requires : goal.seal-requires
seal-requires c = ∥∥₁_map c.in_ok-made.ensures.compiled (λ made. made.accepted)

pub spill-requires-clause-accepted : goal.spill-requires-clause-accepted
spill-requires-clause-accepted c = ∥∥₁_map c.in_ok-made.ensures.compiled (λ made. made.accepted)

pub spill-requires-clause-names : goal.spill-requires-clause-names
spill-requires-clause-names c =
    ∥∥₁_map c.in_ok-made.ensures.within
    (λ within. types_few 70368744177664 1606 140737488355328 (omega arith) (program c.in_ok-made.made) within)

pub seal-requires-2 : goal.seal-requires-2
seal-requires-2 c = ∥∥₁_map c.in_ok-framed.ensures.spills (λ s. s.accepted)

pub returns-then-is_within-clause-compiled : goal.returns-then-is_within-clause-compiled
returns-then-is_within-clause-compiled c =
    let k = c.args.k in
    let e = source.term_of (program_term c.args.program.now) in
    let P = program c.in_ok-made.made in
    let within : RegistersUpTo k P = c.is_within.ensures.0 c.if-is_within.true in
    let times = c.runs_stay_within_times.ensures in
    let seldom = c.places_run_seldom.ensures in
    subst (λ (x : TProgram). ∥ IsCompilationWithin k e (program x) ∥₁) (sym c.seal.ensures)
    (∥∥₁_map₂ c.in_ok-made.ensures.compiled c.in_ok-made.ensures.entered (λ made entered.
    let spills = c.few_registers_may_stay.ensures k P c.in_ok-made.made.whole.0 made.accepted within in
    bounded k e P P (λ (p : Place). p) times seldom made entered spills (λ h. refl) (λ above. absurd (above within))
    (record {
      stays = λ h. (c.in_ok-made.ensures.work, c.in_ok-made.ensures.weights);
      framed = λ above. absurd (above within);
    })))

pub returns-then-is_within-clause-work : goal.returns-then-is_within-clause-work
returns-then-is_within-clause-work c =
    let e = source.term_of (program_term c.args.program.now) in
    let made = c.in_ok-made.ensures in
    subst (λ (x : TProgram). WorkWithin e (program x)) (sym c.seal.ensures)
    (inl (made.work, made.weights))

pub returns-then-is_within-clause-shallow : goal.returns-then-is_within-clause-shallow
returns-then-is_within-clause-shallow c =
    let P = program c.in_ok-made.made in
    subst (λ (x : TProgram). nesting (program x) ≤ most_open) (sym c.seal.ensures)
    (∥∥₁_elim c.in_ok-made.ensures.flat le_prop (λ packs.
    ∥∥₁_elim c.in_ok-made.ensures.within le_prop (λ within.
    let x = shallow 70368744177664 1606 140737488355328 P packs within in omega (arith, x))))

pub returns-clause-compiled : goal.returns-clause-compiled
returns-clause-compiled c =
    let k = c.args.k in
    let e = source.term_of (program_term c.args.program.now) in
    let P = program c.in_ok-made.made in
    let Q = program c.in_ok-framed.framed in
    let above = λ (h : RegistersUpTo k P). true≢false (sym (c.is_within.ensures.1 h) ∙ c.if-is_within.false) in
    let times = c.runs_stay_within_times.ensures in
    let seldom = c.places_run_seldom.ensures in
    let is = c.in_ok-framed.ensures.is in
    subst (λ (x : TProgram). ∥ IsCompilationWithin k e (program x) ∥₁) (sym c.seal-2.ensures)
    (∥∥₁_elim c.in_ok-framed.ensures.spills ∥∥₁_prop (λ spills.
    ∥∥₁_map₂ c.in_ok-made.ensures.compiled c.in_ok-made.ensures.entered (λ made entered.
    bounded k e P Q (origin k P) times seldom made entered spills (λ h. absurd (above h)) (λ h. is)
    (record {
      stays = λ h. absurd (above h);
      framed = λ h. framed k e P Q is c.in_ok-made.ensures.work c.in_ok-made.ensures.weights;
    }))))

pub returns-clause-shallow : goal.returns-clause-shallow
returns-clause-shallow c =
    let P = program c.in_ok-made.made in
    subst (λ (x : TProgram). nesting (program x) ≤ most_open) (sym c.seal-2.ensures)
    (∥∥₁_elim c.in_ok-framed.ensures.spills le_prop (λ spills.
    ∥∥₁_elim c.in_ok-made.ensures.flat le_prop (λ packs.
    ∥∥₁_elim c.in_ok-made.ensures.within le_prop (λ within.
    let x = spills.shallow packs in
    let y = reach_within 70368744177664 1606 140737488355328 (omega arith) P within in
    omega (arith, x, y)))))

pub returns-clause-work : goal.returns-clause-work
returns-clause-work c =
    let e = source.term_of (program_term c.args.program.now) in
    let P = program c.in_ok-made.made in
    let Q = program c.in_ok-framed.framed in
    let made = c.in_ok-made.ensures in
    subst (λ (x : TProgram). WorkWithin e (program x)) (sym c.seal-2.ensures)
    (inr (framed c.args.k e P Q c.in_ok-framed.ensures.is made.work made.weights))
