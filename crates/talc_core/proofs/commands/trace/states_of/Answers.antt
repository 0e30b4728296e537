use Rattle.std.proofs.Common.{rules, ◌≡◌, ◌+◌, ◌≤◌, suc, subst, arith, to_z, of_z, w64, sym}
use Rattle.t_terms.specs.ReadProgram.{program}
use Rattle.t_terms.specs.Tree.{TProg}
use Rattle.t_rules.specs.Machine.{HaltedAfter}
use Rattle.t_check.specs.Checked.{checked_program}
use Rattle.t_machine.specs.Runs.{Stands}
use Rattle.talc_core.proofs.TraceLemmas.{no_lines}
use Rattle.talc_core.proofs.commands.trace.states_of.Goals.{in-Halted+else-made-window, in-Spent}
use Rattle.talc_core.proofs.commands.trace.states_of.Goals as goal

pub returns-then-made-window : goal.returns-then-made-window
returns-then-made-window c =
    let p = checked_program c.args.program.now in
    let P = program p in
    let i = c.in-Halted.value in
    let k = c.in-Halted.made in
    let kept : i ≡ to_z w64 (of_z w64 i) = search (rules, c.run.type_inv, c.in-Halted.is) in
    let h = c.in-Halted.ensures.answer P p.whole.0 c.requires.accepted 0 c.requires.stands in
    let at : 0 + k ≡ k = omega arith in
    let before : suc k ≤ c.args.window.from = omega (arith, c.if-made-window.true) in
    let within : k ≤ c.args.window.to = omega (arith, before, c.requires.order) in
    c.in_ok-reply-in-Halted.ensures P c.args.window.from c.args.window.to k within
    (subst (HaltedAfter P k) kept (subst (λ n. HaltedAfter P n i) at h.1))
    (no_lines P c.args.window.from (suc k) c.new.result.items before c.new.ensures.items)

pub states_from-requires-clause-stands : goal.states_from-requires-clause-stands
states_from-requires-clause-stands c =
    let p = checked_program c.args.program.now in
    let P = program p in
    let from = c.args.window.from in
    let stands : Stands P from c.run.new.self = elim c.match-run.branch [
      | in-Halted+else-made-window w ↦
          let h = w.in-Halted.ensures.answer P p.whole.0 c.requires.accepted 0 c.requires.stands in
          let same : 0 + w.in-Halted.made ≡ from = omega (arith, h.0, w.if-made-window.false) in
          subst (λ k. Stands P k c.run.new.self) same
          (w.in-Halted.ensures.stands P p.whole.0 c.requires.accepted 0 c.requires.stands)
      | in-Spent w ↦
          let same : 0 + from ≡ from = omega arith in
          subst (λ k. Stands P k c.run.new.self) same
          (w.in-Spent.ensures.stands P p.whole.0 c.requires.accepted 0 c.requires.stands)
    ] in
    subst (λ (Q : TProg). Stands Q from c.run.new.self) (sym c.in_ok-walk.ensures.program) stands
