use Rattle.std.proofs.Common.{rules, ◌≡◌, ◌∙◌, ◌+◌, ◌≤◌, suc, ap, refl, sym, subst, arith, add-one, to_z, of_z, w64}
use Rattle.std.proofs.Common.{List, ℕ}
use Rattle.t_terms.specs.ReadProgram.{program}
use Rattle.t_terms.specs.Tree.{TProg}
use Rattle.t_rules.specs.Machine.{HaltedAfter, GoesOnAfter}
use Rattle.t_check.specs.Walks.{walked}
use Rattle.t_check.specs.declared.walk.Walk.{Walk}
use Rattle.t_machine.specs.Runs.{Stands}
use Rattle.talc_core.specs.Traced.{AreLines}
use Rattle.talc_core.specs.Tracing.{AddsLine}
use Rattle.talc_core.proofs.TraceLemmas.{more_lines, no_lines, lines_same, lines_after}
use Rattle.talc_core.proofs.commands.trace.states_from.Goals.{then-made-gt0+in_ok-write_state-in-Halted, else-made-gt0}
use Rattle.talc_core.proofs.commands.trace.states_from.Goals as goal

-- two walks over one program
one_program : (v w : Walk) → v.program ≡ w.program → walked v ≡ walked w
one_program v w same = ap (λ p. program p.now) same

one_line : (v w : Walk) (m : ℕ) (old new : List ℕ) → v.program ≡ w.program → AddsLine (walked v) m old new →
    AddsLine (walked w) m old new
one_line v w m old new same adds = subst (λ P. AddsLine P m old new) (one_program v w same) adds

pub loop-m-init : goal.loop-m-init
loop-m-init c =
    let from = c.args.window.from in
    record {
      stands = c.requires.stands;
      walk = c.requires.walk;
      same = refl;
      lines = no_lines (walked c.args.walk.now) from from c.new-lines.result.items (omega arith)
          c.new-lines.ensures.items;
    }

pub write_state-requires-then-made-gt0-clause-stands : goal.write_state-requires-then-made-gt0-clause-stands
write_state-requires-then-made-gt0-clause-stands c =
    let w = c.args.walk.now in
    let m = c.loop-m.m in
    let h = c.in-Halted.ensures.answer (walked w) w.program.now.whole.0 c.requires.accepted m c.loop-m.invariant.stands
    in
    let one : m + c.in-Halted.made ≡ m + 1 = omega (arith, h.0, c.if-made-gt0.true) in
    let stands =
    c.in-Halted.ensures.stands (walked w) w.program.now.whole.0 c.requires.accepted m c.loop-m.invariant.stands in
    let same = one_program c.write_state.new.walk w (c.in_ok-write_state.ensures.program ∙ c.loop-m.invariant.same) in
    subst (λ (P : TProg). Stands P (m + 1) c.run.new.self) (sym same)
    (subst (λ k. Stands (walked w) k c.run.new.self) one stands)

pub returns-in-Halted : goal.returns-in-Halted
returns-in-Halted c =
    let w = c.args.walk.now in
    let P = walked w in
    let from = c.args.window.from in
    let m = c.loop-m.m in
    let k = c.in-Halted.made in
    let i = c.in-Halted.value in
    let kept : i ≡ to_z w64 (of_z w64 i) = search (rules, c.run.type_inv, c.in-Halted.is) in
    let h = c.in-Halted.ensures.answer P w.program.now.whole.0 c.requires.accepted m c.loop-m.invariant.stands in
    let le : from ≤ m = omega (arith, c.loop-m.auto.m) in
    let within : m + k ≤ c.args.window.to = omega (arith, h.0, c.loop-m-test.true) in
    let old = c.write_state.new.lines.items in
    let first =
    one_line c.loop-m.walk w m c.loop-m.lines.items old c.loop-m.invariant.same c.in_ok-write_state.ensures.line in
    let lines = more_lines P from m c.loop-m.lines.items old le c.loop-m.invariant.lines first in
    let all : AreLines P from (suc (m + k)) c.if-made-gt0.lines.items = elim c.if-made-gt0.branch [
      | then-made-gt0+in_ok-write_state-in-Halted b ↦
          let one : k ≡ 1 = omega (arith, h.0, b.if-made-gt0.true) in
          let new = b.write_state-then-made-gt0.new.lines.items in
          let same = c.in_ok-write_state.ensures.program ∙ c.loop-m.invariant.same in
          let next =
          one_line c.write_state.new.walk w (m + 1) old new same b.in_ok-write_state-in-Halted.ensures.line in
          let after =
          lines_after P from m k old new one le lines (subst (λ n. AddsLine P (m + n) old new) (sym one) next) in
          subst (λ v. AreLines P from (suc (m + k)) v.items) (sym b.lines-is) after
      | else-made-gt0 b ↦
          let none : k ≡ 0 = omega (arith, b.if-made-gt0.false) in
          subst (λ v. AreLines P from (suc (m + k)) v.items) (sym b.lines-is)
          (lines_same P from m k old none lines)
    ] in
    c.in_ok-reply-in-Halted.ensures P from c.args.window.to (m + k) within (subst (HaltedAfter P (m + k)) kept h.1) all

pub loop-m-preserved : goal.loop-m-preserved
loop-m-preserved c =
    let w = c.args.walk.now in
    let P = walked w in
    let from = c.args.window.from in
    let m = c.loop-m.m in
    let le : from ≤ m = omega (arith, c.loop-m.auto.m) in
    let new = c.write_state.new.lines.items in
    let first =
    one_line c.loop-m.walk w m c.loop-m.lines.items new c.loop-m.invariant.same c.in_ok-write_state.ensures.line in
    record {
      stands = c.in-Spent.ensures.stands P w.program.now.whole.0 c.requires.accepted m c.loop-m.invariant.stands;
      walk = c.in_ok-write_state.ensures.walk;
      same = c.in_ok-write_state.ensures.program ∙ c.loop-m.invariant.same;
      lines = subst (λ k. AreLines P from k new) (sym (add-one m))
          (more_lines P from m c.loop-m.lines.items new le c.loop-m.invariant.lines first);
    }

pub returns-in_ok-reply-in-Halted-run : goal.returns-in_ok-reply-in-Halted-run
returns-in_ok-reply-in-Halted-run c =
    let w = c.args.walk.now in
    let P = walked w in
    let from = c.args.window.from in
    let to = c.args.window.to in
    let same : c.loop-m.m ≡ to = omega (arith, c.loop-m-test.false, c.loop-m.auto.m-end) in
    let stands = subst (λ k. Stands P k c.loop-m.machine) same c.loop-m.invariant.stands in
    let i = c.in-Halted-run.value in
    let k = c.in-Halted-run.made in
    let kept : i ≡ to_z w64 (of_z w64 i) = search (rules, c.run-2.type_inv, c.in-Halted-run.is) in
    let h = c.in-Halted-run.ensures.answer P w.program.now.whole.0 c.requires.accepted to stands in
    let at : to + k ≡ to = omega (arith, h.0) in
    let new = c.write_state-2.new.lines.items in
    let last = one_line c.loop-m.walk w to c.loop-m.lines.items new c.loop-m.invariant.same
    c.in_ok-write_state-2.ensures.line in
    let before = subst (λ n. AreLines P from n c.loop-m.lines.items) same c.loop-m.invariant.lines in
    let lines = more_lines P from to c.loop-m.lines.items new c.requires.order before last in
    c.in_ok-reply-in-Halted-run.ensures P from to to (omega arith)
    (subst (HaltedAfter P to) kept (subst (λ n. HaltedAfter P n i) at h.1)) lines

pub returns-in_ok-reply-in-Spent-run : goal.returns-in_ok-reply-in-Spent-run
returns-in_ok-reply-in-Spent-run c =
    let w = c.args.walk.now in
    let P = walked w in
    let from = c.args.window.from in
    let to = c.args.window.to in
    let same : c.loop-m.m ≡ to = omega (arith, c.loop-m-test.false, c.loop-m.auto.m-end) in
    let stands = subst (λ k. Stands P k c.loop-m.machine) same c.loop-m.invariant.stands in
    let h = c.in-Spent-run.ensures.answer P w.program.now.whole.0 c.requires.accepted to stands in
    let at : to + 0 ≡ to = omega arith in
    let new = c.write_state-2.new.lines.items in
    let last = one_line c.loop-m.walk w to c.loop-m.lines.items new c.loop-m.invariant.same
    c.in_ok-write_state-2.ensures.line in
    let before = subst (λ n. AreLines P from n c.loop-m.lines.items) same c.loop-m.invariant.lines in
    let lines = more_lines P from to c.loop-m.lines.items new c.requires.order before last in
    c.in_ok-reply-in-Spent-run.ensures P from (subst (λ n. GoesOnAfter P n) at h) lines
