use Rattle.std.proofs.Common.{rules, ◌≡◌, ◌≤◌, suc, subst, arith, to_z, of_z, w64}
use Rattle.t_terms.specs.ReadProgram.{program}
use Rattle.t_rules.specs.Machine.{HaltedAfter}
use Rattle.t_check.specs.Checked.{checked_program}
use Rattle.t_machine.specs.Runs.{FirstRun}
use Rattle.t_machine.specs.declared.machine.Ran.{Ran}
use Rattle.talc_core.proofs.TraceLemmas.{no_lines}
use Rattle.talc_core.proofs.commands.trace.no_states.Goals as goal

pub returns-in_ok-reply-in-Halted : goal.returns-in_ok-reply-in-Halted
returns-in_ok-reply-in-Halted c =
    let P = program (checked_program c.args.program.now) in
    let i = c.in-Halted.value in
    let kept : i ≡ to_z w64 (of_z w64 i) = search (rules, c.first_run.type_inv, c.in_ok-value.is, c.in-Halted.is) in
    let h = subst (λ (r : Ran). FirstRun P c.args.window.to r) c.in-Halted.is c.in_ok-value.ensures in
    let before : suc h.0 ≤ c.args.window.from = omega (arith, h.1, c.requires.order) in
    c.in_ok-reply-in-Halted.ensures P c.args.window.from c.args.window.to h.0 h.1 (subst (HaltedAfter P h.0) kept h.2)
    (no_lines P c.args.window.from (suc h.0) c.new.result.items before c.new.ensures.items)

pub returns-in_ok-reply-in-Spent : goal.returns-in_ok-reply-in-Spent
returns-in_ok-reply-in-Spent c =
    let P = program (checked_program c.args.program.now) in
    let h = subst (λ (r : Ran). FirstRun P c.args.window.to r) c.in-Spent.is c.in_ok-value.ensures in
    let before : suc c.args.window.to ≤ c.args.window.from = omega (arith, c.requires.order) in
    c.in_ok-reply-in-Spent.ensures P c.args.window.from h
    (no_lines P c.args.window.from (suc c.args.window.to) c.new-in-Spent.result.items before
    c.new-in-Spent.ensures.items)
