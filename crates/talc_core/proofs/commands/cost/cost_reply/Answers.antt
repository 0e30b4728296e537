use Rattle.std.proofs.Common.{rules, ◌≡◌, sym, subst, to_z, of_z, w64}
use Rattle.t_terms.specs.ReadProgram.{spanned_program}
use Rattle.t_terms.specs.Spanned.{plain_program}
use Rattle.t_rules.specs.Machine.{HaltedAfter}
use Rattle.t_check.specs.Checked.{checked_program}
use Rattle.t_machine.specs.declared.machine.Ran.{Ran}
use Rattle.talc_core.specs.Costing.{IsCounted}
use Rattle.talc_core.proofs.CostLemmas.{halted_told, running_told}
use Rattle.talc_core.proofs.commands.cost.cost_reply.Goals as goal

pub returns-in_ok-reply-in-Halted : goal.returns-in_ok-reply-in-Halted
returns-in_ok-reply-in-Halted c =
    let P = spanned_program (checked_program c.args.program.now) in
    let x = c.args.counted.now in
    let i = c.in-Halted.value in
    let kept : i ≡ to_z w64 (of_z w64 i) = search (rules, c.ended-ran.type_inv, c.in-Halted.is) in
    let told = halted_told c.first_counts_are_times.ensures c.args.text.now P x.index x.counts.items c.args.fuel
    c.ended-ran.result i _ c.in-Halted.is
    (subst (λ (r : Ran). IsCounted (plain_program P) c.args.fuel r x.index x.counts.items) (sym c.ended-ran.ensures)
    c.requires) c.steps_of-steps.result c.steps_of-steps.ensures c.in_ok-lines.lines.items c.in_ok-lines.ensures in
    c.in_ok-reply-in-Halted.ensures c.args.text.now P c.args.fuel c.steps_of-steps.result told.0
    (subst (HaltedAfter (plain_program P) c.steps_of-steps.result) kept told.1) told.2

pub returns-in_ok-reply-in-Spent : goal.returns-in_ok-reply-in-Spent
returns-in_ok-reply-in-Spent c =
    let P = spanned_program (checked_program c.args.program.now) in
    let x = c.args.counted.now in
    let told = running_told c.first_counts_are_times.ensures c.args.text.now P x.index x.counts.items c.args.fuel
    c.ended-ran.result c.in-Spent.is
    (subst (λ (r : Ran). IsCounted (plain_program P) c.args.fuel r x.index x.counts.items) (sym c.ended-ran.ensures)
    c.requires) c.steps_of-steps.result c.steps_of-steps.ensures c.in_ok-lines.lines.items c.in_ok-lines.ensures in
    c.in_ok-reply-in-Spent.ensures c.args.text.now P told.0 told.1
