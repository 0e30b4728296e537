use Rattle.t_check.specs.Checked.{checked_program}
use Rattle.talc_core.proofs.AssemblyLemmas.{accepted_shown}
use Rattle.talc_core.proofs.commands.check.checked_with_reply.Goals as goal

pub returns : goal.returns
returns c =
    let program = checked_program c.in_ok-checked.checked in
    accepted_shown c.accepted_programs_are_never_stuck.ensures.runs c.args.text.now c.in_ok-line.line.items program
    program.whole.0 c.in_ok-checked.ensures c.in_ok-line.ensures.items
