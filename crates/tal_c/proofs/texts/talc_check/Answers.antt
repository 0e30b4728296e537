use Rattle.t_check.specs.Checked.{checked_program}
use Rattle.tal_c.proofs.TextLemmas.{accepted_told}
use Rattle.tal_c.proofs.texts.talc_check.Goals as goal

pub returns-in-Ok : goal.returns-in-Ok
returns-in-Ok c =
    let program = checked_program c.in-Ok.checked in
    accepted_told c.accepted_programs_are_never_stuck.ensures.runs c.args.text.now program c.accept.result
    c.in-Ok.ensures program.whole.0 c.accept.ensures
