use Rattle.t_terms.specs.Spanned.{plain_program}
use Rattle.tal_c.proofs.TextLemmas.{run_told}
use Rattle.tal_c.proofs.texts.talc_run.Goals as goal

pub returns-in-Ok : goal.returns-in-Ok
returns-in-Ok c =
    let l = c.in-Ok.ensures in
    run_told c.args.fuel c.args.text.now c.in-Ok.machine c.run.result c.of_run.result l
    (c.run.ensures.answer (plain_program l.program) l.whole l.accepted.1 0 l.stands) c.of_run.ensures
