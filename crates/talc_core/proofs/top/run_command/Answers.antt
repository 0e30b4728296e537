use Rattle.talc_words.specs.Reads.{asked_by}
use Rattle.talc_core.proofs.DoesLemmas.{does_ended, does_failed}
use Rattle.talc_core.proofs.top.run_command.Goals as goal

pub returns-in-Ok : goal.returns-in-Ok
returns-in-Ok g c =
    let told = g.E.Sink.state c.args.err.now in
    does_ended (g.F.Files.state c.args.files.now) (g.F.Files.state c.perform.new.files) (g.O.Sink.state c.args.out.now)
    (g.O.Sink.state c.perform.new.out) told told (asked_by c.args.command) c.in-Ok.ending c.status.result
    c.status.ensures c.in-Ok.ensures

pub returns-in-Err : goal.returns-in-Err
returns-in-Err g c =
    does_failed _ _ _ _ _ _ (asked_by c.args.command) c.in-Err.failure c.report.result c.in-Err.ensures
    c.report.ensures
