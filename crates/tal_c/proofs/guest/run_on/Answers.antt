use Rattle.std.proofs.Common.{Some, refl}
use Rattle.tal_c.proofs.GuestLemmas.{guest_run}
use Rattle.tal_c.proofs.guest.run_on.Goals as goal

pub returns-in-Some : goal.returns-in-Some
returns-in-Some c =
    guest_run c.args.fuel c.args.guest.now (record { machine = Some c.run.new.self }) c.in-Some.machine
    c.run.new.self c.run.result c.of_run.result c.in-Some.is refl c.of_run.ensures c.run.ensures.stands
    c.run.ensures.answer c.run.ensures.spare c.run.ensures.covered
    c.run.ensures.reached (c.run.ensures.most, c.run.ensures.within)
