use Rattle.std.proofs.Common.{Some, refl}
use Rattle.tal_c.proofs.GuestLemmas.{guest_collect}
use Rattle.tal_c.proofs.guest.collect_in.Goals as goal

pub returns-in-Some : goal.returns-in-Some
returns-in-Some c =
    guest_collect c.args.guest.now (record { machine = Some c.collect.new.self }) c.in-Some.machine
    c.collect.new.self c.collect.result c.of_taken.result c.in-Some.is refl c.of_taken.ensures
    c.collect.ensures.stands c.collect.ensures.kept
    (c.collect.ensures.most, c.collect.ensures.within) c.collect.ensures.exactly c.collect.ensures.counted
    c.collect.ensures.unmoved
