use Rattle.std.proofs.Common.{Some, refl}
use Rattle.tal_c.proofs.GuestLemmas.{guest_reserve}
use Rattle.tal_c.proofs.guest.reserve_in.Goals as goal

pub returns-in-Some : goal.returns-in-Some
returns-in-Some c =
    guest_reserve c.args.guest.now (record { machine = Some c.reserve.new.self }) c.in-Some.machine
    c.reserve.new.self c.reserve.result c.of_taken.result c.in-Some.is refl c.of_taken.ensures
    c.reserve.ensures.stands c.reserve.ensures.kept
    (c.reserve.ensures.most, c.reserve.ensures.within) c.args.tuples c.args.fields c.reserve.ensures.taken
