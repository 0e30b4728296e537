use Rattle.std.proofs.Common.{Some, refl}
use Rattle.tal_c.proofs.GuestLemmas.{guest_within}
use Rattle.tal_c.proofs.guest.cap.Goals as goal

pub returns-in-Some : goal.returns-in-Some
returns-in-Some c =
    guest_within c.args.tuples c.args.fields c.args.guest.now (record { machine = Some c.within.new.self })
    c.in-Some.machine c.within.new.self c.bare.result c.in-Some.is refl c.bare.ensures c.within.ensures.stands
    c.within.ensures.tuples c.within.ensures.fields c.within.ensures.within c.within.ensures.spare
